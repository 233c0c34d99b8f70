-- What a turn finds while it goes through the chain.
use Rattle.std.proofs.Common.{◌≡◌, ℕ, ◌<◌, ◌≤◌, ◌==◌, ◌&&◌, nat_le, not, ◌||◌, cond, Bool, true, false, List, [], ◌∷◌, ◌++◌, find, get_or, length, Option, Some, None, refl, sym, ap, subst, ◌∙◌, arith, ◌⊎◌, inl, inr, if◌then◌else◌}
use Rattle.std.specs.Prelude.{IfSome}
use Rattle.std.specs.List.{list_all, list_any, cons_option}
use Rattle.std.specs.Option.{option_map, option_or}
use Rattle.std.proofs.lemmas.Bool.Decides.{nat_tests}
use Rattle.std.proofs.lemmas.List.{append-nil}
use Rattle.std.proofs.lemmas.List.Folds.{find-append, list_all-append}
use Rattle.std.specs.Str.{IsUtf8}
use Rattle.syntect_reading_choice.specs.syntect_pattern.Pattern.{pattern_found}
use Rattle.syntect_reading_choice.specs.Chain.{Member}
use Rattle.syntect_reading_choice.specs.Engine.{dialect}
use Rattle.syntect_reading_choice.specs.Found.{FindsInText}
use Rattle.syntect_reading_choice.proofs.Places.{AllEnd, no_more, and_more, live_ends}
use Rattle.syntect_reading_choice.specs.syntect_grammar_contexts.Substitution.{Groups}
use Rattle.syntect_reading_choice.specs.Turn.{counts, group_at, live, live_match, searched_text, Live, End, choice_of, is_least, loops, winner}
use Rattle.syntect_reading_choice.specs.ChoiceViews.{live_from}
use Rattle.syntect_reading_choice.specs.Best.{IsBest, choice_by, decided}
use Rattle.syntect_reading_choice.specs.declared.position.Position.{Position}
use Rattle.syntect_reading_choice.specs.declared.search.Best.{Best}
use Rattle.syntect_reading_choice.specs.declared.search.Candidate.{Candidate}

-- ---- lists of matches by their starts ----

both : (a b : Bool) → (a && b) ≡ true → (a ≡ true) × (b ≡ true)
both true b e = (refl, e)
both false b e = cc

and_true : (a b : Bool) → a ≡ true → b ≡ true → (a && b) ≡ true
and_true a b e f = rw (e, f) refl

-- none begins before an earlier start either
all_from : (s t : ℕ) (ms : List Live) → s ≤ t → list_all (λ k. nat_le t k.start) ms ≡ true → list_all (λ k. nat_le s k.start) ms ≡ true
all_from s t [] l h = refl
all_from s t (m ∷ ms) l h =
    let h2 = both (nat_le t m.start) (list_all (λ k. nat_le t k.start) ms) h in
    let first : nat_le t m.start ≡ true = h2.0 in
    and_true (nat_le s m.start) (list_all (λ k. nat_le s k.start) ms) (grind (arith, nat_tests)) (all_from s t ms l h2.1)

-- where all begin later, none is found at a start
none_at : (s t : ℕ) (p : Position) (ms : List Live) → s < t → list_all (λ k. nat_le t k.start) ms ≡ true → find (λ k. (k.start == s) && not (loops p k)) ms ≡ None
none_at s t p [] l h = refl
none_at s t p (m ∷ ms) l h =
    let h2 = both (nat_le t m.start) (list_all (λ k. nat_le t k.start) ms) h in
    let first : nat_le t m.start ≡ true = h2.0 in
    let other : (m.start == s) ≡ false = grind (arith, nat_tests) in
    rw other (none_at s t p ms l h2.1)

-- where one begins before a start, that start is not the least
not_least : (s t : ℕ) (ms : List Live) → s < t → list_any (λ k. k.start == s) ms ≡ true → list_all (λ k. nat_le t k.start) ms ≡ false
not_least s t [] l h = cc
not_least s t (m ∷ ms) l h = by (λ g. not_least s t ms l g) (m.start == s) refl h
  where
    and_false : (a : Bool) → (a && false) ≡ false
    and_false true = refl
    and_false false = refl

    by : (list_any (λ k. k.start == s) ms ≡ true → list_all (λ k. nat_le t k.start) ms ≡ false) → (b : Bool) → (m.start == s) ≡ b
        → (b || list_any (λ k. k.start == s) ms) ≡ true → (nat_le t m.start && list_all (λ k. nat_le t k.start) ms) ≡ false
    by rest true e g = let f : nat_le t m.start ≡ false = grind (arith, nat_tests) in rw f refl
    by rest false e g = rw (rest g) (and_false (nat_le t m.start))

any_behind : (f : Live → Bool) (xs ys : List Live) → list_any f ys ≡ true → list_any f (xs ++ ys) ≡ true
any_behind f [] ys h = h
any_behind f (x ∷ xs) ys h = by (f x) (any_behind f xs ys h)
  where
    by : (b : Bool) → list_any f (xs ++ ys) ≡ true → (b || list_any f (xs ++ ys)) ≡ true
    by true g = refl
    by false g = g

any_before : (f : Live → Bool) (xs ys : List Live) → list_any f xs ≡ true → list_any f (xs ++ ys) ≡ true
any_before f [] ys h = cc
any_before f (x ∷ xs) ys h = by (f x) (λ g. any_before f xs ys g) h
  where
    by : (b : Bool) → (list_any f xs ≡ true → list_any f (xs ++ ys) ≡ true) → (b || list_any f xs) ≡ true → (b || list_any f (xs ++ ys)) ≡ true
    by true rest h = refl
    by false rest h = rest h

module _ (line : List ℕ) (p : Position) (last : ℕ) where
  -- ---- a member more ----

  -- a match that begins so has no effect
  abbrev pub Passes : Best → Live → Type 0
  Passes b k = (b.start ≤ k.start) × (b.is_match ≡ true → b.candidate ≡ None → b.start < k.start)

  find_passed : (b : Best) (k : Live) → Passes b k → b.is_match ≡ true → option_map (live_from line p.place) b.candidate ≡ None → find (λ x. (x.start == b.start) && not (loops p x)) (k ∷ []) ≡ None
  find_passed b k h is none =
      let later : b.start < k.start = h.1 is (no_candidate b.candidate none) in
      let other : (k.start == b.start) ≡ false = grind (arith, nat_tests) in
      rw other refl
    where
      no_candidate : (o : Option Candidate) → option_map (live_from line p.place) o ≡ None → o ≡ None
      no_candidate None e = refl
      no_candidate (Some c) e = cc

  pub best_passed : (b : Best) (ms : List Live) (k : Live) → IsBest line p last ms b → Passes b k → IsBest line p last (ms ++ k ∷ []) b
  best_passed b ms k h l = record {
    least =
        let first : nat_le b.start k.start ≡ true = grind (arith, nat_tests, l.0) in
        list_all-append (λ x. nat_le b.start x.start) ms (k ∷ []) ∙ and_true _ _ h.least (and_true _ _ first refl);
    first = λ is. (
      any_before (λ x. x.start == b.start) ms (k ∷ []) (h.first is).0,
      find-append (λ x. (x.start == b.start) && not (loops p x)) ms (k ∷ [])
          ∙ stays (find (λ x. (x.start == b.start) && not (loops p x)) ms) (option_map (live_from line p.place) b.candidate) (find (λ x. (x.start == b.start) && not (loops p x)) (k ∷ [])) (h.first is).1 (find_passed b k l is),
    );
    none = h.none;
    near = h.near;
    bound = h.bound;
    from = h.from;
  }
    where
      stays : (x y z : Option Live) → x ≡ y → (y ≡ None → z ≡ None) → option_or x z ≡ y
      stays None None z e f = f refl
      stays None (Some y) z e f = cc
      stays (Some x) None z e f = cc
      stays (Some x) (Some y) z e f = e

  -- a match that begins before the best so far, or at the same place where all so far loop,
  -- is the best
  abbrev pub Leads : Best → ℕ → Type 0
  Leads b s = (s < b.start) ⊎ ((s ≡ b.start) × (b.is_match ≡ true) × (b.candidate ≡ None))

  nothing_there : (b : Best) (ms : List Live) (s : ℕ) → IsBest line p last ms b → Leads b s → find (λ x. (x.start == s) && not (loops p x)) ms ≡ None
  nothing_there b ms s h (inl l) = none_at s b.start p ms l h.least
  nothing_there b ms s h (inr l) =
      subst (λ n. find (λ x. (x.start == n) && not (loops p x)) ms ≡ None) (sym l.0) ((h.first l.1).1 ∙ ap (option_map (live_from line p.place)) l.2)

  not_behind : (b : Best) (s : ℕ) → Leads b s → s ≤ b.start
  not_behind b s (inl l) = omega (arith, l)
  not_behind b s (inr l) = omega (arith, l.0)

  up_to : (b : Best) (ms : List Live) (s : ℕ) → IsBest line p last ms b → Leads b s → s ≤ last
  up_to b ms s h (inl l) = omega (arith, l, h.bound)
  up_to b ms s h (inr l) = omega (arith, l.0, h.near l.1)

  pub best_led : (b : Best) (ms : List Live) (m : Candidate) (new : Best) → IsBest line p last ms b → Leads b m.start → p.place ≤ m.start
      → new.start ≡ m.start → new.is_match ≡ true → new.candidate ≡ (if loops p (live_from line p.place m) then None else Some m) → IsBest line p last (ms ++ live_from line p.place m ∷ []) new
  best_led b ms m new h l at s i o =
      let below : m.start ≤ b.start = not_behind b m.start l in
      let start_is : (m.start == m.start) ≡ true = grind (arith, nat_tests) in
      let itself : nat_le m.start m.start ≡ true = grind (arith, nat_tests) in
      record {
        least = rw s (list_all-append (λ x. nat_le m.start x.start) ms (live_from line p.place m ∷ []) ∙ and_true _ _ (all_from m.start b.start ms below h.least) (and_true _ _ itself refl));
        first = λ is. (
          rw s (any_behind (λ x. x.start == m.start) ms (live_from line p.place m ∷ []) (rw start_is refl)),
          rw (s, o) (find-append (λ x. (x.start == m.start) && not (loops p x)) ms (live_from line p.place m ∷ [])
              ∙ ap (λ x. option_or x (find (λ x. (x.start == m.start) && not (loops p x)) (live_from line p.place m ∷ []))) (nothing_there b ms m.start h l)
              ∙ rw start_is (by_loop (loops p (live_from line p.place m)))),
        );
        none = λ e. let f : true ≡ false = sym i ∙ e in cc;
        near = λ _. let f : m.start ≤ last = up_to b ms m.start h l in omega (arith, s, f);
        bound = omega (arith, s, below, h.bound);
        from = omega (arith, s, at);
      }
    where
      by_loop : (b : Bool) → cond (not b) (Some (live_from line p.place m)) None ≡ option_map (live_from line p.place) (if b then None else Some m)
      by_loop true = refl
      by_loop false = refl

  pub best_same : (b : Best) (ms : List Live) (o : Option Live) → IsBest line p last ms b → ((k : Live) → o ≡ Some k → Passes b k) → IsBest line p last (ms ++ cons_option o []) b
  best_same b ms None h l = subst (λ xs. IsBest line p last xs b) (sym (append-nil ms)) h
  best_same b ms (Some k) h l = best_passed b ms k h (l k refl)

  pub farther : (o : Option Live) (w : ℕ) (k : Live) → o ≡ Some k → IfSome o (λ x. w < x.start) → w < k.start
  farther None w k e h = cc
  farther (Some x) w k e h = let same : x ≡ k = cc in subst (λ (y : Live). w < y.start) same h

  -- ---- at the end ----

  same_test : (b : Best) (all ms : List Live) → list_all (λ k. nat_le b.start k.start) all ≡ true → list_any (λ k. k.start == b.start) all ≡ true → list_all (λ k. nat_le b.start k.start) ms ≡ true
      → find (λ m. is_least all m && not (loops p m)) ms ≡ find (λ k. (k.start == b.start) && not (loops p k)) ms
  same_test b all [] h i j = refl
  same_test b all (m ∷ ms) h i j =
      let j2 = both (nat_le b.start m.start) (list_all (λ k. nat_le b.start k.start) ms) j in
      rw (tests (m.start == b.start) refl j2.0, same_test b all ms h i j2.1) refl
    where
      tests : (t : Bool) → (m.start == b.start) ≡ t → nat_le b.start m.start ≡ true → is_least all m ≡ (m.start == b.start)
      tests true e f =
          let same : b.start ≡ m.start = grind (arith, nat_tests) in
          subst (λ n. list_all (λ k. nat_le n k.start) all ≡ true) same h ∙ sym e
      tests false e f =
          let later : b.start < m.start = grind (arith, nat_tests) in
          not_least b.start m.start all later i ∙ sym e

  pub best_wins : (b : Best) (ms : List Live) → IsBest line p last ms b → b.is_match ≡ true → choice_by line p.place b ≡ winner line p ms
  best_wins b ms h is =
      let f = h.first is in
      rw is (by_kind ms (option_map (live_from line p.place) b.candidate) f.0)
      ∙ ap (choice_of line p.place ms) (sym (same_test b ms ms h.least f.0 h.least ∙ f.1))
    where
      by_kind : (xs : List Live) (o : Option Live) → list_any (λ k. k.start == b.start) xs ≡ true → decided line p.place true o ≡ choice_of line p.place xs o
      by_kind xs (Some m) a = refl
      by_kind [] None a = cc
      by_kind (x ∷ xs) None a = refl

  pub best_ends : (b : Best) → b.is_match ≡ false → b.candidate ≡ None → choice_by line p.place b ≡ End
  best_ends b e f = rw (e, f) refl

-- where all would begin past the line, there is none
pub none_left : (s n : ℕ) (ms : List Live) → n < s → list_all (λ k. nat_le s k.start) ms ≡ true → list_all (λ k. nat_le k.start n) ms ≡ true → ms ≡ []
none_left s n [] l h i = refl
none_left s n (m ∷ ms) l h i =
    let a : nat_le s m.start ≡ true = (both (nat_le s m.start) (list_all (λ k. nat_le s k.start) ms) h).0 in
    let b : nat_le m.start n ≡ true = (both (nat_le m.start n) (list_all (λ k. nat_le k.start n) ms) i).0 in
    let x : s ≤ m.start = grind (arith, nat_tests) in
    let y : m.start ≤ n = grind (arith, nat_tests) in
    absurd (omega (arith, x, y, l))

-- ---- what doesn't count ----

-- a match that doesn't count is none
pub not_counted : (line : List ℕ) (height place s x : ℕ) (member : Member) (text : List ℕ) (region : Groups) → text ≡ searched_text dialect member.pattern member.opening
    → pattern_found text line place ≡ Some region → get_or region 0 None ≡ Some (s, x) → counts height member.pattern.operation s x ≡ false
    → live_match dialect height line place member ≡ None
not_counted line height place s x member text region t f g n =
    let text' : List ℕ = searched_text dialect member.pattern member.opening in
    let found : pattern_found text' line place ≡ Some region = rw t at f in
    let at : group_at region 0 ≡ Some (s, x) = whole region g in
    rw (found, at, n) refl
  where
    whole : (r : Groups) → get_or r 0 None ≡ Some (s, x) → group_at r 0 ≡ Some (s, x)
    whole [] e = cc
    whole (y ∷ ys) e = e

-- ---- the chain ----

all_inside : (line : List ℕ) (place : ℕ) (ms : List Live) → AllEnd line place ms → list_all (λ k. nat_le k.start (length line)) ms ≡ true
all_inside line place [] no_more = refl
all_inside line place (m ∷ ms) (and_more h r) =
    let l : m.start ≤ length line = omega (arith, h.ordered, h.within) in
    and_true (nat_le m.start (length line)) (list_all (λ k. nat_le k.start (length line)) ms) (grind (arith, nat_tests)) (all_inside line place ms r)

-- where nothing is found up to the line's end, there is no match
pub best_at_end : FindsInText dialect → (line : List ℕ) → IsUtf8 line → (p : Position) (members : List Member) (last : ℕ) (b : Best) → length line ≤ last → IsBest line p last (live dialect line p members) b → b.is_match ≡ false
    → choice_by line p.place b ≡ winner line p (live dialect line p members)
best_at_end finds line u p members last b l h e =
    let n = h.none e in
    let k : length line < b.start = omega (arith, n.0, l) in
    let none : live dialect line p members ≡ [] =
    none_left b.start (length line) (live dialect line p members) k h.least (all_inside line p.place (live dialect line p members) (live_ends dialect finds line u (length p.levels) p.place members)) in
    best_ends line p last b e n.1 ∙ sym (ap (winner line p) none)
