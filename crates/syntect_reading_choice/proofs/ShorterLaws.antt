-- Parts of a chain that are left out.
use Rattle.std.proofs.Common.{◌≡◌, ℕ, zero, suc, ◌+◌, ◌≤◌, ◌<◌, nat_le, Bool, true, not, ◌&&◌, List, [], ◌∷◌, ◌++◌, length, map, take, find, get_or, Option, Some, None, refl, sym, ap, subst, ◌∙◌, arith, append_assoc, length-append, if◌then◌else◌}
use Rattle.std.specs.List.{flat_map}
use Rattle.std.specs.Option.{option_or}
use Rattle.std.proofs.lemmas.List.{append-nil, length-map, take_all}
use Rattle.std.proofs.Math.Seq.{take-suc}
use Rattle.syntect_reading_choice.proofs.syntect_grammar_proofs.SameLaws.{find_append, none_left, none_right, same_all, same_append, same_filter_map, same_self}
use Rattle.syntect_reading_choice.specs.syntect_grammar.Walk.{FindsSame}
use Rattle.syntect_reading_choice.specs.syntect_grammar.declared.syntax_set.SyntaxSet.{SyntaxSet}
use Rattle.syntect_reading_choice.specs.Ahead.{run_members}
use Rattle.syntect_reading_choice.specs.Chain.{Member}
use Rattle.syntect_reading_choice.specs.Parts.{part_members, seen_part, source_members}
use Rattle.syntect_reading_choice.specs.Reader.{match_of, matches_of}
use Rattle.syntect_reading_choice.specs.Shorter.{AreShorter, HasSame}
use Rattle.syntect_reading_choice.specs.Steps.{AreWithin, is_within, place_steps, turn_steps}
use Rattle.syntect_reading_choice.specs.Turn.{Live, choice_of, is_least, loops, winner}
use Rattle.syntect_reading_choice.specs.declared.chain.Part.{Part}
use Rattle.syntect_reading_choice.specs.declared.position.Position.{Position}
use Rattle.syntect_reading_choice.specs.declared.reader.LineReader.{LineReader}
use Rattle.syntect_reading_choice.specs.declared.runs.Run.{Run}
use Rattle.syntect_reading_choice.proofs.StepLaws.{more_room}

-- ---- one part ----

pub seen_same : (a b : Part) → a.id ≡ b.id → a.from_with_prototype ≡ b.from_with_prototype → a.opening ≡ None → b.opening ≡ None → seen_part a ≡ seen_part b
seen_same a b i f n m = rw (i, f, n, m) refl

part_at : (rs : List Run) (k : ℕ) (d : Part) (r : Run) → k < length rs → r ≡ get_or rs k r → get_or (map (λ x. x.part) rs) k d ≡ r.part
part_at [] k d r l e = absurd (omega (arith, l))
part_at (x ∷ rs) zero d r l e = ap (λ (y : Run). y.part) (sym e)
part_at (x ∷ rs) (suc k) d r l e = part_at rs k d r (omega (arith, l)) e

pub has_same : (rs : List Run) (k : ℕ) (part : Part) (r : Run) → k < length rs → r ≡ get_or rs k r → seen_part r.part ≡ seen_part part → HasSame (map (λ x. x.part) rs) part
has_same rs k part r l e s = (k, omega (arith, l, length-map rs (λ x. x.part)), ap seen_part (part_at rs k part r l e) ∙ s)

pub part_pushed : (rs new : List Run) (r : Run) (x : Part) → new ≡ rs ++ r ∷ [] → r.part ≡ x → map (λ s. s.part) new ≡ map (λ s. s.part) rs ++ x ∷ []
part_pushed rs new r x e f = ap (map (λ s. s.part)) e ∙ by rs ∙ ap (λ y. map (λ s. s.part) rs ++ y ∷ []) f
  where
    by : (ys : List Run) → map (λ s. s.part) (ys ++ r ∷ []) ≡ map (λ s. s.part) ys ++ r.part ∷ []
    by [] = refl
    by (y ∷ ys) = ap (λ zs. y.part ∷ zs) (by ys)

-- ---- parts one after another ----

flat_end_is : {X Y : Type 0} (g : X → List Y) (xs : List X) (x : X) → flat_map g (xs ++ x ∷ []) ≡ flat_map g xs ++ g x
flat_end_is g [] x = append-nil (g x)
flat_end_is g (y ∷ ys) x = ap (λ zs. g y ++ zs) (flat_end_is g ys x) ∙ sym (append_assoc (g y) (flat_map g ys) (g x))

flat_next : {X Y : Type 0} (g : X → List Y) (xs : List X) (i : ℕ) (x : X) → i < length xs → x ≡ get_or xs i x → flat_map g (take (i + 1) xs) ≡ flat_map g (take i xs) ++ g x
flat_next g xs i x l e =
    let next : suc i ≡ i + 1 = omega arith in
    let front : take i xs ++ x ∷ [] ≡ take (suc i) xs = sym (take-suc xs i x l ∙ ap (λ y. take i xs ++ y ∷ []) (sym e)) in
    sym (ap (λ n. flat_map g (take n xs)) next) ∙ sym (ap (flat_map g) front) ∙ flat_end_is g (take i xs) x

none_of_same : (set : SyntaxSet) (f : Member → Bool) (some : List Part) (x : Part) (k : ℕ) → k < length some → seen_part (get_or some k x) ≡ seen_part x → find f (flat_map (part_members set) some) ≡ None
    → find f (part_members set x) ≡ None
none_of_same set f [] x k l e n = absurd (omega (arith, l))
none_of_same set f (p ∷ ps) x zero l e n =
    subst (λ ms. find f ms ≡ None) (ap (source_members set) e) (none_left f (part_members set p) (flat_map (part_members set) ps) n)
none_of_same set f (p ∷ ps) x (suc k) l e n = none_of_same set f ps x k (omega (arith, l)) e (none_right f (part_members set p) (flat_map (part_members set) ps) n)

module _ (set : SyntaxSet) (all : List Part) where
  pub shorter_first : AreShorter set [] (take 0 all)
  shorter_first = record { finds = same_self []; few = omega arith }

  pub shorter_more : (some new : List Part) (i : ℕ) (x : Part) → i < length all → x ≡ get_or all i x → new ≡ some ++ x ∷ [] → AreShorter set some (take i all) → AreShorter set new (take (i + 1) all)
  shorter_more some new i x l e n h =
      let g = part_members set in
      let front : flat_map g new ≡ flat_map g some ++ g x = ap (flat_map g) n ∙ flat_end_is g some x in
      let next : flat_map g (take (i + 1) all) ≡ flat_map g (take i all) ++ g x = flat_next g all i x l e in
      record {
        finds = rw (front, next) (same_append (flat_map g some) (flat_map g (take i all)) (g x) (g x) h.finds (same_self (g x)));
        few = omega (arith, ap length front, ap length next, length-append (flat_map g some) (g x), length-append (flat_map g (take i all)) (g x), h.few);
      }

  pub shorter_skip : (some : List Part) (i : ℕ) (x : Part) → i < length all → x ≡ get_or all i x → HasSame some x → AreShorter set some (take i all) → AreShorter set some (take (i + 1) all)
  shorter_skip some i x l e s h =
      let g = part_members set in
      let next : flat_map g (take (i + 1) all) ≡ flat_map g (take i all) ++ g x = flat_next g all i x l e in
      record {
        finds = rw next (λ f. by f (find f (flat_map g some)) refl);
        few = omega (arith, ap length next, length-append (flat_map g (take i all)) (g x), h.few);
      }
    where
      by : (f : Member → Bool) (o : Option Member) → find f (flat_map (part_members set) some) ≡ o → find f (flat_map (part_members set) some) ≡ find f (flat_map (part_members set) (take i all) ++ part_members set x)
      by f None q =
          let n : find f (flat_map (part_members set) (take i all)) ≡ None = sym (h.finds f) ∙ q in
          let m : find f (part_members set x) ≡ None = none_of_same set f some x s.0 s.1 s.2 q in
          q ∙ sym (find_append f (flat_map (part_members set) (take i all)) (part_members set x) ∙ ap (λ o. option_or o (find f (part_members set x))) n ∙ m)
      by f (Some y) q =
          let n : find f (flat_map (part_members set) (take i all)) ≡ Some y = sym (h.finds f) ∙ q in
          q ∙ sym (find_append f (flat_map (part_members set) (take i all)) (part_members set x) ∙ ap (λ o. option_or o (find f (part_members set x))) n)

  pub shorter_last : (some : List Part) (i : ℕ) → length all ≤ i → AreShorter set some (take i all) → AreShorter set some all
  shorter_last some i l h = subst (λ (ps : List Part). AreShorter set some ps) (take_all i all l) h

-- ---- the winner ----

find_alike : {X : Type 0} (f g : X → Bool) (xs : List X) → ((x : X) → f x ≡ g x) → find f xs ≡ find g xs
find_alike f g [] h = refl
find_alike f g (x ∷ xs) h = ap (λ b. if b then Some x else find f xs) (h x) ∙ ap (λ o. if g x then Some x else o) (find_alike f g xs h)

choice_alike : (line : List ℕ) (place : ℕ) (xs ys : List Live) (o : Option Live) → FindsSame xs ys → choice_of line place xs o ≡ choice_of line place ys o
choice_alike line place xs ys (Some m) h = refl
choice_alike line place [] [] None h = refl
choice_alike line place [] (y ∷ ys) None h = let e = h (λ x. true) in cc
choice_alike line place (x ∷ xs) [] None h = let e = h (λ x. true) in cc
choice_alike line place (x ∷ xs) (y ∷ ys) None h = refl

pub winner_alike : (line : List ℕ) (p : Position) (xs ys : List Live) → FindsSame xs ys → winner line p xs ≡ winner line p ys
winner_alike line p xs ys h =
    ap (choice_of line p.place xs)
    (find_alike (λ m. is_least xs m && not (loops p m)) (λ m. is_least ys m && not (loops p m)) xs (λ m. ap (λ b. b && not (loops p m)) (same_all (λ k. nat_le m.start k.start) xs ys h))
    ∙ h (λ m. is_least ys m && not (loops p m)))
    ∙ choice_alike line p.place xs ys (find (λ m. is_least ys m && not (loops p m)) ys) h

-- those of runs
pub run_parts : (set : SyntaxSet) (runs : List Run) → flat_map (run_members set) runs ≡ flat_map (part_members set) (map (λ r. r.part) runs)
run_parts set [] = refl
run_parts set (r ∷ rs) = ap (λ l. part_members set r.part ++ l) (run_parts set rs)

pub runs_find : (set : SyntaxSet) (runs : List Run) (parts : List Part) → AreShorter set (map (λ r. r.part) runs) parts → FindsSame (flat_map (run_members set) runs) (flat_map (part_members set) parts)
runs_find set runs parts h = rw (run_parts set runs) h.finds

pub runs_winner : (reader : LineReader) (runs : List Run) (parts : List Part) → AreShorter reader.set.now (map (λ r. r.part) runs) parts
    → winner reader.line.now reader.position.now (matches_of reader (flat_map (run_members reader.set.now) runs))
    ≡ winner reader.line.now reader.position.now (matches_of reader (flat_map (part_members reader.set.now) parts))
runs_winner reader runs parts h =
    winner_alike reader.line.now reader.position.now (matches_of reader (flat_map (run_members reader.set.now) runs)) (matches_of reader (flat_map (part_members reader.set.now) parts))
    (same_filter_map (match_of reader) (flat_map (run_members reader.set.now) runs) (flat_map (part_members reader.set.now) parts) (runs_find reader.set.now runs parts h))

-- ---- steps ----

pub runs_within : (set : SyntaxSet) (runs : List Run) (parts : List Part) (long w : ℕ) → AreShorter set (map (λ r. r.part) runs) parts → AreWithin long w (flat_map (part_members set) parts) → AreWithin long w (flat_map (run_members set) runs)
runs_within set runs parts long w h all =
    same_all (is_within long w) (flat_map (run_members set) runs) (flat_map (part_members set) parts) (runs_find set runs parts h) ∙ all

pub more_turns : (a b w long : ℕ) → a ≤ b → turn_steps a w long ≤ turn_steps b w long
more_turns a b w long l = more_room (place_steps a w) (place_steps b w) (long + 1) (more_room a b w l)

pub runs_few : (set : SyntaxSet) (runs : List Run) (parts : List Part) → AreShorter set (map (λ r. r.part) runs) parts → length (flat_map (run_members set) runs) ≤ length (flat_map (part_members set) parts)
runs_few set runs parts h = subst (λ (ms : List Member). length ms ≤ length (flat_map (part_members set) parts)) (sym (run_parts set runs)) h.few

pub runs_steps : (set : SyntaxSet) (runs : List Run) (parts : List Part) (w long made after : ℕ) → AreShorter set (map (λ r. r.part) runs) parts → after ≤ made + turn_steps (length (flat_map (run_members set) runs)) w long
    → after ≤ made + turn_steps (length (flat_map (part_members set) parts)) w long
runs_steps set runs parts w long made after h s =
    let m = more_turns (length (flat_map (run_members set) runs)) (length (flat_map (part_members set) parts)) w long (runs_few set runs parts h) in
    omega (arith, s, m)
