-- What a turn finds at a place, where it has looked at those before.
use Rattle.std.proofs.Common.{◌≡◌, ℕ, ◌+◌, ◌<◌, ◌≤◌, ◌⊎◌, Bool, true, false, List, [], ◌∷◌, ◌++◌, get_or, length, Option, Some, None, refl, sym, subst, ◌∙◌, arith, inl, inr, if◌then◌else◌}
use Rattle.std.specs.Prelude.{IfSome}
use Rattle.std.specs.List.{cons_option}
use Rattle.syntect_reading_choice.specs.syntect_pattern.Pattern.{pattern_found}
use Rattle.syntect_reading_choice.specs.syntect_regex.Region.{BeginsAt, TakesAt}
use Rattle.syntect_reading_choice.specs.syntect_grammar_contexts.Substitution.{Groups}
use Rattle.syntect_reading_choice.specs.Ahead.{AddsMember, IsAhead, IsBestAt}
use Rattle.syntect_reading_choice.specs.Best.{IsBest}
use Rattle.syntect_reading_choice.specs.ChoiceViews.{text_of}
use Rattle.syntect_reading_choice.specs.Chain.{Member}
use Rattle.syntect_reading_choice.specs.Engine.{dialect}
use Rattle.syntect_reading_choice.specs.Found.{FindsInText}
use Rattle.syntect_reading_choice.specs.Reader.{match_of, search_of, seen_by}
use Rattle.syntect_reading_choice.specs.Turn.{Live, counts, group_at, loops, searched_text}
use Rattle.syntect_reading_choice.proofs.BestLaws.{best_led, best_same, not_counted}
use Rattle.syntect_reading_choice.proofs.PartLaws.{best_skipped}
use Rattle.syntect_reading_choice.proofs.Places.{IfEnds, matched_ends}
use Rattle.syntect_reading_choice.specs.declared.reader.LineReader.{LineReader}
use Rattle.syntect_reading_choice.specs.declared.search.Best.{Best}
use Rattle.syntect_reading_choice.specs.declared.search.Candidate.{Candidate}

-- a search of the member from the place on finds these groups, and there
abbrev pub FindsHere : LineReader → ℕ → Member → Groups → Type 0
FindsHere reader i m groups = (search_of reader i m ≡ Some groups) × BeginsAt groups i

-- ---- one member ----

module _ (reader : LineReader) (m : Member) where
  abbrev text : List ℕ
  text = searched_text dialect m.pattern m.opening

  abbrev live_of : Option Live
  live_of = match_of reader m

  pub ahead_next : (lost : Bool) (i : ℕ) → IsAhead reader lost i m → search_of reader i m ≡ search_of reader (i + 1) m → IsAhead reader lost (i + 1) m
  ahead_next lost i (inl e) f = inl (e.0, e.1 ∙ f)
  ahead_next lost i (inr h) f = inr h

  -- one that isn't out is ahead of the turn's place
  pub ahead_first : (lost : Bool) → lost ≡ false → IsAhead reader lost reader.position.now.place m
  ahead_first lost e = inl (e, refl)

  -- one that is out is ahead of each place
  pub out_still : (lost : Bool) (i j : ℕ) → lost ≡ true → IsAhead reader lost i m → IsAhead reader lost j m
  out_still lost i j e (inl k) = let f : true ≡ false = sym e ∙ k.0 in cc
  out_still lost i j e (inr k) = inr k

  module _ (finds : FindsInText dialect) where
    starts : (i : ℕ) (o : Option Live) → IfEnds reader.line.now i o → IfSome o (λ k. i ≤ k.start)
    starts i None h = tt
    starts i (Some k) h = h.from

    -- a match of a member that is ahead begins no earlier
    pub ahead_starts : (lost : Bool) (i : ℕ) → IsAhead reader lost i m → IfSome live_of (λ k. i ≤ k.start)
    ahead_starts lost i (inl e) =
        rw e.1 (starts i _ (matched_ends dialect finds reader.line.now reader.text (length reader.position.now.levels) i m text (search_of reader i m) (λ groups s x g k. finds text reader.line.now i s x groups reader.text g k)))
    ahead_starts lost i (inr h) = rw h.1 tt

    behind : (i : ℕ) (o : Option Live) → IfSome o (λ k. i + 1 ≤ k.start) → IfSome o (λ k. i < k.start)
    behind i None h = tt
    behind i (Some k) h = omega (arith, h)

    pub ahead_behind : (lost : Bool) (i : ℕ) → IsAhead reader lost (i + 1) m → IfSome live_of (λ k. i < k.start)
    ahead_behind lost i h = behind i live_of (ahead_starts lost (i + 1) h)

  -- ---- a match begins here ----

  whole : (r : Groups) → get_or r 0 None ≡ group_at r 0
  whole [] = refl
  whole (x ∷ xs) = refl

  found_here : (i : ℕ) (g : Groups) → IsAhead reader false i m → FindsHere reader i m g → search_of reader reader.position.now.place m ≡ Some g
  found_here i g (inl e) h = e.1 ∙ h.0
  found_here i g (inr k) h = let f : false ≡ true = k.0 in cc

  -- one that counts is what the turn has of the member
  pub counted_here : (i : ℕ) (c : Candidate) (g : Groups) → IsAhead reader false i m → FindsHere reader i m g → get_or g 0 None ≡ Some (c.start, c.end)
      → counts (length reader.position.now.levels) m.pattern.operation c.start c.end ≡ true → c.pattern.now ≡ m.pattern → c.from_with_prototype ≡ m.from_with_prototype → text_of c ≡ text
      → (live_of ≡ Some (seen_by reader c)) × (g ≡ (seen_by reader c).groups) × (c.start ≡ i)
  counted_here i c g a h e f pattern from same =
      let found : search_of reader reader.position.now.place m ≡ Some g = found_here i g a h in
      let at : group_at g 0 ≡ Some (c.start, c.end) = sym (whole g) ∙ e in
      (rw (found, at, f, same, found, pattern, from) refl, rw (same, found) refl, h.1 c.start c.end e)

  -- where the first doesn't count, it has none that does
  pub none_whole : (i : ℕ) (g : Groups) → IsAhead reader false i m → FindsHere reader i m g → get_or g 0 None ≡ None → live_of ≡ None
  none_whole i g a h e =
      let found : search_of reader reader.position.now.place m ≡ Some g = found_here i g a h in
      let at : group_at g 0 ≡ None = sym (whole g) ∙ e in
      rw (found, at) refl

  pub none_counted : (i s x : ℕ) (g : Groups) → IsAhead reader false i m → FindsHere reader i m g → get_or g 0 None ≡ Some (s, x) → counts (length reader.position.now.levels) m.pattern.operation s x ≡ false → live_of ≡ None
  none_counted i s x g a h e f = not_counted reader.line.now (length reader.position.now.levels) reader.position.now.place s x m text g refl (found_here i g a h) e f

-- ---- the best with one member more ----

module _ (reader : LineReader) (i : ℕ) where
  pub no_match : (b : Best) (ms : List Live) (c : Candidate) → IsBest reader.line.now reader.position.now i ms b → b.candidate ≡ Some c → b.is_match ≡ false → ⊥
  no_match b ms c h e f = let k : Some c ≡ None = sym e ∙ (h.none f).1 in cc

  -- where one is found already, a member that is ahead changes nothing
  pub best_kept : (b : Best) (ms : List Live) (c : Candidate) (o : Option Live) → IsBestAt reader i ms b → b.candidate ≡ Some c → IfSome o (λ k. i ≤ k.start) → IsBestAt reader i (ms ++ cons_option o []) b
  best_kept b ms c o h e l = record {
    best = best_same reader.line.now reader.position.now i b ms o h.best (λ k f. (from b.is_match refl k f, λ _ n. absurd (let q : Some c ≡ None = sym e ∙ n in cc)));
    here = h.here;
  }
    where
      at : (x : Option Live) (k : Live) → x ≡ Some k → IfSome x (λ y. i ≤ y.start) → i ≤ k.start
      at None k f g = cc
      at (Some y) k f g = let same : y ≡ k = cc in subst (λ (z : Live). i ≤ z.start) same g

      from : (t : Bool) → b.is_match ≡ t → (k : Live) → o ≡ Some k → b.start ≤ k.start
      from true t k f = omega (arith, h.here t, at o k f l)
      from false t k f = absurd (no_match b ms c h.best e t)

  -- a member whose match begins after the place changes nothing
  pub best_passed_by : (b : Best) (ms : List Live) (o : Option Live) → IsBestAt reader i ms b → IfSome o (λ k. i < k.start) → IsBestAt reader i (ms ++ cons_option o []) b
  best_passed_by b ms o h l = record { best = best_skipped reader.line.now reader.position.now i b ms o h.best l; here = h.here }

  -- a match at the place is the best, where none that goes on is found yet
  pub best_taken_at : (b : Best) (ms : List Live) (o : Option Live) (m : Candidate) (new : Best) → IsBestAt reader i ms b → b.candidate ≡ None → o ≡ Some (seen_by reader m)
      → reader.position.now.place ≤ m.start → m.start ≡ i → new.start ≡ m.start → new.is_match ≡ true → new.candidate ≡ (if loops reader.position.now (seen_by reader m) then None else Some m)
      → IsBestAt reader i (ms ++ cons_option o []) new
  best_taken_at b ms o m new h n e from at s is c = rw e (record {
    best = best_led reader.line.now reader.position.now i b ms m new h.best (leads b.is_match refl) from s is c;
    here = λ _. omega (arith, s, at);
  })
    where
      leads : (t : Bool) → b.is_match ≡ t → (m.start < b.start) ⊎ ((m.start ≡ b.start) × (b.is_match ≡ true) × (b.candidate ≡ None))
      leads true t = inr (omega (arith, h.here t, at), t, n)
      leads false t = inl (omega (arith, (h.best.none t).0, at))

  -- ---- what is found with a member more ----

  module _ (m : Member) where
    -- nothing begins here
    pub adds_none : FindsInText dialect → (lost : Bool) → lost ≡ false → (b : Best) (ms : List Live) → IsAhead reader false i m → IsBestAt reader i ms b
        → search_of reader i m ≡ search_of reader (i + 1) m → AddsMember reader i lost m ms b
    adds_none finds lost n b ms a h e =
        let next : IsAhead reader lost (i + 1) m = ahead_next reader m lost i (subst (λ (t : Bool). IsAhead reader t i m) (sym n) a) e in
        record { best = best_passed_by b ms _ h (ahead_behind reader m finds lost i next); ahead = λ _. next }

    -- it has no match that counts
    pub adds_lost : (lost : Bool) (b : Best) (ms : List Live) → lost ≡ true → match_of reader m ≡ None → IsBestAt reader i ms b → AddsMember reader i lost m ms b
    adds_lost lost b ms k n h = record {
      best = best_passed_by b ms _ h (rw n tt);
      ahead = λ _. inr (k, n);
    }

    -- one that counts begins here
    pub adds_taken : (lost : Bool) (b : Best) (ms : List Live) (c : Candidate) (new : Best) → IsBestAt reader i ms b → b.candidate ≡ None
        → match_of reader m ≡ Some (seen_by reader c) → reader.position.now.place ≤ c.start → c.start ≡ i
        → new.start ≡ c.start → new.is_match ≡ true → new.candidate ≡ (if loops reader.position.now (seen_by reader c) then None else Some c) → AddsMember reader i lost m ms new
    adds_taken lost b ms c new h n e from at s is d = record {
      best = best_taken_at b ms _ c new h n e from at s is d;
      ahead = λ f. absurd (let k : true ≡ false = sym is ∙ f in cc);
    }

    pub adds_counted : (lost : Bool) (b : Best) (ms : List Live) (c : Candidate) (new : Best) (g : Groups) → reader.position.now.place ≤ i → IsAhead reader false i m → FindsHere reader i m g
        → get_or g 0 None ≡ Some (c.start, c.end) → counts (length reader.position.now.levels) m.pattern.operation c.start c.end ≡ true → c.pattern.now ≡ m.pattern → c.from_with_prototype ≡ m.from_with_prototype
        → text_of c ≡ searched_text dialect m.pattern m.opening → IsBestAt reader i ms b → b.candidate ≡ None
        → new.start ≡ c.start → new.is_match ≡ true → new.candidate ≡ (if loops reader.position.now (seen_by reader c) then None else Some c) → AddsMember reader i lost m ms new
    adds_counted lost b ms c new g l a f at counted pattern from same h n s is d =
        let here : (match_of reader m ≡ Some (seen_by reader c)) × (g ≡ (seen_by reader c).groups) × (c.start ≡ i) =
        counted_here reader m i c g a f at counted pattern from same in
        adds_taken lost b ms c new h n here.0 (omega (arith, l, here.2)) here.2 s is d

-- the groups of what leads are those that were kept
pub groups_led : (reader : LineReader) (c : Candidate) (x : Option Candidate) (t : Bool) (g : Groups) → x ≡ (if t then None else Some c) → g ≡ (seen_by reader c).groups
    → (m : Candidate) → x ≡ Some m → g ≡ (seen_by reader m).groups
groups_led reader c x true g e h m f = let n : None ≡ Some m = sym e ∙ f in cc
groups_led reader c x false g e h m f = let n : Some c ≡ Some m = sym e ∙ f in subst (λ (k : Candidate). g ≡ (seen_by reader k).groups) (some_same c m n) h
  where
    some_same : (a b : Candidate) → Some a ≡ Some b → a ≡ b
    some_same a b q = cc

-- what a try at a place tells of the text that is searched
pub none_from : (line : List ℕ) (i : ℕ) (text searched : List ℕ) (old new : Groups) (found : Bool) → searched ≡ text → TakesAt (pattern_found searched line) i old found new → found ≡ false
    → pattern_found text line i ≡ pattern_found text line (i + 1)
none_from line i text searched old new true e t f = cc
none_from line i text searched old new false e t f = rw e at t.1

pub found_from : (line : List ℕ) (i : ℕ) (text searched : List ℕ) (old new : Groups) (found : Bool) → searched ≡ text → TakesAt (pattern_found searched line) i old found new → found ≡ true
    → (pattern_found text line i ≡ Some new) × BeginsAt new i
found_from line i text searched old new true e t f = (rw e at t.0, t.1)
found_from line i text searched old new false e t f = cc

-- where a match that counts begins here, the groups that were kept are those of what leads
pub groups_counted : (reader : LineReader) (m : Member) (i : ℕ) (c : Candidate) (x : Option Candidate) (g kept : Groups) → x ≡ (if loops reader.position.now (seen_by reader c) then None else Some c) → kept ≡ g
    → IsAhead reader false i m → FindsHere reader i m g → get_or g 0 None ≡ Some (c.start, c.end) → counts (length reader.position.now.levels) m.pattern.operation c.start c.end ≡ true
    → c.pattern.now ≡ m.pattern → c.from_with_prototype ≡ m.from_with_prototype → text_of c ≡ searched_text dialect m.pattern m.opening
    → (k : Candidate) → x ≡ Some k → kept ≡ (seen_by reader k).groups
groups_counted reader m i c x g kept e same a f at counted pattern from text k is =
    groups_led reader c x (loops reader.position.now (seen_by reader c)) kept e (same ∙ (counted_here reader m i c g a f at counted pattern from text).1) k is
