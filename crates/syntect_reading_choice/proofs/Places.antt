-- Matches end on character boundaries, and so does what is passed over.
use Rattle.std.proofs.Common.{◌≡◌, ℕ, ◌+◌, ◌<◌, ◌≤◌, nat_lt, Bool, true, false, not, ◌&&◌, List, [], ◌∷◌, length, find, drop, Option, Some, None, refl, ap, sym, ◌∙◌, arith, length-drop, if◌then◌else◌}
use Rattle.std.specs.List.{filter_map, cons_option, slice_get}
use Rattle.std.specs.Option.{option_map_or}
use Rattle.std.specs.Str.{IsUtf8, IsCharBoundary, chars}
use Rattle.std.specs.Char.{len_utf8}
use Rattle.std.proofs.Math.Utf8.{encodes}
use Rattle.std.proofs.lemmas.Bool.Decides.{nat_tests}
use Rattle.std.proofs.lemmas.Str.{IsUtf8-drop, encodes-chars, IsCharBoundary-past_char}
use Rattle.syntect_reading_choice.specs.syntect_pattern.Text.{char_at}
use Rattle.syntect_reading_choice.specs.Chain.{Member}
use Rattle.syntect_reading_choice.specs.Engine.{Engine}
use Rattle.syntect_reading_choice.specs.syntect_grammar_contexts.Substitution.{Groups}
use Rattle.syntect_reading_choice.specs.declared.position.Position.{Position}
use Rattle.syntect_reading_choice.specs.Turn.{Live, Choice, Take, Skip, End, counts, counted, matched, live, live_match, searched_text, group_at, choice_of, winner, is_least, loops, char_len}
use Rattle.syntect_reading_choice.specs.Found.{FindsInText, StandsIn}

-- ---- the place after a character ----

first_of : (cs : List ℕ) (c : ℕ) → slice_get cs 0 ≡ Some c → (rest : List ℕ) × (cs ≡ c ∷ rest)
first_of [] c e = cc
first_of (d ∷ cs) c e = let k : d ≡ c = cc in (cs, ap (λ x. x ∷ cs) k)

past_char : (s : List ℕ) (i c : ℕ) → IsUtf8 s → IsCharBoundary s i → char_at s i ≡ Some c → IsCharBoundary s (i + len_utf8 c)
unfolding char_at
past_char s i c u b e =
    let v = IsUtf8-drop s i u b in
    let f = first_of (chars (drop i s)) c e in
    IsCharBoundary-past_char s (encodes f.0) i c b.0 v (sym (encodes-chars (drop i s) v) ∙ ap encodes f.1)

none_first : (cs : List ℕ) → slice_get cs 0 ≡ None → cs ≡ []
none_first [] e = refl
none_first (c ∷ cs) e = cc

none_at_end : (s : List ℕ) (i : ℕ) → IsUtf8 s → IsCharBoundary s i → char_at s i ≡ None → length s ≤ i
unfolding char_at
none_at_end s i u b e =
    let v = IsUtf8-drop s i u b in
    let n : chars (drop i s) ≡ [] = none_first (chars (drop i s)) e in
    let k : drop i s ≡ [] = sym (encodes-chars (drop i s) v) ∙ ap encodes n in
    omega (arith, length-drop i s, ap length k)

pub past_here : (line : List ℕ) (place : ℕ) → IsUtf8 line → IsCharBoundary line place → place + char_len line place < length line → IsCharBoundary line (place + char_len line place)
past_here line place u b l = by (char_at line place) refl l
  where
    by : (o : Option ℕ) → char_at line place ≡ o → place + option_map_or len_utf8 o 1 < length line → IsCharBoundary line (place + option_map_or len_utf8 o 1)
    by (Some c) e l = past_char line place c u b e
    by None e l = let k : length line ≤ place = none_at_end line place u b e in absurd (omega arith)

-- ---- matches end on boundaries ----

abbrev pub IfEnds : List ℕ → ℕ → Option Live → Type 0
IfEnds line place None = Unit {0}
IfEnds line place (Some m) = StandsIn line place m.start m.end

pub data AllEnd (line : List ℕ) (place : ℕ) : List Live → Type 0 where
  no_more : AllEnd line place []
  and_more : {m : Live} {ms : List Live} → StandsIn line place m.start m.end → AllEnd line place ms → AllEnd line place (m ∷ ms)

module _ (engine : Engine) (finds : FindsInText engine) (line : List ℕ) (u : IsUtf8 line) where
  counted_ends : (height place : ℕ) (member : Member) (text : List ℕ) (groups : Groups) (at : Option (ℕ × ℕ))
      → ((s e : ℕ) → at ≡ Some (s, e) → StandsIn line place s e) → IfEnds line place (counted height member text groups at)
  counted_ends height place member text groups None h = tt
  counted_ends height place member text groups (Some at) h = by (counts height member.pattern.operation at.0 at.1) (h at.0 at.1 refl)
    where
      by : (b : Bool) → StandsIn line place at.0 at.1 → IfEnds line place (if b then Some (record { pattern = member.pattern; from_with_prototype = member.from_with_prototype; searched = text; groups = groups; start = at.0; end = at.1 }) else None)
      by true k = k
      by false k = tt

  pub matched_ends : (height place : ℕ) (member : Member) (text : List ℕ) (o : Option Groups)
      → ((groups : Groups) (s e : ℕ) → o ≡ Some groups → group_at groups 0 ≡ Some (s, e) → StandsIn line place s e) → IfEnds line place (matched height member text o)
  matched_ends height place member text None h = tt
  matched_ends height place member text (Some groups) h = counted_ends height place member text groups (group_at groups 0) (λ s e k. h groups s e refl k)

  pub live_match_ends : (height place : ℕ) (member : Member) → IfEnds line place (live_match engine height line place member)
  live_match_ends height place member =
      let text : List ℕ = searched_text engine member.pattern member.opening in
      matched_ends height place member text (engine.found text line place) (λ groups s e f g. finds text line place s e groups u f g)

  cons_ends : (place : ℕ) (o : Option Live) (ms : List Live) → IfEnds line place o → AllEnd line place ms → AllEnd line place (cons_option o ms)
  cons_ends place None ms h r = r
  cons_ends place (Some m) ms h r = and_more h r

  pub live_ends : (height place : ℕ) (ms : List Member) → AllEnd line place (filter_map (live_match engine height line place) ms)
  live_ends height place [] = no_more
  live_ends height place (m ∷ ms) = cons_ends place (live_match engine height line place m) (filter_map (live_match engine height line place) ms) (live_match_ends height place m) (live_ends height place ms)

  find_ends : (place : ℕ) (test : Live → Bool) (ms : List Live) → AllEnd line place ms → IfEnds line place (find test ms)
  find_ends place test [] no_more = tt
  find_ends place test (m ∷ ms) (and_more h r) = by (test m) (find_ends place test ms r)
    where
      by : (b : Bool) → IfEnds line place (find test ms) → IfEnds line place (if b then Some m else find test ms)
      by true k = h
      by false k = k

  -- ---- turns ----

  abbrev pub IsChoiceOnBoundary : ℕ → Choice → Type 0
  IsChoiceOnBoundary place (Take m) = StandsIn line place m.start m.end
  IsChoiceOnBoundary place Skip = place + char_len line place < length line
  IsChoiceOnBoundary place End = Unit {0}

  skip_inside : (place : ℕ) (b : Bool) → b ≡ nat_lt (place + char_len line place) (length line) → IsChoiceOnBoundary place (if b then Skip else End)
  skip_inside place true e = grind (arith, nat_tests)
  skip_inside place false e = tt

  choice_ends : (place : ℕ) (ms : List Live) (o : Option Live) → IfEnds line place o → IsChoiceOnBoundary place (choice_of line place ms o)
  choice_ends place ms (Some m) h = h
  choice_ends place [] None h = tt
  choice_ends place (m ∷ ms) None h = skip_inside place (nat_lt (place + char_len line place) (length line)) refl

  pub winner_ends : (p : Position) (members : List Member) → IsChoiceOnBoundary p.place (winner line p (live engine line p members))
  winner_ends p members =
      let ms : List Live = live engine line p members in
      choice_ends p.place ms (find (λ m. is_least ms m && not (loops p m)) ms) (find_ends p.place _ ms (live_ends (length p.levels) p.place members))
