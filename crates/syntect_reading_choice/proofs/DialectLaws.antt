-- What the dialect finds stands in the text.
use Rattle.std.proofs.Common.{◌≡◌, ℕ, List, length, Option, Some, None, refl, ap, ◌∙◌, arith}
use Rattle.std.specs.Prelude.{slice_get}
use Rattle.std.specs.Option.{option_flatten}
use Rattle.std.specs.Str.{IsUtf8}
use Rattle.syntect_reading_choice.specs.syntect_pattern.Trees.{Tree}
use Rattle.syntect_reading_choice.specs.syntect_pattern.Matches.{found}
use Rattle.syntect_reading_choice.specs.syntect_pattern.Pattern.{pattern_tree}
use Rattle.syntect_reading_choice.specs.syntect_pattern.Reading.{◌>>=◌}
use Rattle.syntect_reading_choice.specs.syntect_pattern.Found.{FindsPatternMatches}
use Rattle.syntect_reading_choice.specs.syntect_pattern.Nesting.{FindsMatches, IsMatch, LiesIn}
use Rattle.syntect_reading_choice.specs.syntect_grammar_contexts.Substitution.{Groups}
use Rattle.syntect_reading_choice.specs.Engine.{dialect}
use Rattle.syntect_reading_choice.specs.Turn.{group_at}
use Rattle.syntect_reading_choice.specs.Found.{FindsInText, FindsOnBoundaries, StandsIn}

set_at : (groups : Groups) (start end : ℕ) (o : Option (Option (ℕ × ℕ))) → slice_get groups 0 ≡ o → option_flatten o ≡ Some (start, end) → slice_get groups 0 ≡ Some (Some (start, end))
set_at groups start end None e f = cc
set_at groups start end (Some o) e f = e ∙ ap (λ (x : Option (ℕ × ℕ)). Some x) f

stands : FindsMatches → (text : List ℕ) (tree : Tree) (place start end : ℕ) (groups : Groups) → IsUtf8 text → found text tree place ≡ Some groups → group_at groups 0 ≡ Some (start, end) → StandsIn text place start end
stands law text tree place start end groups u f g =
    let m : IsMatch text tree place groups = law text tree place groups u f in
    let w : slice_get groups 0 ≡ Some (Some (start, end)) = set_at groups start end (slice_get groups 0) refl g in
    let l : LiesIn text m.start m.end (start, end) = m.within 0 (start, end) refl w in
    record { from = omega (arith, m.after, l.from); ordered = l.rises; within = l.ends.0; starts = l.starts; ends = l.ends }

by_tree : FindsMatches → (text : List ℕ) (o : Option Tree) (place start end : ℕ) (groups : Groups) → IsUtf8 text → (o >>= λ tree. found text tree place) ≡ Some groups → group_at groups 0 ≡ Some (start, end) → StandsIn text place start end
by_tree law text None place start end groups u f g = cc
by_tree law text (Some tree) place start end groups u f g = stands law text tree place start end groups u f g

pub finds_in_text : FindsMatches → FindsInText dialect
finds_in_text law pattern text place start end groups u f g = by_tree law text (pattern_tree pattern) place start end groups u f g

pub finds_on_boundaries : FindsPatternMatches → FindsOnBoundaries dialect
finds_on_boundaries law pattern text place groups u f n at e = let lies : LiesIn text 0 (length text) at = (law pattern text place groups u f).is_match.lie n at e in (lies.starts, lies.ends)
