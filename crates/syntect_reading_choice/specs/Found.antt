-- What is found in a text stands in it.
use Rattle.std.specs.Prelude.{◌≡◌, ℕ, ◌≤◌, List, length, Some}
use Rattle.std.specs.Str.{IsUtf8, IsCharBoundary}
use Rattle.syntect_reading_choice.specs.syntect_grammar_contexts.Substitution.{Groups, AreOnBoundaries}
use Rattle.syntect_reading_choice.specs.Engine.{Engine}
use Rattle.syntect_reading_choice.specs.Turn.{group_at}

-- a match at these ends stands in the text, not before the place, and on character boundaries
pub record StandsIn (text : List ℕ) (place start end : ℕ) : Type 0 where
  pub from : place ≤ start
  pub ordered : start ≤ end
  pub within : end ≤ length text
  pub starts : IsCharBoundary text start
  pub ends : IsCharBoundary text end

-- every match that is found stands so
abbrev pub FindsInText : Engine → Type 0
FindsInText engine = (pattern text : List ℕ) (place start end : ℕ) (groups : Groups)
    → IsUtf8 text → engine.found pattern text place ≡ Some groups
    → group_at groups 0 ≡ Some (start, end) → StandsIn text place start end

-- each group of a match that is found begins and ends on character boundaries
abbrev pub FindsOnBoundaries : Engine → Type 0
FindsOnBoundaries engine = (pattern text : List ℕ) (place : ℕ) (groups : Groups) → IsUtf8 text
    → engine.found pattern text place ≡ Some groups → AreOnBoundaries text groups
