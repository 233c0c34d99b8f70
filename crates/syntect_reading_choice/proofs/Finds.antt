-- What is found in a line stands in it.
use Rattle.std.specs.Prelude.{◌≡◌, ℕ, ◌≤◌, List, length, Some}
use Rattle.std.specs.Str.{IsUtf8}
use Rattle.syntect_reading_choice.specs.Engine.{Engine}
use Rattle.syntect_reading_choice.specs.syntect_grammar_contexts.Substitution.{Groups}
use Rattle.syntect_reading_choice.specs.Turn.{group_at}
use Rattle.syntect_reading_choice.specs.Found.{FindsInText, StandsIn}

abbrev pub FindsInOrder : Engine → List ℕ → Type 0
FindsInOrder engine line = (pattern : List ℕ) (place s e : ℕ) (groups : Groups)
    → engine.found pattern line place ≡ Some groups → group_at groups 0 ≡ Some (s, e) → (place ≤ s) × (s ≤ e) × (e ≤ length line)

pub finds_in_order : (engine : Engine) → FindsInText engine → (line : List ℕ) → IsUtf8 line → FindsInOrder engine line
finds_in_order engine finds line u pattern place s e groups f g =
    let k : StandsIn line place s e = finds pattern line place s e groups u f g in (k.from, k.ordered, k.within)
