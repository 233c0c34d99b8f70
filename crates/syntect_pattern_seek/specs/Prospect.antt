-- What is known of a pattern in a text in which it is tried at place after place.
use Rattle.std.specs.Prelude.{◌≡◌, ℕ, ◌+◌, ◌-◌, ◌^◌, ◌<◌, ◌≤◌, List}
use Rattle.syntect_pattern_seek.specs.syntect_pattern.Pattern.{pattern_found}
use Rattle.syntect_pattern_seek.specs.declared.prospect.Prospect.{Prospect}

-- no match of the pattern begins in the stretch of the text
abbrev pub NoneBeginsIn : List ℕ → List ℕ → ℕ → ℕ → Type 0
NoneBeginsIn pattern s from until = (place : ℕ) → from ≤ place → place < until
    → pattern_found pattern s place ≡ pattern_found pattern s (place + 1)

-- what is known is true of the pattern in the text: no match begins from `from` on, up to the
-- greatest number, which stands for nothing known
abbrev pub IsProspectOf : List ℕ → List ℕ → Prospect → Type 0
IsProspectOf pattern s p = NoneBeginsIn pattern s p.from (2 ^ 64 - 1)
