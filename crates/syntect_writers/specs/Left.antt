-- A rule while it is written.
use Rattle.std.specs.Prelude.{ℕ, Bool, true, false, List, [], ◌∷◌, ◌++◌, codes}
use Rattle.syntect_writers.specs.Sheet.{path_selectors, rule_body}
use Rattle.syntect_writers.specs.syntect_scope.declared.selector.ScopeSelector.{ScopeSelector}
use Rattle.syntect_theme.specs.declared.style.StyleModifier.{StyleModifier}

-- ---- For proofs and private functions alone ----

-- the rest of a rule with these selectors left; so far there was none, or there was one
abbrev pub rule_left : Bool → List (List ℕ) → StyleModifier → List ℕ
rule_left true [] style = []
rule_left false [] style = rule_body style
rule_left true (p ∷ ps) style = p ++ rule_left false ps style
rule_left false (p ∷ ps) style = codes ", " ++ (p ++ rule_left false ps style)

-- the same with one selector more, which is left out where it has no path
abbrev pub rule_from : Bool → List ℕ → List (List ℕ) → ScopeSelector → List (List ℕ) → StyleModifier
    → List ℕ
rule_from first prefix repo selector left style =
    rule_left first (path_selectors prefix repo (selector ∷ []) ++ left) style
