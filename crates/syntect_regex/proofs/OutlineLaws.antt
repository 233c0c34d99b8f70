-- What is kept of a pattern.
use Rattle.std.proofs.Common.{ℕ, zero, suc, Bool, List, Option, Some, sym, ap, ◌∙◌}
use Rattle.std.specs.Prelude.{option_and_then}
use Rattle.syntect_regex.specs.syntect_pattern.Trees.{Tree, group_in_look}
use Rattle.syntect_regex.specs.syntect_pattern_compile.Compiled.{IsCompiled}
use Rattle.syntect_regex.specs.syntect_pattern_table.declared.program.Program.{Program}
use Rattle.syntect_regex.specs.Details.{KnowsGroups}
use Rattle.syntect_regex.specs.Looks.{AreLooks}

-- what a program tells of its groups
pub groups-known : (pattern : List ℕ) (p : Program) → IsCompiled pattern p → (looks : List (Option Bool)) → AreLooks p.nodes p.root looks → KnowsGroups pattern (Some looks)
groups-known pattern p is looks known zero = sym (ap (λ (o : Option Tree). option_and_then (λ t. group_in_look t 0) o) is.reads)
groups-known pattern p is looks known (suc n) =
    known n is.tree is.program.root
    ∙ sym (ap (λ (o : Option Tree). option_and_then (λ t. group_in_look t (suc n)) o) is.reads)
