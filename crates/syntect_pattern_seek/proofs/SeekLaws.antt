-- What a search by a plan finds.
use Rattle.std.proofs.Common.{◌≡◌, ℕ, suc, List, length, Bool, true, false, Some, sym, ap, ◌∙◌, arith}
use Rattle.syntect_pattern_seek.specs.syntect_pattern.Matches.{Groups}
use Rattle.syntect_pattern_seek.specs.syntect_pattern_table.declared.program.Program.{Program}
use Rattle.syntect_pattern_backtrack.proofs.FindLaws.{found-past}
use Rattle.syntect_pattern_backtrack.specs.Machine.{FindsGroups, groups_of}
use Rattle.syntect_pattern_backtrack.specs.declared.state.Search.{Search}
use Rattle.syntect_pattern_linear.specs.Finds as planned
use Rattle.syntect_pattern_seek.specs.Depths.{StandsFor}

-- what the plan finds up to the text's end is all
pub planned-groups : (s : List ℕ) (p q : Program) (from : ℕ) (b : Bool) (g : Groups) (x : Search) → x.groups.items ≡ g → StandsFor p q
    → planned.FindsUpTo s q from (length s) (planned.groups_of b g) → FindsGroups s p from (groups_of b x)
planned-groups s p q from true g x e stands h = λ tree is. ap Some e ∙ sym (h tree (stands tree is))
planned-groups s p q from false g x e stands h = λ tree is. sym (h tree (stands tree is) ∙ found-past s tree (suc (length s)) (omega arith))
