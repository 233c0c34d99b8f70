use Rattle.syntect_base.proofs.WalkLaws.{Passes, at}
use Rattle.syntect_base.proofs.utils.go_on.Given as goal

abbrev pub invariant-entries : goal.invariant-entries
invariant-entries g l = record { passes : Passes (g.T.Tree.told l.tree) (at l.sought l.fn.ahead l.fn.left) (at l.sought l.ahead l.left) }

abbrev pub decreases-entries : goal.decreases-entries
decreases-entries g l = l.left
