use Rattle.std.proofs.Common.{◌≡◌, true}
use Rattle.syntect_grammar_limits.specs.syntect_grammar_loader.LoadingSteps.{KeepsAtoms}
use Rattle.syntect_shelf.proofs.GatherLaws.{heads_left}
use Rattle.syntect_shelf.specs.Gathering.{Gathers}
use Rattle.syntect_shelf.specs.Unread.{whole_by}
use Rattle.syntect_shelf.proofs.gathering.gather_reached.Given as goal

abbrev pub invariant-reach : goal.invariant-reach
invariant-reach g l = record {
  gathers : Gathers (g.T.Tree.told l.tree) l.loading l.grammars l.place l.fn.repository l.gathering.definitions.items l.gathering.whole.items l.repository;
  asked : whole_by l.gathering.whole.items l.place ≡ true;
  kept : KeepsAtoms l.fn.repository l.repository;
}

abbrev pub decreases-reach : goal.decreases-reach
decreases-reach g l = heads_left l.gathering.whole.items
