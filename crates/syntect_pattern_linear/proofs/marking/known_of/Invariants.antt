use Rattle.std.proofs.Common.{◌≡◌, length}
use Rattle.syntect_pattern_linear.specs.Marks.{KnowsLeads}
use Rattle.syntect_pattern_linear.proofs.marking.known_of.Given as goal

abbrev pub invariant-loop-late : goal.invariant-loop-late
invariant-loop-late l = record {
  knows : KnowsLeads l.ground l.place l.here.items;
  long : length l.here.items ≡ length l.ground.plan.now.cells;
}
