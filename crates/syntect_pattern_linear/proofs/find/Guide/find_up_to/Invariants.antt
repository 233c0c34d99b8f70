use Rattle.std.proofs.Common.{◌≡◌, ◌-◌, ◌≤◌, suc, length}
use Rattle.syntect_pattern_linear.specs.syntect_pattern.Trees.{Tree}
use Rattle.syntect_pattern_linear.specs.syntect_pattern.Matches.{found}
use Rattle.syntect_pattern_linear.specs.syntect_pattern_table.Program.{IsProgramOf}
use Rattle.syntect_pattern_linear.specs.syntect_count.Meter.{Advances}
use Rattle.syntect_pattern_linear.proofs.find.Guide.find_up_to.Given as goal

abbrev pub invariant-starts : goal.invariant-starts
invariant-starts l = record {
  within : l.place ≤ suc l.fn.last;
  paid : l.meter.made ≤ l.initial.meter.made;
  advances : Advances l.initial.meter l.meter;
  later : l.begin ≤ l.place;
  same : (tree : Tree) → IsProgramOf l.self.program tree → found l.text tree l.place ≡ found l.text tree l.begin;
}

abbrev pub decreases-starts : goal.decreases-starts
decreases-starts l = suc (length l.text) - l.place
