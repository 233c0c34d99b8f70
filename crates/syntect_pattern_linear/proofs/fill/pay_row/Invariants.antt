use Rattle.std.proofs.Common.{◌≡◌, ◌+◌, ◌*◌}
use Rattle.syntect_pattern_linear.specs.syntect_count.Meter.{Advances}
use Rattle.syntect_pattern_linear.proofs.fill.pay_row.Given as goal

abbrev pub invariant-loop-time : goal.invariant-loop-time
invariant-loop-time l = record {
  made : l.meter.made ≡ l.initial.meter.made + l._time * l.cells;
  advances : Advances l.initial.meter l.meter;
}
