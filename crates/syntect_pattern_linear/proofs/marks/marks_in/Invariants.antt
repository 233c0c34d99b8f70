use Rattle.std.proofs.Common.{◌≡◌, map, take}
use Rattle.std.specs.Prelude.{is_some}
use Rattle.syntect_pattern_linear.proofs.marks.marks_in.Given as goal

abbrev pub invariant-loop-end : goal.invariant-loop-end
invariant-loop-end l = l.row.items ≡ map (λ e. is_some e) (take l.end-index l.ends)
