use Rattle.std.proofs.Common.{◌≡◌, map, take}
use Rattle.std.specs.Prelude.{is_some}
use Rattle.syntect_pattern_linear.proofs.marks.marks_of.Given as goal

abbrev pub invariant-loop-ends : goal.invariant-loop-ends
invariant-loop-ends l = l.marks ≡ map (λ r. map (λ e. is_some e) r) (take l.ends-index l.rows)
