use Rattle.std.proofs.Common.{◌≡◌, ◌++◌, drop, map}
use Rattle.std.specs.List.{flat_map}
use Rattle.syntect_parsing.specs.MatchViews.{seen_mark, mark_operations}
use Rattle.syntect_parsing.proofs.emit.emit_marks.Given as goal

abbrev pub invariant-loop-mark : goal.invariant-loop-mark
invariant-loop-mark l = l.ops.items ++ flat_map mark_operations (map seen_mark (drop l.mark-index l.marks)) ≡ l.fn.ops.items ++ flat_map mark_operations (map seen_mark l.marks)
