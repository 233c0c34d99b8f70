use Rattle.std.proofs.Common.{◌≡◌, ◌++◌, string_bytes, drop, None}
use Rattle.syntect_writers.specs.Latex.{latex_behind}
use Rattle.syntect_writers.proofs.latex.as_latex_escaped.Given as goal

-- what is written, and the pieces that are left, are the whole
abbrev pub invariant-loop-style : goal.invariant-loop-style
invariant-loop-style l = string_bytes l.out ++ latex_behind l.last (drop l.style-index l.v) ≡ latex_behind None l.v
