use Rattle.std.proofs.Common.{◌≡◌, ◌++◌, drop}
use Rattle.syntect_style.specs.Cut.{plain}
use Rattle.syntect_style.proofs.cut.push_all.Given as goal

-- what is there, and the pieces that are left, are all
abbrev pub invariant-loop-piece : goal.invariant-loop-piece
invariant-loop-piece g l = plain l.out.items ++ plain (drop l.piece-index l.pieces) ≡ plain l.fn.out.items ++ plain l.pieces
