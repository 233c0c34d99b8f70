use Rattle.std.proofs.Common.{◌≡◌, ◌++◌, take, drop}
use Rattle.syntect_style.specs.Cut.{plain, whole, bytes_left, others}
use Rattle.syntect_style.proofs.cut.whole_pieces.Given as goal

-- the pieces so far are whole
abbrev pub invariant-loop-i : goal.invariant-loop-i
invariant-loop-i g l = record {
  whole : plain (take l.i l.v) ++ whole l.left (plain (drop l.i l.v)) ≡ whole l.split_i (plain l.v);
  others : others l.left (plain (drop l.i l.v)) ≡ others l.split_i (plain l.v);
  left : bytes_left l.left (plain (drop l.i l.v)) ≡ bytes_left l.split_i (plain l.v);
}
