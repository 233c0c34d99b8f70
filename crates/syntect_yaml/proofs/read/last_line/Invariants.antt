use Rattle.std.proofs.Common.{◌≡◌, ◌≤◌, ◌+◌, ◌==◌, length, take, not}
use Rattle.std.specs.List.{suffix_len}
use Rattle.syntect_yaml.proofs.read.last_line.Given as goal

abbrev pub invariant-loop-from : goal.invariant-loop-from
invariant-loop-from l = record {
  within : l.from ≤ length l.bytes;
  passed : l.from + suffix_len (λ b. not (b == 10)) l.bytes ≡ length l.bytes + suffix_len (λ b. not (b == 10)) (take l.from l.bytes);
}

abbrev pub decreases-loop-from : goal.decreases-loop-from
decreases-loop-from l = l.from
