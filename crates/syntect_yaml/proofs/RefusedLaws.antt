-- Places told fit their numbers.
use Rattle.std.proofs.Common.{ℕ, ◌+◌, ◌<◌, ◌^◌, Bool, List, length, arith, ◌≡◌}
use Rattle.std.specs.Prelude.{count_by}
use Rattle.std.proofs.lemmas.List.Sums.{count_by-le-length}

pub fits : (test : ℕ → Bool) (bytes : List ℕ) (n : ℕ) → n ≡ count_by test bytes → length bytes < 2 ^ 63 → n + 1 < 2 ^ 64
fits test bytes n e short = omega (arith, count_by-le-length test bytes)
