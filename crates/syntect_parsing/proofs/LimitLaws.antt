-- Numbers and limits.
use Rattle.std.proofs.Common.{◌≡◌, ℕ, ◌≤◌, ◌<◌, Bool, true, false, nat_eq, Some, None, refl, arith, if◌then◌else◌}
use Rattle.std.proofs.lemmas.Bool.Decides.{nat_tests}
use Rattle.std.specs.Prelude.{IfSome}
use Rattle.syntect_parsing.specs.syntect_base.Limiting.{limit_of, IsWithinLimit}

-- a number that is passed is a limit
pub limit_set : (limit levels : ℕ) → limit < levels → levels < 18446744073709551616 → limit_of limit ≡ Some limit
limit_set limit levels l m =
    let e : nat_eq limit 18446744073709551615 ≡ false = grind (arith, nat_tests) in
    rw e refl

pub within_limit : (limit levels : ℕ) → levels ≤ limit → IsWithinLimit limit levels
within_limit limit levels l = by (nat_eq limit 18446744073709551615)
  where
    by : (b : Bool) → IfSome (if b then None else Some limit) (λ most. levels ≤ most)
    by true = tt
    by false = l
