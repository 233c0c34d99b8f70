use Rattle.std.proofs.Common.{[], arith}
use Rattle.syntect_pattern.specs.Sets.{alike}
use Rattle.syntect_pattern_table.proofs.PlaceLaws.{holding_in}
use Rattle.syntect_pattern_table.proofs.starts.places_of_alike.Goals as goal

pub returns : goal.returns
returns c x l = holding_in c.bits_of.result (alike c.args.wanted c.args.wanted) c.is_alike_wide.result (λ y b. c.bits_of.ensures [] y b (λ k d h. absurd (omega (arith, h)))) c.is_alike_wide.ensures x
