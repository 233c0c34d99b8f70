use Rattle.std.proofs.Common.{◌==◌, ◌∙◌, ℕ, ap, arith}
use Rattle.std.specs.Int.{bit_at}
use Rattle.std.proofs.lemmas.Grind.{common_steps}
use Rattle.syntect_pattern_table.proofs.PlaceLaws.{in_low, in_wide, in_end}
use Rattle.syntect_pattern_table.proofs.starts.is_in.Goals as goal

pub returns-then-x-lt128 : goal.returns-then-x-lt128
returns-then-x-lt128 c = c.has_bit.ensures ∙ ap (λ (y : ℕ). bit_at c.args.places.ascii y == 1) c.from.ensures ∙ in_low c.args.places c.args.x (grind (arith, common_steps))

pub returns-then-x-eq128 : goal.returns-then-x-eq128
returns-then-x-eq128 c = in_wide c.args.places c.args.x (grind (arith, common_steps))

pub returns-else-x-eq128 : goal.returns-else-x-eq128
returns-else-x-eq128 c = in_end c.args.places c.args.x (grind (arith, common_steps))
