use Rattle.std.proofs.Common.{◌*◌, ◌^◌, ◌≤◌, arith}
use Rattle.syntect_style.proofs.TopLaws.{number_not_less, weight_least, weight_most, power_small}
use Rattle.syntect_style.proofs.scores.SingleScore.is_below.Goals as goal

pub returns-then-place-ge-U64_PLACES : goal.returns-then-place-ge-U64_PLACES
returns-then-place-ge-U64_PLACES c =
    let l : 2 ^ 64 ≤ c.leading-place.result.1 * 8 ^ c.leading-place.result.0 = weight_least c.leading-place.result.1 c.leading-place.result.0 c.if-digit-eq0.false c.if-place-ge-U64_PLACES.true in
    number_not_less _ _ (omega (arith, l, c.leading-place.ensures.value, c.ranges.number.fits))

pub pow-requires : goal.pow-requires
pow-requires c = omega (arith, power_small c.leading-place.result.0 c.if-place-ge-U64_PLACES.false)

pub overflow_mul-result : goal.overflow_mul-result
overflow_mul-result c = omega (arith, weight_most c.from.result c.pow.result (omega (arith, c.from.ensures, c.leading-place.ensures.digit)) (omega (arith, c.pow.ensures, power_small c.leading-place.result.0 c.if-place-ge-U64_PLACES.false)))
