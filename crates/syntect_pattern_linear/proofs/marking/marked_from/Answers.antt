use Rattle.std.proofs.Common.{◌≡◌, ◌≤◌, ◌+◌, ◌*◌, ◌-◌, ℕ, suc, length, arith, mul-le-mul_left}
use Rattle.syntect_pattern_linear.specs.Steps.{stops}
use Rattle.syntect_pattern_linear.proofs.StepsLaws.{rows-cost, rows-least}
use Rattle.syntect_pattern_linear.proofs.syntect_count_proofs.MeterLaws.{advances-on}
use Rattle.syntect_pattern_linear.proofs.marking.marked_from.Goals as goal

pub places-preserved : goal.places-preserved
places-preserved c =
    let s = c.args.text.now in
    let place : ℕ = c.args.begin + (c.places.left - 1) in
    let old : ℕ = length c.places.marks in
    let before : ℕ = c.places.meter.made in
    let after : ℕ = c.mark_place.new.meter.made in
    let told = c.if-not-branch.false in
    let marked = c.in_ok-mark_place.ensures in
    let grown : length c.mark_place.new.marks ≡ old + 1 = marked.there told in
    let more : length c.mark_place.new.marks ≡ suc old = omega (arith, grown) in
    let at : old + place ≡ length s = omega (arith, c.places.invariant.there) in
    record {
      marks_are = marked.marks told;
      there = omega (arith, grown, at);
      paid = rw grown (rows-cost (length c.args.plan.now.cells) old c.args.meter.now.made before after c.places.invariant.paid marked.steps);
      counted =
          let first : c.args.meter.now.made + 1 * stops s old ≤ before = omega (arith, c.places.invariant.counted) in
          let least = rows-least s 1 old place c.args.meter.now.made before after at first (marked.counted told) in
          rw more (omega (arith, least));
      advances = advances-on c.args.meter.now c.places.meter c.mark_place.new.meter c.places.invariant.advances c.mark_place.ensures.advances;
    }

pub returns-clause-steps : goal.returns-clause-steps
returns-clause-steps c =
    let short : length c.places.marks ≤ length c.args.text.now + 1 = omega (arith, c.places.invariant.there) in
    let most = mul-le-mul_left (length c.args.plan.now.cells) short in
    omega (arith, c.places.invariant.paid, most)

pub returns-in_err-mark_place-clause-advances : goal.returns-in_err-mark_place-clause-advances
returns-in_err-mark_place-clause-advances c =
    advances-on c.args.meter.now c.places.meter c.mark_place.new.meter c.places.invariant.advances c.mark_place.ensures.advances
