use Rattle.std.proofs.Common.{ℕ, rules, ◌<◌, arith, get_or, length, refl, sym}
use Rattle.syntect_reading_choice.specs.Parts.{part_members}
use Rattle.syntect_reading_choice.specs.Steps.{ArePutWithin}
use Rattle.syntect_reading_choice.proofs.syntect_count_proofs.MeterLaws.{advances-on}
use Rattle.syntect_reading_choice.proofs.RunLaws.{replaced_more}
use Rattle.syntect_reading_choice.proofs.StepLaws.{all_paid, part_put, put_in_one, put_once_more, some_flat}
use Rattle.syntect_reading_choice.proofs.runs.replaced_in.Goals as goal

pub loop-index-preserved : goal.loop-index-preserved
loop-index-preserved c =
    let inside : c.loop-index.index < length c.args.flats.now = search rules in
    let paid = λ (put : ℕ) (all : ArePutWithin put (part_members c.args.reader.now.set.now c.args.part.now)).
    some_flat c.args.flats.now c.loop-index.index inside (λ d.
    c.in_ok-found.ensures.steps (get_or c.args.flats.now c.loop-index.index d) put (sym (c.origin_at-origin.ensures d))
    (λ m at. put_in_one c.args.reader.now.set.now c.args.part.now c.args.flats.now put c.loop-index.index d m c.requires all inside at)
    (c.loop-index.invariant.room put all)) in
    record {
      count = search rules;
      few = omega (arith, inside);
      replaced =
          replaced_more c.args.reader.now.set.now c.args.part.now c.args.flats.now c.loop-index.index c.loop-index.replaced.items c.push.new.self.items c.in_ok-found.found
          c.loop-index.invariant.count c.in-Ok.ensures.items
          (λ d m at. c.in_ok-found.ensures.text (get_or c.args.flats.now c.loop-index.index d) m (sym (c.origin_at-origin.ensures d)) at) c.loop-index.invariant.replaced;
      advances = advances-on _ _ _ c.loop-index.invariant.advances c.replacement_paid.ensures.advances;
      room = λ put all. (paid put all).0;
      steps = λ put all.
          put_once_more c.args.meter.now.made c.loop-index.meter.made c.replacement_paid.new.meter.made c.loop-index.index c.loop-index.passed.count c.replacement_paid.new.passed.count put
          (c.loop-index.invariant.steps put all) (paid put all).1;
    }

pub returns-clause-steps : goal.returns-clause-steps
returns-clause-steps c = λ put all.
    part_put c.args.reader.now.set.now c.args.part.now c.args.flats.now put c.args.meter.now.made c.loop-index.meter.made (length c.args.flats.now) c.loop-index.index c.requires refl c.loop-index.invariant.few (all_paid c.args.meter.now.made c.loop-index.meter.made c.loop-index.index c.loop-index.passed.count put (c.loop-index.invariant.steps put all))
