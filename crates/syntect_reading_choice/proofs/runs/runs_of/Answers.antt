use Rattle.std.proofs.Common.{◌*◌, length, map, refl}
use Rattle.syntect_reading_choice.proofs.syntect_count_proofs.MeterLaws.{advances-on}
use Rattle.syntect_reading_choice.specs.Parts.{part_members}
use Rattle.syntect_reading_choice.specs.Shorter.{HasSame}
use Rattle.syntect_reading_choice.proofs.RunLaws.{runs_pushed}
use Rattle.syntect_reading_choice.proofs.ShorterLaws.{part_pushed, shorter_last, shorter_more, shorter_skip}
use Rattle.syntect_reading_choice.proofs.StepLaws.{not_put, parts_all_put, parts_put, put_in_part}
use Rattle.syntect_reading_choice.proofs.runs.runs_of.Goals as goal

pub loop-part-preserved-then-has_repeat : goal.loop-part-preserved-then-has_repeat
loop-part-preserved-then-has_repeat c =
    let set = c.args.reader.now.set.now in
    let same : HasSame (map (λ r. r.part) c.loop-part.runs.items) c.part-item.result = rw c.as_slice.ensures.value at (c.if-has_repeat.ensures refl) in
    record {
      parts = shorter_skip set c.args.parts.now (map (λ r. r.part) c.loop-part.runs.items) c.loop-part.part-index c.part-item.result c.loop-part-test.true c.part-item.is same c.loop-part.invariant.parts;
      runs = c.loop-part.invariant.runs;
      advances = c.loop-part.invariant.advances;
      steps = λ put all.
          parts_put set c.args.parts.now put c.args.meter.now.made c.loop-part.meter.made c.loop-part.meter.made c.loop-part.part-index c.part-item.result c.loop-part-test.true c.part-item.is
          (c.loop-part.invariant.steps put all) (not_put c.loop-part.meter.made (length (part_members set c.part-item.result) * put));
    }

pub loop-part-preserved : goal.loop-part-preserved
loop-part-preserved c =
    let set = c.args.reader.now.set.now in
    record {
      parts =
          shorter_more set c.args.parts.now (map (λ r. r.part) c.loop-part.runs.items) (map (λ r. r.part) c.push.new.self.items) c.loop-part.part-index c.part-item.result c.loop-part-test.true c.part-item.is
          (part_pushed c.loop-part.runs.items c.push.new.self.items c.in_ok-run.run' c.part-item.result c.in-Ok.ensures.items c.in_ok-run.ensures.part) c.loop-part.invariant.parts;
      runs = runs_pushed set c.loop-part.runs.items c.push.new.self.items c.in_ok-run.run' c.in-Ok.ensures.items c.loop-part.invariant.runs c.in_ok-run.ensures.run;
      advances = advances-on _ _ _ c.loop-part.invariant.advances c.run_of.ensures.advances;
      steps = λ put all.
          parts_put set c.args.parts.now put c.args.meter.now.made c.loop-part.meter.made c.run_of.new.meter.made c.loop-part.part-index c.part-item.result c.loop-part-test.true c.part-item.is
          (c.loop-part.invariant.steps put all) (c.in_ok-run.ensures.steps put (put_in_part set c.args.parts.now put c.loop-part.part-index c.part-item.result c.loop-part-test.true c.part-item.is all));
    }

pub returns-clause-parts : goal.returns-clause-parts
returns-clause-parts c = shorter_last c.args.reader.now.set.now c.args.parts.now (map (λ r. r.part) c.loop-part.runs.items) c.loop-part.part-index c.loop-part-test.false c.loop-part.invariant.parts

pub returns-clause-steps : goal.returns-clause-steps
returns-clause-steps c = λ put all.
    parts_all_put c.args.reader.now.set.now c.args.parts.now put c.args.meter.now.made c.loop-part.meter.made c.loop-part.part-index c.loop-part-test.false (c.loop-part.invariant.steps put all)
