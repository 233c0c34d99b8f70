use Rattle.syntect_scope.proofs.ReadingLaws.{no_hyphen, one_part, part_shorter, part_utf8, parts_more, last_part}
use Rattle.syntect_scope.proofs.reading.parts_of_selector.Goals as goal

pub loop-part-preserved : goal.loop-part-preserved
loop-part-preserved c = (
  part_utf8 c.loop-part.rest.now c.in-Some.part.now c.in-Some.others.now c.loop-part.invariant.0 c.in-Some.ensures.cases,
  rw c.in_ok-push.ensures.items (parts_more c.loop-part.parts.items c.in-Some.part c.loop-part.rest.now c.in-Some.others.now c.args.s.now
      (one_part c.loop-part.rest.now c.in-Some.part.now c.in-Some.others.now c.in-Some.ensures.cases) c.loop-part.invariant.1),
)

pub loop-part-smaller : goal.loop-part-smaller
loop-part-smaller c = part_shorter c.loop-part.rest.now c.in-Some.part.now c.in-Some.others.now c.in-Some.ensures.cases

pub returns : goal.returns
returns c = rw c.in_ok-push-2.ensures.items (last_part c.loop-part.parts.items c.loop-part.rest c.args.s.now (no_hyphen c.loop-part.rest.now c.in_default.ensures.cases) c.loop-part.invariant.1)
