use Rattle.std.proofs.Common.{refl, arith}
use Rattle.syntect_parsing.specs.MatchViews.{live_of}
use Rattle.syntect_parsing.proofs.CapturedLaws.{no_marks, unlisted, found_marks}
use Rattle.syntect_parsing.proofs.captures.capture_marks.Goals as goal

pub returns-in_default : goal.returns-in_default
returns-in_default c =
    rw (c.new.ensures.items) (no_marks (live_of c.args.taken.now) (unlisted (live_of c.args.taken.now) (rw (c.in_default.is) refl)))

pub returns-then-is_empty : goal.returns-then-is_empty
returns-then-is_empty c =
    rw (c.new-then-is_empty.ensures.items) (
    no_marks (live_of c.args.taken.now) (unlisted (live_of c.args.taken.now) (rw (c.in-Some.is) (c.if-is_empty.ensures.0 refl))))

pub returns : goal.returns
returns c =
    rw (c.in_ok-sort_marks.ensures) (
    found_marks (live_of c.args.taken.now) c.args.taken.now.region.now c.in_ok-marks.marks.items c.in-Some.captures refl c.in-Some.is
    (rw (c.as_slice.ensures) at c.in_ok-marks.ensures) c.args.taken.now.ordered (omega (arith, c.args.taken.now.within)))
