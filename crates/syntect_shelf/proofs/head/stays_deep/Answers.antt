use Rattle.std.proofs.Common.{◌∙◌, sym, subst}
use Rattle.memchr.specs.Find.{IsFirstByte, is_byte}
use Rattle.syntect_shelf.proofs.FrontLaws.{cut_step, no_feed}
use Rattle.syntect_shelf.proofs.head.stays_deep.Goals as goal

pub lines-preserved : goal.lines-preserved
lines-preserved c = λ deep.
    c.lines.invariant (cut_step c.lines.rest.now c.split_at.result.1.now c.split_at-in-Some.result.1.now c.in-Some.feed c.in-Some.ensures.0 c.split_at.ensures.back c.split_at-in-Some.ensures.back
    (sym c.is_deep.ensures ∙ c.if-not-is_deep.false) deep)

pub returns : goal.returns
returns c = λ t. c.lines.invariant (no_feed c.lines.rest.now (subst (IsFirstByte (is_byte 10) c.lines.rest.now) c.in_default.is c.memchr.ensures))
