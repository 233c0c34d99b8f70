use Rattle.syntect_writers.specs.Spans.{flags_text}
use Rattle.syntect_writers.proofs.SpanLaws.{three_joined}
use Rattle.syntect_writers.proofs.html.push_flags.Goals as goal

pub returns-clause-back : goal.returns-clause-back
unfolding flags_text
returns-clause-back c = rw (← c.bits-bits.ensures) (three_joined _ _ _ _ _ _ _ c.in_ok-push_if.ensures.back c.in_ok-push_if-2.ensures.back c.in_ok-push_if-3.ensures.back)
