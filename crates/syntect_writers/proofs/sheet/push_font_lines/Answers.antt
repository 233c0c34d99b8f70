use Rattle.syntect_writers.proofs.SpanLaws.{three_joined}
use Rattle.syntect_writers.proofs.sheet.push_font_lines.Goals as goal

pub returns : goal.returns
returns c = rw (← c.bits-bits.ensures) (three_joined _ _ _ _ _ _ _ c.in_ok-push_if.ensures c.in_ok-push_if-2.ensures c.in_ok-push_if-3.ensures)
