use Rattle.syntect_writers.proofs.SpanLaws.{nine_joined}
use Rattle.syntect_writers.proofs.terminal.push_sequence.Goals as goal

pub returns : goal.returns
returns c =
    nine_joined _ _ _ _ _ _ _ _ _ _ _ _ _ _ _ _ _ _ _ c.in_ok-push_str.ensures.bytes c.in_ok-push_str-2.ensures.bytes c.in_ok-push_str-3.ensures.bytes
    (rw c.decimal.ensures at c.in_ok-push_str-4.ensures.bytes) c.in_ok-push_str-5.ensures.bytes (rw c.decimal-2.ensures at c.in_ok-push_str-6.ensures.bytes) c.in_ok-push_str-7.ensures.bytes
    (rw c.decimal-3.ensures at c.in_ok-push_str-8.ensures.bytes) c.in_ok-push_str-9.ensures.bytes
