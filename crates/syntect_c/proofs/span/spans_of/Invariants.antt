use Rattle.std.proofs.Common.{◌≡◌, ◌<◌, ◌^◌, ◌+◌, ◌++◌, drop}
use Rattle.syntect_c.specs.Spans.{all_bytes, spans_from}
use Rattle.syntect_c.proofs.span.spans_of.Given as goal

abbrev pub invariant-loop-style : goal.invariant-loop-style
invariant-loop-style l = all_bytes l.pieces < 2 ^ 64
    → (l.spans.items ++ spans_from l.offset (drop l.style-index l.pieces) ≡ spans_from 0 l.pieces)
    × (l.offset + all_bytes (drop l.style-index l.pieces) ≡ all_bytes l.pieces)
