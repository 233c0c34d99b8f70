use Rattle.std.proofs.Common.{◌≡◌, ◌++◌, drop}
use Rattle.syntect_writers.specs.Spans.{plain_pieces, line_text}
use Rattle.syntect_writers.specs.Opened.{line_behind}
use Rattle.syntect_writers.proofs.spans.SpanWriter.push_line.Given as goal

-- the writer is as it was; what is written, and what is still to be, are the whole line
abbrev pub invariant-loop-piece : goal.invariant-loop-piece
invariant-loop-piece l = record {
  kept : l.self ≡ l.fn.self;
  front : l.out.front ≡ l.fn.out.front;
  back : l.out.back ++ line_behind l.fn.self l.last (plain_pieces (drop l.piece-index l.v)) ≡ l.fn.out.back ++ line_text l.fn.self l.v;
}
