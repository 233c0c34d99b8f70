use Rattle.std.proofs.Common.{string_bytes}
use Rattle.syntect_documents.specs.Lines.{line_tag}
use Rattle.syntect_documents.specs.syntect_writers.Classes.{closing_tag}
use Rattle.syntect_documents.specs.syntect_writers.Spans.{line_text}
use Rattle.syntect_documents.proofs.JoinLaws.{three_joined}
use Rattle.syntect_documents.proofs.numbered.push_numbered.Goals as goal

pub returns-clause-text : goal.returns-clause-text
returns-clause-text c =
    three_joined (line_tag c.args.form c.args.number) (line_text c.args.spans.now c.args.pieces.now) closing_tag
    (string_bytes c.args.out.now) (string_bytes c.push_line_tag.new.out) (string_bytes c.append.new.s) (string_bytes c.push_str.new.self)
    c.in_ok-push_line_tag.ensures c.in_ok-append.ensures.ok c.in_ok-push_str.ensures.bytes
