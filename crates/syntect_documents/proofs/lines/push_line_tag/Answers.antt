use Rattle.std.proofs.Common.{Bool, List, ℕ, ◌++◌, codes, ap, ◌∙◌, string_bytes}
use Rattle.syntect_documents.specs.Lines.{is_marked, mark_text, name_text, number_text}
use Rattle.syntect_documents.proofs.JoinLaws.{six_joined}
use Rattle.syntect_documents.proofs.lines.push_line_tag.Goals as goal

pub returns : goal.returns
returns c =
    six_joined (codes "<span class=\"line") (mark_text (is_marked c.args.form.marked.now c.args.number)) (codes "\"") (name_text c.args.form.anchor c.args.number) (number_text c.args.form.numbers c.args.number) (codes ">")
    (string_bytes c.args.out.now) (string_bytes c.push_str.new.self) (string_bytes c.push_mark.new.out) (string_bytes c.push_str-2.new.self) (string_bytes c.push_name.new.out) (string_bytes c.push_number.new.out) (string_bytes c.push_str-3.new.self)
    c.in_ok-push_str.ensures.bytes (c.in_ok-push_mark.ensures ∙ ap (λ (b : Bool). string_bytes c.push_str.new.self ++ mark_text b) c.is_marked.ensures) c.in_ok-push_str-2.ensures.bytes c.in_ok-push_name.ensures c.in_ok-push_number.ensures
    c.in_ok-push_str-3.ensures.bytes
