use Rattle.std.proofs.Common.{◌≡◌, ◌<◌, ◌+◌, length, arith, ap, ◌∙◌}
use Rattle.std.proofs.lemmas.Grind.{common_steps}
use Rattle.std.proofs.lemmas.List.{length-drop}
use Rattle.std.specs.List.{prefix_len}
use Rattle.syntect_writers.specs.Text.{is_in_line}
use Rattle.syntect_writers.proofs.TextLaws.{lines_at, one_line, ascii_at, line_ascii, boundary_behind}
use Rattle.syntect_writers.proofs.text.split_line.Goals as goal

pub returns-then-len-bytes : goal.returns-then-len-bytes
returns-then-len-bytes c =
    let is : c.front_len-len.result ≡ prefix_len is_in_line c.args.text.now = c.front_len-len.ensures.len ∙ ap (prefix_len is_in_line) c.as_bytes-bytes.ensures.value in
    let all : c.front_len-len.result ≡ length c.args.text.now = grind (arith, common_steps) in
    record {
      lines = λ some. one_line c.args.text.now _ is all some;
      shorter = λ some. some;
    }

pub split_at-requires : goal.split_at-requires
split_at-requires c =
    let is : c.front_len-len.result ≡ prefix_len is_in_line c.args.text.now = c.front_len-len.ensures.len ∙ ap (prefix_len is_in_line) c.as_bytes-bytes.ensures.value in
    let less : c.front_len-len.result < length c.args.text.now = grind (arith, common_steps) in
    boundary_behind c.args.text.now _ c.utf8.text less (ascii_at is_in_line line_ascii c.args.text.now _ is less)

pub returns : goal.returns
returns c =
    let is : c.front_len-len.result ≡ prefix_len is_in_line c.args.text.now = c.front_len-len.ensures.len ∙ ap (prefix_len is_in_line) c.as_bytes-bytes.ensures.value in
    let less : c.front_len-len.result < length c.args.text.now = grind (arith, common_steps) in
    record {
      lines = λ some. rw (c.split_at.ensures.front, c.split_at.ensures.back) (lines_at c.args.text.now _ is less);
      shorter = λ some. rw (c.split_at.ensures.back) (omega (arith, length-drop (c.front_len-len.result + 1) c.args.text.now, less));
    }
