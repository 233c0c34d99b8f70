use Rattle.std.proofs.Common.{◌≡◌, ◌<◌, ◌+◌, length, arith, ap, sym, ◌∙◌}
use Rattle.std.proofs.lemmas.Grind.{common_steps}
use Rattle.std.proofs.lemmas.List.{length-drop}
use Rattle.std.specs.List.{prefix_len}
use Rattle.syntect_writers.specs.Text.{is_plain}
use Rattle.syntect_writers.proofs.TextLaws.{escaped_whole, escaped_at, ascii_at, plain_stop, stops, boundary, boundary_behind}
use Rattle.syntect_writers.proofs.text.split_plain.Goals as goal

pub returns-then-len-bytes : goal.returns-then-len-bytes
returns-then-len-bytes c =
    let is : c.front_len-len.result ≡ prefix_len is_plain c.args.text.now = c.front_len-len.ensures.len ∙ ap (prefix_len is_plain) c.as_bytes-bytes.ensures.value in
    escaped_whole c.args.text.now (sym is ∙ grind (arith, common_steps))

pub split_at-requires : goal.split_at-requires
split_at-requires c =
    let is : c.front_len-len.result ≡ prefix_len is_plain c.args.text.now = c.front_len-len.ensures.len ∙ ap (prefix_len is_plain) c.as_bytes-bytes.ensures.value in
    let less : c.front_len-len.result < length c.args.text.now = grind (arith, common_steps) in
    boundary c.args.text.now _ less (ascii_at is_plain plain_stop c.args.text.now _ is less)

pub split_at-requires-2 : goal.split_at-requires-2
split_at-requires-2 c =
    let is : c.front_len-len.result ≡ prefix_len is_plain c.args.text.now = c.front_len-len.ensures.len ∙ ap (prefix_len is_plain) c.as_bytes-bytes.ensures.value in
    let less : c.front_len-len.result < length c.args.text.now = grind (arith, common_steps) in
    boundary_behind c.args.text.now _ c.utf8.text less (ascii_at is_plain plain_stop c.args.text.now _ is less)

pub returns : goal.returns
returns c =
    let is : c.front_len-len.result ≡ prefix_len is_plain c.args.text.now = c.front_len-len.ensures.len ∙ ap (prefix_len is_plain) c.as_bytes-bytes.ensures.value in
    let less : c.front_len-len.result < length c.args.text.now = grind (arith, common_steps) in
    record {
      stop = rw (c.as_bytes-bytes.ensures.value) (stops is_plain c.args.text.now _ is less);
      written = rw (c.as_bytes-bytes.ensures.value, c.split_at.ensures.front, c.split_at-2.ensures.back) (escaped_at c.args.text.now _ is less);
      shorter = rw (c.split_at-2.ensures.back) (omega (arith, length-drop (c.front_len-len.result + 1) c.args.text.now, less));
    }
