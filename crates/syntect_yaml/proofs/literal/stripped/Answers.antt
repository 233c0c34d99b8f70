use Rattle.std.proofs.Common.{◌≡◌, IsUtf8, length, take, string_bytes, sym, ap, ◌∙◌, subst, arith}
use Rattle.std.proofs.lemmas.Grind.{common_steps}
use Rattle.std.proofs.lemmas.Str.{IsUtf8-string_bytes, IsCharBoundary-from_take}
use Rattle.syntect_yaml.specs.Literal.{stripped}
use Rattle.syntect_yaml.proofs.LiteralLaws.{trimmed_feeds}
use Rattle.syntect_yaml.proofs.literal.stripped.Goals as goal

pub truncate-requires : goal.truncate-requires
truncate-requires c within =
    let bs = string_bytes c.into_string-string.result in
    let n = length c.trim_end_matches-n.result.now in
    let same : c.trim_end_matches-n.result.now ≡ take n bs = c.trim_end_matches-n.ensures.value ∙ ap (take n) c.as_str.ensures.value in
    let boundary = IsCharBoundary-from_take bs n (IsUtf8-string_bytes c.into_string-string.result) (grind (arith, common_steps)) (subst IsUtf8 same c.trim_end_matches-n.utf8) in
    (boundary.0, λ some. boundary.1)

pub returns : goal.returns
returns c =
    let kept = trimmed_feeds c.as_str.result.now c.trim_end_matches-n.result.now c.trim_end_matches-n.ensures.matches in
    c.from_string.ensures ∙ c.truncate.ensures.bytes ∙ sym (c.trim_end_matches-n.ensures.value ∙ ap (take (length c.trim_end_matches-n.result.now)) c.as_str.ensures.value) ∙ kept ∙ ap stripped (c.as_str.ensures.value ∙ c.into_string-string.ensures)
