use Rattle.std.proofs.Common.{List, ℕ, ◌++◌, ap, ◌∙◌, string_bytes}
use Rattle.syntect_documents.proofs.classed.push_opening_tag.Goals as goal

pub returns : goal.returns
returns c = c.in_ok-push_str.ensures.bytes ∙ ap (λ (xs : List ℕ). string_bytes c.args.out.now ++ xs) (c.as_str.ensures.value ∙ c.in_ok-tag.ensures.text)
