use Rattle.std.proofs.Common.{List, ℕ, ap, ◌∙◌}
use Rattle.std.specs.Prelude.{slice_get}
use Rattle.syntect_documents.proofs.DocumentLaws.{first_decides}
use Rattle.syntect_documents.proofs.document.begins_with_slash.Goals as goal

pub returns-in-Some : goal.returns-in-Some
returns-in-Some c = first_decides c.args.text.now c.in-Some.b.now (c.in-Some.ensures.value ∙ ap (λ (bs : List ℕ). slice_get bs 0) c.as_bytes.ensures.value)
