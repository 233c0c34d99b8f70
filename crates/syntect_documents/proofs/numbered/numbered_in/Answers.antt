use Rattle.std.proofs.Common.{List, ℕ, subst, ◌∙◌, string_bytes}
use Rattle.syntect_documents.specs.Numbered.{IsNumbered}
use Rattle.syntect_documents.proofs.numbered.numbered_in.Goals as goal

pub returns-clause-shown : goal.returns-clause-shown
returns-clause-shown c = λ definitions b.
    let t = c.in_ok-text.ensures.text definitions c.args.syntax.now b (c.in_ok-lines.ensures.leads c.args.assets.now.set) in
    subst (λ (text : List ℕ). IsNumbered c.args.assets.now.limits c.args.form c.args.assets.now.set c.args.theme.now c.args.syntax.now text (string_bytes c.in_ok-text.text) c.in_ok-text.plain)
    (t.1 ∙ c.as_bytes.ensures.value) t.3
