use Rattle.syntect_assets.proofs.AssetsLaws.{built_of}
use Rattle.syntect_documents.proofs.NumberedLaws.{numbers_named}
use Rattle.syntect_documents.proofs.numbered.numbered_text.Goals as goal

pub returns-clause-shown : goal.returns-clause-shown
returns-clause-shown c = λ definitions b.
    numbers_named c.numbered_in.result c.args.assets.now c.args.text.now c.args.language.now c.args.theme.now c.args.form c.in_ok-syntax.syntax.now c.in_ok-syntax.ensures.found
    (c.numbered_in.ensures.shown definitions (built_of c.args.assets.now.set definitions c.args.language.now c.in_ok-syntax.syntax.now b c.in_ok-syntax.ensures.found))
