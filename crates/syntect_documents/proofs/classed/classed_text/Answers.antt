use Rattle.syntect_documents.proofs.ClassedLaws.{classed_named}
use Rattle.syntect_documents.proofs.classed.classed_text.Goals as goal

pub returns-clause-shown : goal.returns-clause-shown
returns-clause-shown c =
    classed_named c.classed_in.result c.args.assets.now c.args.text.now c.args.language.now c.args.style c.args.form c.in_ok-syntax.syntax.now c.in_ok-syntax.ensures.found c.classed_in.ensures.shown
