use Rattle.syntect_grammar.proofs.FlatLaws.{kept_no_syntax, kept_no_context}
use Rattle.syntect_grammar.proofs.syntaxes.flats_at.Goals as goal

pub returns-in_default : goal.returns-in_default
returns-in_default c = kept_no_syntax c.args.table.now c.args.id c.in_default.ensures

pub returns-in_default-get : goal.returns-in_default-get
returns-in_default-get c = kept_no_context c.args.table.now c.args.id c.in-Some.lists.now c.in-Some.ensures c.in_default-get.ensures
