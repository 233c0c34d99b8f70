use Rattle.std.proofs.Common.{sym, ◌∙◌}
use Rattle.syntect_grammar_rewrite.proofs.VanishLaws.{known-found}
use Rattle.syntect_grammar_rewrite.proofs.expand.vanishes.Goals as goal

pub returns : goal.returns
returns c h us all = known-found c.args.known.now c.args.name.now c.get.result c.get.ensures (sym c.is_some.ensures ∙ h) us all
