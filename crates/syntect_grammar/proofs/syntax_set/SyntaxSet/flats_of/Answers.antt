use Rattle.syntect_grammar.proofs.FlatLaws.{if_some, in_set}
use Rattle.syntect_grammar.proofs.syntax_set.SyntaxSet.flats_of.Goals as goal

pub returns : goal.returns
returns c = if_some _ _ (λ flats h. in_set c.args.self.now c.args.id flats.now h) c.flats_of.result c.flats_of.ensures
