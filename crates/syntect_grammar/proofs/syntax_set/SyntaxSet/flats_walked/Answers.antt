use Rattle.syntect_grammar.proofs.FlatLaws.{if_ok, in_set}
use Rattle.syntect_grammar.proofs.syntax_set.SyntaxSet.flats_walked.Goals as goal

pub returns : goal.returns
returns c = if_ok _ _ (λ flats h. in_set c.args.self.now c.args.id flats h) c.flats_walked.result (rw c.syntaxes.ensures at c.flats_walked.ensures)
