use Rattle.syntect_parsing.proofs.DialectLaws.{lays_groups_out}
use Rattle.syntect_parsing.proofs.laws.dialect_lays_groups_out.Goals as goal

pub returns : goal.returns
returns c = lays_groups_out c.matches_are_laid_out.ensures c.groups_are_numbered.ensures
