use Rattle.syntect_pattern.proofs.FoundLaws.{finds_matches}
use Rattle.syntect_pattern.proofs.laws.matches_are_laid_out.Goals as goal

pub returns : goal.returns
returns c = finds_matches
