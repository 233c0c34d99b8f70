use Rattle.syntect_pattern.proofs.PatternLaws.{finds_pattern_matches}
use Rattle.syntect_pattern.proofs.laws.pattern_matches_are_laid_out.Goals as goal

pub returns : goal.returns
returns c = finds_pattern_matches
