use Rattle.syntect_reading_choice.proofs.DialectLaws.{finds_on_boundaries}
use Rattle.syntect_reading_choice.proofs.laws.dialect_finds_on_boundaries.Goals as goal

pub returns : goal.returns
returns c = finds_on_boundaries c.pattern_matches_are_laid_out.ensures
