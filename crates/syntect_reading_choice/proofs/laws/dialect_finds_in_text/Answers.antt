use Rattle.syntect_reading_choice.proofs.DialectLaws.{finds_in_text}
use Rattle.syntect_reading_choice.proofs.laws.dialect_finds_in_text.Goals as goal

pub returns : goal.returns
returns c = finds_in_text c.matches_are_laid_out.ensures
