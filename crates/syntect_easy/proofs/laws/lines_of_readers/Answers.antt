use Rattle.syntect_easy.proofs.RowLaws.{reading_begins, reading_finds_no_text, reading_goes_on}
use Rattle.syntect_easy.proofs.laws.lines_of_readers.Goals as goal

pub returns-clause-begin : goal.returns-clause-begin
returns-clause-begin c = reading_begins

pub returns-clause-more : goal.returns-clause-more
returns-clause-more c = reading_goes_on

pub returns-clause-no_text : goal.returns-clause-no_text
returns-clause-no_text c = reading_finds_no_text
