use Rattle.syntect_easy.proofs.ReaderLaws.{no_text_after, stopped_after, stopped_at_line}
use Rattle.syntect_easy.proofs.RowLaws.{rows_begin, rows_go_on, rows_end}
use Rattle.syntect_easy.proofs.laws.rows_of_readers.Goals as goal

pub returns-clause-begin : goal.returns-clause-begin
returns-clause-begin c = rows_begin

pub returns-clause-more : goal.returns-clause-more
returns-clause-more c = rows_go_on

pub returns-clause-all : goal.returns-clause-all
returns-clause-all c = rows_end

pub returns-clause-refuse : goal.returns-clause-refuse
returns-clause-refuse c = stopped_at_line

pub returns-clause-stop : goal.returns-clause-stop
returns-clause-stop c = stopped_after

pub returns-clause-no_text : goal.returns-clause-no_text
returns-clause-no_text c = no_text_after
