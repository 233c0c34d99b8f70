use Rattle.syntect_easy.proofs.PlainLaws.{lines_begin, lines_end, lines_go_on}
use Rattle.syntect_easy.proofs.laws.lines_within_limits.Goals as goal

pub returns-clause-begin : goal.returns-clause-begin
returns-clause-begin c = lines_begin

pub returns-clause-more : goal.returns-clause-more
returns-clause-more c = lines_go_on

pub returns-clause-all : goal.returns-clause-all
returns-clause-all c = lines_end
