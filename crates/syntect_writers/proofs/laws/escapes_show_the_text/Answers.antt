use Rattle.syntect_writers.proofs.OutcomeLaws.{shown, harmless}
use Rattle.syntect_writers.proofs.laws.escapes_show_the_text.Goals as goal

pub returns-clause-shown : goal.returns-clause-shown
returns-clause-shown c = shown

pub returns-clause-harmless : goal.returns-clause-harmless
returns-clause-harmless c = harmless
