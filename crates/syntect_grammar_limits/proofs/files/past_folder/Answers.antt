use Rattle.syntect_grammar_limits.specs.FilesWithin.{past_folder, no_room}
use Rattle.syntect_grammar_limits.proofs.files.past_folder.Goals as goal

pub returns-in-Ok : goal.returns-in-Ok
returns-in-Ok c = λ limits newlines repo room bytes u e. past_folder u e c.in-Ok.ensures.ok

pub returns-in-Err : goal.returns-in-Err
returns-in-Err c = λ limits newlines repo room bytes u e. no_room
