use Rattle.syntect_grammar_limits.proofs.FileLaws.{told_with_path}
use Rattle.syntect_grammar_limits.specs.syntect_grammar_loader.Files.{no_memory}
use Rattle.syntect_shelf.proofs.bodies.refused_text.Goals as goal

pub returns-in-Memory-clause-told : goal.returns-in-Memory-clause-told
returns-in-Memory-clause-told c = λ newlines repo bytes u f. no_memory

pub returns-in-Ok-clause-told : goal.returns-in-Ok-clause-told
returns-in-Ok-clause-told c = λ newlines repo bytes u f. told_with_path newlines c.args.path.now bytes repo u c.in-Ok.path c.in-Ok.ensures.ok c.args.e c.in_default.not-Memory f

pub returns-in-Err-clause-told : goal.returns-in-Err-clause-told
returns-in-Err-clause-told c = λ newlines repo bytes u f. no_memory
