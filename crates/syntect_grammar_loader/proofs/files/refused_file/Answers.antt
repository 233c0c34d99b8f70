use Rattle.std.proofs.Common.{◌≢◌}
use Rattle.syntect_base.specs.declared.syntax.ParseSyntaxError.TheVariants as syntax
use Rattle.syntect_grammar_loader.specs.Files.{no_memory}
use Rattle.syntect_grammar_loader.proofs.SyntaxFileLaws.{told_with_path}
use Rattle.syntect_grammar_loader.proofs.files.refused_file.Goals as goal

pub returns-in-Memory : goal.returns-in-Memory
returns-in-Memory c = λ newlines repo bytes u f. no_memory

pub returns-in-Ok : goal.returns-in-Ok
returns-in-Ok c = λ newlines repo bytes u f.
    let n : c.args.e ≢ syntax.Memory = c.in_default.not-Memory in
    told_with_path newlines c.args.path.now repo bytes c.in-Ok.path c.args.e u c.in-Ok.ensures.ok n f

pub returns-in-Err : goal.returns-in-Err
returns-in-Err c = λ newlines repo bytes u f. no_memory
