use Rattle.std.proofs.Common.{Err, subst, sym}
use Rattle.std.specs.Path.{path_file_stem}
use Rattle.syntect_grammar_limits.proofs.FileLaws.{limit_told, refused_within}
use Rattle.syntect_grammar_limits.specs.FilesWithin.{no_memory, RefusesSyntaxWithin}
use Rattle.syntect_grammar_limits.specs.Limited.{left_of, LoadsWithin}
use Rattle.syntect_grammar_limits.specs.declared.folder_error.FolderWithinError.{FolderWithinError}
use Rattle.syntect_grammar_limits.specs.syntect_base.declared.limits.LoadWithinError.{LoadWithinError}
use Rattle.syntect_grammar_limits.specs.syntect_grammar_loader.Loading.{loaded}
use Rattle.syntect_shelf.proofs.bodies.refused_file.Goals as goal

pub returns-in-Refused : goal.returns-in-Refused
returns-in-Refused c = λ limits newlines old new bytes u f.
    refused_within limits newlines c.args.path.now bytes old new u c.in-Refused.e c.refused_text.result (c.refused_text.ensures.told newlines old bytes u) c.refused_text.ensures.memory
    (subst (λ (x : LoadWithinError). LoadsWithin (left_of limits bytes) (loaded bytes newlines (path_file_stem c.args.path.now) old) (Err x) new) c.in-Refused.is f)

pub returns-in-Ok : goal.returns-in-Ok
returns-in-Ok c = λ limits newlines old new bytes u f.
    limit_told limits newlines c.args.path.now bytes old new u c.in-Ok.path c.in-Ok.ensures.ok c.in-LimitReached.r
    (subst (λ (x : LoadWithinError). LoadsWithin (left_of limits bytes) (loaded bytes newlines (path_file_stem c.args.path.now) old) (Err x) new) c.in-LimitReached.is f)

pub returns-in-Err : goal.returns-in-Err
returns-in-Err c = λ limits newlines old new bytes u f. subst (λ (x : FolderWithinError). RefusesSyntaxWithin limits newlines c.args.path.now bytes old x) (sym c.no_memory.ensures) no_memory
