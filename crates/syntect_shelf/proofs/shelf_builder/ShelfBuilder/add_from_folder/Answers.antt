use Rattle.std.proofs.Common.{ℕ, List, [], Option, subst}
use Rattle.std.specs.Prelude.{IfSome, IfNone}
use Rattle.std.specs.Path.{path_bytes}
use Rattle.syntect_grammar_limits.specs.syntect_base.Walks.{GivesFile, GivesNone}
use Rattle.syntect_shelf.proofs.ShelvingLaws.{next_added, all_added, breaks_off, not_begun, stopped_at, none_found}
use Rattle.syntect_shelf.specs.Shelving.{loading_of}
use Rattle.syntect_shelf.proofs.shelf_builder.ShelfBuilder.add_from_folder.Goals as goal

pub files-init : goal.files-init
files-init g c = record { added = ([], c.in-Ok.ensures.ok, none_found (g.T.Tree.told c.args.tree.now) (loading_of c.args.self.now).limits.folder c.args.repository.now c.args.self.now); kept = λ old b. b }

pub files-preserved : goal.files-preserved
files-preserved g c =
    let gives : GivesFile (g.T.Tree.told c.args.tree.now) c.files.walk c.next_file.new.self c.in-Ok-Some.path
    = subst (λ (o : Option (List ℕ)). IfSome o (GivesFile (g.T.Tree.told c.args.tree.now) c.files.walk c.next_file.new.self)) c.in-Ok-Some.field-0-is c.in-Ok-Some.ensures.found in
    record {
      added = next_added (g.T.Tree.told c.args.tree.now) (path_bytes c.args.folder) c.args.repository.now c.args.self.now c.files.walk c.next_file.new.self c.in-Ok-Some.path c.files.room c.add_file.new.room
          c.files.repository c.add_file.new.repository c.files.self c.add_file.new.self c.files.invariant.added gives c.in-Ok-add_file.ensures.ok;
      kept = λ old b. c.add_file.ensures.kept old (c.files.invariant.kept old b);
    }

pub returns-in-Err-clause-err : goal.returns-in-Err-clause-err
returns-in-Err-clause-err g c = not_begun (g.T.Tree.told c.args.tree.now) (path_bytes c.args.folder) c.args.repository.now c.args.self.now c.in-Err.e c.in-Err.ensures.err

pub returns-in-Ok-None-clause-ok : goal.returns-in-Ok-None-clause-ok
returns-in-Ok-None-clause-ok g c =
    let none : GivesNone (g.T.Tree.told c.args.tree.now) c.files.walk
    = subst (λ (o : Option (List ℕ)). IfNone o (GivesNone (g.T.Tree.told c.args.tree.now) c.files.walk)) c.in-Ok-None.field-0-is c.in-Ok-None.ensures.none in
    all_added (g.T.Tree.told c.args.tree.now) (path_bytes c.args.folder) c.args.repository.now c.args.self.now c.files.walk c.files.room c.files.repository c.files.self c.files.invariant.added none

pub returns-in-Err-next_file-clause-err : goal.returns-in-Err-next_file-clause-err
returns-in-Err-next_file-clause-err g c =
    breaks_off (g.T.Tree.told c.args.tree.now) (path_bytes c.args.folder) c.args.repository.now c.args.self.now c.files.walk c.files.room c.files.repository c.files.self c.in-Err-next_file.e
    c.files.invariant.added c.in-Err-next_file.ensures.err

pub returns-in-Err-add_file-clause-err : goal.returns-in-Err-add_file-clause-err
returns-in-Err-add_file-clause-err g c =
    let gives : GivesFile (g.T.Tree.told c.args.tree.now) c.files.walk c.next_file.new.self c.in-Ok-Some.path
    = subst (λ (o : Option (List ℕ)). IfSome o (GivesFile (g.T.Tree.told c.args.tree.now) c.files.walk c.next_file.new.self)) c.in-Ok-Some.field-0-is c.in-Ok-Some.ensures.found in
    stopped_at (g.T.Tree.told c.args.tree.now) (path_bytes c.args.folder) c.args.repository.now c.args.self.now c.files.walk c.next_file.new.self c.in-Ok-Some.path c.files.room
    c.files.repository c.add_file.new.repository c.files.self c.add_file.new.self c.in-Err-add_file.e c.files.invariant.added gives c.in-Err-add_file.ensures.err
    c.in-Err-add_file.ensures.refusal c.add_file.ensures.kept
