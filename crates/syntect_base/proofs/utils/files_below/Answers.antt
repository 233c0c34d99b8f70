use Rattle.std.proofs.Common.{ℕ, List, Option, subst}
use Rattle.std.specs.Path.{path_bytes}
use Rattle.std.specs.Prelude.{IfSome, IfNone}
use Rattle.syntect_base.specs.Walks.{GivesFile, GivesNone, no_memory}
use Rattle.syntect_base.specs.declared.utils.Sought.TheVariants.{Themes}
use Rattle.syntect_base.proofs.WalkLaws.{one_more_kept, so_far, all_found, breaks_off}
use Rattle.syntect_base.proofs.utils.files_below.Goals as goal

pub files-preserved : goal.files-preserved
files-preserved g c =
    let Told = g.T.Tree.told c.args.tree.now in
    let gives : GivesFile Told c.files.walk c.next_file.new.self c.in-Ok-Some.path
    = subst (λ (o : Option (List ℕ)). IfSome o (GivesFile Told c.files.walk c.next_file.new.self)) c.in-Ok-Some.field-0-is c.in-Ok-Some.ensures.found in
    record {
      walk = one_more_kept Told Themes (path_bytes c.args.folder) c.files.found c.files.walk c.files.invariant.walk c.next_file.new.self c.in-Ok-Some.path c.push.new.self c.in-Ok-push.ensures.ok gives;
    }

pub returns-in-Err-push-clause-err : goal.returns-in-Err-push-clause-err
returns-in-Err-push-clause-err g c =
    (c.files.found, no_memory (so_far (g.T.Tree.told c.args.tree.now) Themes (path_bytes c.args.folder) c.files.found c.files.walk c.files.invariant.walk))

pub returns-in-Ok-None-clause-ok : goal.returns-in-Ok-None-clause-ok
returns-in-Ok-None-clause-ok g c =
    let Told = g.T.Tree.told c.args.tree.now in
    let none : GivesNone Told c.files.walk = subst (λ (o : Option (List ℕ)). IfNone o (GivesNone Told c.files.walk)) c.in-Ok-None.field-0-is c.in-Ok-None.ensures.none in
    all_found Told Themes (path_bytes c.args.folder) c.files.found c.files.walk c.files.invariant.walk none

pub returns-in-Err-next_file-clause-err : goal.returns-in-Err-next_file-clause-err
returns-in-Err-next_file-clause-err g c =
    (c.files.found, breaks_off (g.T.Tree.told c.args.tree.now) Themes (path_bytes c.args.folder) c.files.found c.files.walk c.files.invariant.walk c.in-Err-next_file.e c.in-Err-next_file.ensures.err)
