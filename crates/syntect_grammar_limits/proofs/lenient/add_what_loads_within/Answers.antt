use Rattle.std.proofs.Common.{◌≡◌, ℕ, List, [], ◌∷◌, ◌++◌, Option, subst, rules}
use Rattle.std.specs.Prelude.{IfSome, IfNone, IfErr}
use Rattle.std.specs.Path.{path_bytes}
use Rattle.syntect_grammar_limits.specs.syntect_base.Walks.{GivesFile, GivesNone}
use Rattle.syntect_grammar_limits.specs.syntect_base.declared.loading.LoadingError.TheVariants.{Memory}
use Rattle.syntect_grammar_limits.specs.declared.lenient.PassedOver.{PassedOver}
use Rattle.syntect_grammar_limits.proofs.LenientLaws.{breaks_off, not_begun, no_memory_left, no_memory_told, none_added, file_added, file_passed, one_more_passed, whole_folder}
use Rattle.syntect_grammar_limits.proofs.lenient.add_what_loads_within.Goals as goal

pub files-init : goal.files-init
files-init g c = record {
  added = none_added (g.T.Tree.told c.args.tree.now) c.args.limits.now c.args.lines_include_newline (path_bytes c.args.folder) c.args.repository.now c.args.builder.now c.in-Ok.walk c.new-passed.result c.in-Ok.ensures.ok c.new-passed.ensures;
  kept = λ old b. b;
}

pub returns-in-Ok-None-clause-ok : goal.returns-in-Ok-None-clause-ok
returns-in-Ok-None-clause-ok g c =
    let none : GivesNone (g.T.Tree.told c.args.tree.now) c.files.walk
    = subst (λ (o : Option (List ℕ)). IfNone o (GivesNone (g.T.Tree.told c.args.tree.now) c.files.walk)) c.in-Ok-None.field-0-is c.in-Ok-None.ensures.none in
    whole_folder (g.T.Tree.told c.args.tree.now) c.args.limits.now c.args.lines_include_newline (path_bytes c.args.folder) c.args.repository.now c.args.builder.now c.files.walk c.files.passed c.files.room c.files.repository c.files.builder c.files.invariant.added none

pub files-preserved-in-Ok-add_file : goal.files-preserved-in-Ok-add_file
files-preserved-in-Ok-add_file g c =
    let gives : GivesFile (g.T.Tree.told c.args.tree.now) c.files.walk c.next_file.new.self c.in-Ok-Some.path
    = subst (λ (o : Option (List ℕ)). IfSome o (GivesFile (g.T.Tree.told c.args.tree.now) c.files.walk c.next_file.new.self)) c.in-Ok-Some.field-0-is c.in-Ok-Some.ensures.found in
    record {
      added = file_added (g.T.Tree.told c.args.tree.now) c.args.limits.now c.args.lines_include_newline (path_bytes c.args.folder) c.args.repository.now c.args.builder.now c.files.walk c.next_file.new.self c.files.passed c.in-Ok-Some.path c.as_str.result.now c.files.room c.add_file.new.room
          c.files.repository c.add_file.new.repository c.files.builder c.add_file.new.builder c.files.invariant.added gives c.as_str.ensures c.in-Ok-add_file.ensures.ok;
      kept = λ old b. c.add_file.ensures.kept old (c.files.invariant.kept old b);
    }

pub files-preserved : goal.files-preserved
files-preserved g c =
    let gives : GivesFile (g.T.Tree.told c.args.tree.now) c.files.walk c.next_file.new.self c.in-Ok-Some.path
    = subst (λ (o : Option (List ℕ)). IfSome o (GivesFile (g.T.Tree.told c.args.tree.now) c.files.walk c.next_file.new.self)) c.in-Ok-Some.field-0-is c.in-Ok-Some.ensures.found in
    let p : PassedOver = record { path = c.in-Ok-Some.path; why = c.in-Err-add_file.why } in
    record {
      added = one_more_passed (g.T.Tree.told c.args.tree.now) c.args.limits.now c.args.lines_include_newline (path_bytes c.args.folder) c.args.repository.now c.args.builder.now c.next_file.new.self (c.files.passed ++ p ∷ []) c.push.new.self c.files.room
          c.add_file.new.repository c.add_file.new.builder c.in_ok-push-in-Err-add_file.ensures.ok
          (file_passed (g.T.Tree.told c.args.tree.now) c.args.limits.now c.args.lines_include_newline (path_bytes c.args.folder) c.args.repository.now c.args.builder.now c.files.walk c.next_file.new.self c.files.passed p c.as_str.result.now c.files.room
          c.files.repository c.add_file.new.repository c.files.builder c.add_file.new.builder c.files.invariant.added gives c.as_str.ensures c.in-Err-add_file.ensures.refusal (c.is_memory.ensures c.if-is_memory.false) c.add_file.ensures.kept c.in-Err-add_file.ensures.err);
      kept = λ old b. c.add_file.ensures.kept old (c.files.invariant.kept old b);
    }

pub returns-in-Err-next_file-clause-err : goal.returns-in-Err-next_file-clause-err
returns-in-Err-next_file-clause-err g c =
    breaks_off (g.T.Tree.told c.args.tree.now) c.args.limits.now c.args.lines_include_newline (path_bytes c.args.folder) c.args.repository.now c.args.builder.now c.files.walk c.files.passed c.files.room c.files.repository c.files.builder
    c.in-Err-next_file.e c.files.invariant.added c.in-Err-next_file.ensures.err

pub returns-in-Err-clause-err : goal.returns-in-Err-clause-err
returns-in-Err-clause-err g c = not_begun (g.T.Tree.told c.args.tree.now) c.args.limits.now c.args.lines_include_newline (path_bytes c.args.folder) c.args.repository.now c.args.builder.now c.in-Err.e c.in-Err.ensures.err

pub returns-then-is_memory-clause-err : goal.returns-then-is_memory-clause-err
returns-then-is_memory-clause-err g c =
    no_memory_left (g.T.Tree.told c.args.tree.now) c.args.limits.now c.args.lines_include_newline (path_bytes c.args.folder) c.args.repository.now c.args.builder.now c.files.walk c.files.passed c.files.room
    c.files.repository c.add_file.new.repository c.files.builder c.add_file.new.builder c.files.invariant.added c.add_file.ensures.kept c.in-Err-add_file.ensures.err

pub returns-in_err-push-in-Err-add_file-clause-err : goal.returns-in_err-push-in-Err-add_file-clause-err
returns-in_err-push-in-Err-add_file-clause-err g c =
    let memory : IfErr c.from_residual.result (λ e. e ≡ Memory) = search rules in
    no_memory_told (g.T.Tree.told c.args.tree.now) c.args.limits.now c.args.lines_include_newline (path_bytes c.args.folder) c.args.repository.now c.args.builder.now c.from_residual.result memory
    c.files.walk c.files.passed c.files.room c.files.repository c.add_file.new.repository c.files.builder c.add_file.new.builder c.files.invariant.added c.add_file.ensures.kept c.in-Err-add_file.ensures.err
