use Rattle.std.proofs.Common.{List, ℕ, sym, subst, ◌∙◌, string_bytes}
use Rattle.std.proofs.lemmas.Result.{err_from_is_err_and}
use Rattle.syntect_cat.specs.Texts.{ShowsFile}
use Rattle.syntect_cat.proofs.ShownLaws.{file_shown, never_writing, not_shown}
use Rattle.syntect_cat.proofs.show.text_for.Goals as goal

pub returns-in-Ok-clause-shown : goal.returns-in-Ok-clause-shown
returns-in-Ok-clause-shown g c =
    let Told = g.T.Tree.told c.args.tree.now in
    file_shown c.loaded_is_plain.ensures Told c.args.job.folder.now c.args.job.theme.now c.args.job.format c.args.job.file.now (string_bytes c.in-Ok.shown.0) c.in-Ok.shown.1 _ _ c.in_ok-set.set c.in_ok-theme.theme
    (c.in_ok-set.ensures.ok c.new-repository.ensures.atoms) c.in_ok-theme.ensures.ok
    (λ definitions b. subst (λ (path : List ℕ). ShowsFile Told c.args.job.format c.in_ok-set.set c.in_ok-theme.theme path (string_bytes c.in-Ok.shown.0) c.in-Ok.shown.1) c.new-path.ensures (c.in-Ok.ensures.shown definitions b))

pub returns-clause-err : goal.returns-clause-err
returns-clause-err g c = λ h. never_writing c.in-Err.e (sym c.from.ensures ∙ h)

pub returns-clause-reason : goal.returns-clause-reason
returns-clause-reason g c = not_shown (g.T.Tree.told c.args.tree.now) c.args.job.folder.now c.args.job.file.now _ c.in-Err.e c.from.result c.from.ensures c.new-path.ensures c.in-Err.ensures.refused

pub returns-in_err-set-clause-reason : goal.returns-in_err-set-clause-reason
returns-in_err-set-clause-reason g c =
    let p = err_from_is_err_and c.from_residual.result c.from_residual.ensures.1 in
    rw (p.1, p.2) (c.in_err-set.ensures.reason c.args.job.file.now c.new-repository.ensures.atoms)
