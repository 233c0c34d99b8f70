use Rattle.std.proofs.Common.{ℕ, List, ap, sym, ◌∙◌, subst}
use Rattle.syntect_theme_files.specs.syntect_base.Trees.{has_bytes}
use Rattle.syntect_theme_files.specs.ThemeFiles.{theme_name, IsThemeFault}
use Rattle.syntect_theme_files.proofs.FileLaws.{adds_one}
use Rattle.syntect_theme_files.proofs.theme_set.ThemeSet.add_theme.Goals as goal

pub returns-in-Ok-insert-clause-ok : goal.returns-in-Ok-insert-clause-ok
returns-in-Ok-insert-clause-ok g c =
    let Told = g.T.Tree.told c.args.tree.now in
    adds_one Told c.args.path.now c.in-Some.name.now c.in-Ok-from_str.name c.in-Ok.ensures.ok.0 c.args.repository.now c.get_theme.new.repository c.args.self.now.themes c.insert.new.self c.in-Ok.theme
    (ap theme_name (sym c.new.ensures) ∙ sym c.in-Some.ensures) (subst (λ (p : List ℕ). Told (has_bytes p c.in-Ok.ensures.ok.0)) c.new-2.ensures c.in-Ok.ensures.ok.1) c.in-Ok.ensures.ok.2 c.in-Ok-from_str.ensures c.in-Ok-insert.ensures.ok

pub returns-in-Err-clause-refusal : goal.returns-in-Err-clause-refusal
returns-in-Err-clause-refusal g c = subst (λ (p : List ℕ). IsThemeFault (g.T.Tree.told c.args.tree.now) p c.in-Err.e) c.new-2.ensures c.in-Err.ensures.err
