use Rattle.std.proofs.lemmas.Result.{err_from_is_err_and}
use Rattle.std.proofs.Common.{refl}
use Rattle.std.specs.Path.{path_bytes}
use Rattle.syntect_assets.proofs.LoadingLaws.{stops_at_themes}
use Rattle.syntect_assets.proofs.builder.AssetsBuilder.add_what_loads.Goals as goal

pub returns-in_err-add_themes_that_load-clause-refused : goal.returns-in_err-add_themes_that_load-clause-refused
returns-in_err-add_themes_that_load-clause-refused g c =
    let a = c.in_ok-told.ensures.added in
    let r = c.from_residual-in_err-add_themes_that_load in
    let e = c.in_err-add_themes_that_load in
    let p = err_from_is_err_and r.result r.ensures.1 in
    rw (p.1, p.2) (stops_at_themes (g.T.Tree.told c.args.tree.now) (path_bytes c.args.folder) c.args.self.now c.add_grammars_that_load.new.self _ a.0 e.field-0.0 a.1.grammars a.1.same_themes a.1.same_limits
    e.ensures.refused refl refl e.ensures.kept)
