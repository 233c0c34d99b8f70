use Rattle.std.proofs.Common.{length}
use Rattle.std.specs.Path.{path_bytes, path_buf_bytes}
use Rattle.std.proofs.lemmas.Result.{err_from_is_err_and}
use Rattle.syntect_assets.proofs.LoadingLaws.{none_yet, no_room_told, one_more, all_themes}
use Rattle.syntect_assets.proofs.builder.add_themes_that_load.Goals as goal

pub loop-path-init : goal.loop-path-init
loop-path-init g c = none_yet (g.T.Tree.told c.args.tree.now) c.args.repository.now c.args.themes.now.themes (length c.args.told.now.items)

pub loop-path-preserved : goal.loop-path-preserved
loop-path-preserved g c =
    one_more (g.T.Tree.told c.args.tree.now) path_buf_bytes c.as_slice-path-items.result.now c.loop-path.path-index c.path-item.result c.args.repository.now c.loop-path.repository c.add_theme.new.repository
    c.args.themes.now.themes c.loop-path.themes.themes c.add_theme.new.themes.themes (length c.args.told.now.items) (length c.loop-path.told.items) (length c.add_theme.new.told.items)
    c.loop-path-test.true c.path-item.is c.loop-path.invariant c.in_ok-add_theme.ensures.added

pub returns-clause-added : goal.returns-clause-added
returns-clause-added g c =
    all_themes (g.T.Tree.told c.args.tree.now) path_buf_bytes (path_bytes c.args.folder) c.in-Ok.ensures.ok.0 c.in-Ok.paths.items c.as_slice-path-items.result.now c.loop-path.path-index c.args.repository.now c.loop-path.repository
    c.args.themes.now.themes c.loop-path.themes.themes (length c.args.told.now.items) (length c.loop-path.told.items) c.in-Ok.ensures.ok.1 c.in-Ok.ensures.ok.2 c.as_slice-path-items.ensures.value c.loop-path-test.false c.loop-path.invariant

pub returns-in_err-add_theme-clause-refused : goal.returns-in_err-add_theme-clause-refused
returns-in_err-add_theme-clause-refused g c =
    let r = c.from_residual-in_err-add_theme in
    let e = c.in_err-add_theme in
    let p = err_from_is_err_and r.result r.ensures.1 in
    rw (p.1, p.2) (no_room_told (g.T.Tree.told c.args.tree.now) (path_bytes c.args.folder) e.field-0.0 e.ensures.refused)
