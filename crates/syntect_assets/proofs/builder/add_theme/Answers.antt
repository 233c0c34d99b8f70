use Rattle.std.proofs.Common.{◌≡◌, ◌+◌, ◌∷◌, [], length, length-append, ap, ◌∙◌}
use Rattle.std.specs.Path.{path_bytes, path_buf_bytes}
use Rattle.syntect_assets.proofs.LoadingLaws.{is_added, is_passed}
use Rattle.syntect_assets.proofs.builder.add_theme.Goals as goal

pub returns-in_ok-insert-in-Ok-clause-added : goal.returns-in_ok-insert-in-Ok-clause-added
returns-in_ok-insert-in-Ok-clause-added g c =
    is_added (g.T.Tree.told c.args.tree.now) (path_buf_bytes c.args.path.now) (path_bytes c.as_path.result) c.in_ok-name-in-Ok.name c.in-Ok.ensures.ok.0 c.args.repository.now c.get_theme.new.repository
    c.args.themes.now.themes c.insert.new.self c.in-Ok.theme (length c.args.told.now.items) c.as_path.ensures c.in-Ok.ensures.ok.1 c.in-Ok.ensures.ok.2 c.in_ok-name-in-Ok.ensures c.in_ok-insert-in-Ok.ensures.ok

pub returns-in_ok-push-in-Err : goal.returns-in_ok-push-in-Err
returns-in_ok-push-in-Err g c =
    let more : length c.push.new.self.items ≡ length c.args.told.now.items + 1 = ap length c.in_ok-push-in-Err.ensures.items ∙ length-append c.args.told.now.items (c.in_ok-why_not_loaded-in-Err.field-0 ∷ []) in
    record {
      added =
          is_passed (g.T.Tree.told c.args.tree.now) (path_buf_bytes c.args.path.now) (path_bytes c.as_path.result) c.args.repository.now c.get_theme.new.repository c.args.themes.now.themes c.in-Err.e
          (length c.args.told.now.items) (length c.push.new.self.items) c.as_path.ensures c.in-Err.ensures.err (c.is_memory.ensures c.if-is_memory.false) c.in-Err.ensures.kept more;
      refused = tt;
    }
