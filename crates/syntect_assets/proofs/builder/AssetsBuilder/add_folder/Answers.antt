use Rattle.std.proofs.Common.{refl}
use Rattle.std.specs.Path.{path_bytes}
use Rattle.syntect_assets.proofs.LoadingLaws.{all_at_grammars, all_at_themes}
use Rattle.syntect_assets.proofs.builder.AssetsBuilder.add_folder.Goals as goal

pub returns-in-Err-clause-refused : goal.returns-in-Err-clause-refused
returns-in-Err-clause-refused g c =
    all_at_grammars (g.T.Tree.told c.args.tree.now) (path_bytes c.args.folder) c.args.self.now _ c.in-Err.e c.in_ok-refused_grammars.field-0 c.in-Err.ensures.err refl refl c.in_ok-refused_grammars.ensures

pub returns-in-Err-add_from_folder-clause-refused : goal.returns-in-Err-add_from_folder-clause-refused
returns-in-Err-add_from_folder-clause-refused g c =
    all_at_themes (g.T.Tree.told c.args.tree.now) (path_bytes c.args.folder) c.args.self.now _ c.in-Err-add_from_folder.e c.in_ok-refused_themes.field-0 c.add_from_folder_within.new.repository
    c.in_default.ensures.ok c.in-Err-add_from_folder.ensures.err refl c.in_ok-refused_themes.ensures
