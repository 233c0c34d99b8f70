use Rattle.std.proofs.Common.{refl}
use Rattle.std.specs.Path.{path_bytes}
use Rattle.syntect_assets.proofs.LoadingLaws.{stops_at_walk}
use Rattle.syntect_assets.proofs.builder.AssetsBuilder.add_grammars_that_load.Goals as goal

pub returns-in-Err-clause-refused : goal.returns-in-Err-clause-refused
returns-in-Err-clause-refused g c =
    stops_at_walk (g.T.Tree.told c.args.tree.now) (path_bytes c.args.folder) c.args.self.now _ c.in-Err.e c.in_ok-refused-in-Err.field-0 c.in-Err.ensures.err refl refl c.in_ok-refused-in-Err.ensures
