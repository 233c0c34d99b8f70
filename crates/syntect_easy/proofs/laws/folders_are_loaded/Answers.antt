use Rattle.syntect_easy.proofs.LoadedSetLaws.{folders_hold}
use Rattle.syntect_easy.proofs.laws.folders_are_loaded.Goals as goal

pub returns : goal.returns
returns g c = folders_hold (g.T.Tree.told c.args.tree.now)
