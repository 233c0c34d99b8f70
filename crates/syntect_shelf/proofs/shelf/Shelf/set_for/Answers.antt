use Rattle.syntect_shelf.proofs.GatherLaws.{no_room}
use Rattle.syntect_shelf.proofs.shelf.Shelf.set_for.Goals as goal

pub returns-in-Err-set_of-clause-err : goal.returns-in-Err-set_of-clause-err
returns-in-Err-set_of-clause-err g c = no_room (g.T.Tree.told c.args.tree.now) c.args.self.now.loading c.args.self.now.grammars c.args.place c.args.repository.now c.no_memory.result c.no_memory.ensures
