use Rattle.std.proofs.Common.{◌≡◌, ◌≤◌, Some, length, slice_get}
use Rattle.syntect_shelf.proofs.GatherLaws.{get_there, no_room, none_asked, one_asked}
use Rattle.syntect_shelf.specs.Gathering.{at_asked}
use Rattle.syntect_shelf.proofs.gathering.gather_asked.Goals as goal

pub returns-in_default-clause-err : goal.returns-in_default-clause-err
returns-in_default-clause-err g c = no_room (g.T.Tree.told c.args.tree.now) c.args.loading.now c.args.grammars.now c.args.place c.args.repository.now c.no_memory.result c.no_memory.ensures

pub returns-in_default-get-clause-ok : goal.returns-in_default-get-clause-ok
returns-in_default-get-clause-ok g c =
    let none : length c.args.grammars.now ≤ c.args.place = c.in_default-get.ensures.lookup.3 in
    (none_asked (g.T.Tree.told c.args.tree.now) c.args.loading.now c.args.grammars.now c.args.place c.args.repository.now c.in-Ok.gathering.definitions.items c.in-Ok.gathering.whole.items c.in-Ok.ensures.definitions c.in-Ok.ensures.whole none).0

pub returns-in-Ok-gather-clause-ok : goal.returns-in-Ok-gather-clause-ok
returns-in-Ok-gather-clause-ok g c =
    let there : slice_get c.args.grammars.now c.args.place ≡ Some c.in-Some.grammar.now = get_there c.args.grammars.now c.args.place c.in-Some.grammar.now c.in-Some.ensures.lookup.3.0 c.in-Some.ensures.lookup.1 in
    let given = c.in-Ok-gather.ensures.ok in
    (one_asked (g.T.Tree.told c.args.tree.now) c.args.loading.now c.args.grammars.now c.args.place c.args.repository.now c.in-Some.grammar.now given.0 c.in-Ok.gathering.definitions.items c.gather.new.self.definitions.items c.in-Ok.gathering.whole.items c.gather.new.self.whole.items
    c.gather.new.repository there c.in-Ok.ensures.definitions c.in-Ok.ensures.whole given.1 given.2 given.3).0

pub returns-in-Err-clause-err : goal.returns-in-Err-clause-err
returns-in-Err-clause-err g c =
    let there : slice_get c.args.grammars.now c.args.place ≡ Some c.in-Some.grammar.now = get_there c.args.grammars.now c.args.place c.in-Some.grammar.now c.in-Some.ensures.lookup.3.0 c.in-Some.ensures.lookup.1 in
    at_asked {g = c.in-Some.grammar.now} there c.in-Err.ensures.err
