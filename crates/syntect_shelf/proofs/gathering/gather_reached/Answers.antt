use Rattle.std.proofs.Common.{◌≡◌, ◌∙◌, Some, length, slice_get, ap}
use Rattle.syntect_shelf.proofs.ClosedLaws.{still_unread}
use Rattle.syntect_shelf.proofs.GatherLaws.{get_there, no_room, same_gathered, definition_within, not_whole_within, fewer_left, another, stays_whole, gathered_len}
use Rattle.syntect_shelf.specs.Gathering.{at_reached}
use Rattle.syntect_shelf.specs.Unread.{whole_by}
use Rattle.syntect_shelf.proofs.gathering.gather_reached.Goals as goal

pub returns-in_default-get-clause-err : goal.returns-in_default-get-clause-err
returns-in_default-get-clause-err g c = no_room (g.T.Tree.told c.args.tree.now) c.args.loading.now c.args.grammars.now c.args.place c.args.repository.now c.no_memory.result c.no_memory.ensures

pub gather-requires-clause-definitions : goal.gather-requires-clause-definitions
gather-requires-clause-definitions g c =
    let before = same_gathered (g.T.Tree.told c.args.tree.now) c.args.loading.now c.args.grammars.now c.args.place c.args.repository.now c.reach.gathering.definitions.items c.next_unread.new.self.definitions.items c.reach.gathering.whole.items c.next_unread.new.self.whole.items c.reach.repository
    (ap (λ v. v.items) c.next_unread.ensures.definitions) (ap (λ v. v.items) c.next_unread.ensures.whole) c.reach.invariant.gathers in
    definition_within (g.T.Tree.told c.args.tree.now) c.args.loading.now c.args.grammars.now c.args.place c.args.repository.now c.next_unread.new.self.definitions.items c.next_unread.new.self.whole.items c.reach.repository c.in-Some.next before c.in-Some.ensures.some

pub gather-requires-clause-whole : goal.gather-requires-clause-whole
gather-requires-clause-whole g c = not_whole_within c.next_unread.new.self.whole.items c.in-Some.next (still_unread c.next_unread.new.self.definitions.items c.next_unread.new.self.whole.items c.in-Some.next c.in-Some.ensures.some)

pub reach-smaller : goal.reach-smaller
reach-smaller g c =
    fewer_left c.next_unread.new.self.definitions.items c.reach.gathering.whole.items c.next_unread.new.self.whole.items c.gather.new.self.whole.items c.in-Some.next (ap (λ v. v.items) c.next_unread.ensures.whole) c.in-Some.ensures.some c.in-Ok-gather.ensures.ok.3

pub reach-preserved : goal.reach-preserved
reach-preserved g c =
    let before = same_gathered (g.T.Tree.told c.args.tree.now) c.args.loading.now c.args.grammars.now c.args.place c.args.repository.now c.reach.gathering.definitions.items c.next_unread.new.self.definitions.items c.reach.gathering.whole.items c.next_unread.new.self.whole.items c.reach.repository
    (ap (λ v. v.items) c.next_unread.ensures.definitions) (ap (λ v. v.items) c.next_unread.ensures.whole) c.reach.invariant.gathers in
    let there : slice_get c.args.grammars.now c.in-Some.next ≡ Some c.in-Some-get.grammar.now = get_there c.args.grammars.now c.in-Some.next c.in-Some-get.grammar.now c.in-Some-get.ensures.lookup.3.0 c.in-Some-get.ensures.lookup.1 in
    let given = c.in-Ok-gather.ensures.ok in
    record {
      gathers = another (g.T.Tree.told c.args.tree.now) c.args.loading.now c.args.grammars.now c.args.place c.args.repository.now c.in-Some.next c.in-Some-get.grammar.now given.0 c.next_unread.new.self.definitions.items c.gather.new.self.definitions.items
          c.next_unread.new.self.whole.items c.gather.new.self.whole.items c.reach.repository c.gather.new.repository before c.in-Some.ensures.some there given.1 given.2 given.3;
      asked = ap (λ x. whole_by x c.args.place) given.3 ∙ stays_whole c.next_unread.new.self.whole.items c.in-Some.next c.args.place (ap (λ v. whole_by v.items c.args.place) c.next_unread.ensures.whole ∙ c.reach.invariant.asked);
      kept = λ old b. c.gather.ensures.kept old (c.reach.invariant.kept old b);
    }

pub returns-in-Err-gather-clause-err : goal.returns-in-Err-gather-clause-err
returns-in-Err-gather-clause-err g c =
    let before = same_gathered (g.T.Tree.told c.args.tree.now) c.args.loading.now c.args.grammars.now c.args.place c.args.repository.now c.reach.gathering.definitions.items c.next_unread.new.self.definitions.items c.reach.gathering.whole.items c.next_unread.new.self.whole.items c.reach.repository
    (ap (λ v. v.items) c.next_unread.ensures.definitions) (ap (λ v. v.items) c.next_unread.ensures.whole) c.reach.invariant.gathers in
    let there : slice_get c.args.grammars.now c.in-Some.next ≡ Some c.in-Some-get.grammar.now = get_there c.args.grammars.now c.in-Some.next c.in-Some-get.grammar.now c.in-Some-get.ensures.lookup.3.0 c.in-Some-get.ensures.lookup.1 in
    at_reached {i = c.in-Some.next} {g = c.in-Some-get.grammar.now} before c.in-Some.ensures.some there c.in-Err-gather.ensures.err

pub returns-clause-len : goal.returns-clause-len
returns-clause-len g c =
    ap (λ v. length v.items) c.next_unread.ensures.definitions ∙ (gathered_len (g.T.Tree.told c.args.tree.now) c.args.loading.now c.args.grammars.now c.args.place c.args.repository.now c.reach.invariant.gathers).0
