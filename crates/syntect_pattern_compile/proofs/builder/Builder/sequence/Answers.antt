use Rattle.syntect_pattern_compile.proofs.JoinLaws.{chains-first, chains-item, chains-more, items-split}
use Rattle.std.proofs.Common.{length}
use Rattle.syntect_pattern_compile.proofs.builder.Builder.sequence.Goals as goal

pub push_item-requires : goal.push_item-requires
push_item-requires c =
    (items-split (length c.args.self.now.nodes) c.args.items.now c.pop.new.self c.in-Some.last c.in-Some.ensures.items c.requires).1

pub loop-item-init : goal.loop-item-init
loop-item-init c =
    chains-first c.args.self.now.nodes c.args.items.now c.push_item.new.self.nodes c.pop.new.self c.in-Some.last c.in_ok-push_item.field-0
    c.in-Some.ensures.items c.requires c.in_ok-push_item.ensures.grows c.in_ok-push_item.ensures.holds

pub before-requires-clause-item : goal.before-requires-clause-item
before-requires-clause-item c =
    chains-item c.args.self.now.nodes c.args.items.now c.loop-item.self.nodes c.loop-item.items c.pop-in-loop-item.new.self c.in-Some-pop.item c.loop-item.end
    c.in-Some-pop.ensures.items c.loop-item.invariant

pub loop-item-preserved : goal.loop-item-preserved
loop-item-preserved c =
    chains-more c.args.self.now.nodes c.args.items.now c.loop-item.self.nodes c.before-in-Some-pop.new.self.nodes c.loop-item.items c.pop-in-loop-item.new.self c.in-Some-pop.item c.loop-item.end c.in_ok-end.end
    c.in-Some-pop.ensures.items c.loop-item.invariant c.in_ok-end.ensures.grows c.in_ok-end.ensures.holds
