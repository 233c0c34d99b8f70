use Rattle.std.proofs.Common.{length}
use Rattle.syntect_pattern_compile.proofs.JoinLaws.{links-first, links-more, below-split}
use Rattle.syntect_pattern_table.proofs.BuilderLaws.{both-inside}
use Rattle.syntect_pattern_compile.proofs.builder.Builder.branches.Goals as goal

pub loop-part-init : goal.loop-part-init
loop-part-init c = links-first c.args.self.now.nodes c.args.parts.now c.pop.new.self c.in-Some.last c.in-Some.ensures.items c.requires

pub push-requires-in-Some-pop : goal.push-requires-in-Some-pop
push-requires-in-Some-pop c =
    let l = c.loop-part.invariant in
    both-inside _ _ _ (l.grows.longer c.in-Some-pop.part (below-split (length c.args.self.now.nodes) c.loop-part.parts c.pop-in-loop-part.new.self c.in-Some-pop.part c.in-Some-pop.ensures.items l.below).1) l.inside

pub loop-part-preserved : goal.loop-part-preserved
loop-part-preserved c =
    links-more c.args.self.now.nodes c.args.parts.now c.loop-part.self.nodes c.push-in-Some-pop.new.self.nodes c.loop-part.parts c.pop-in-loop-part.new.self c.in-Some-pop.part c.loop-part.rest c.in_ok-rest.rest
    c.in-Some-pop.ensures.items c.loop-part.invariant c.in_ok-rest.ensures.grows c.in_ok-rest.ensures.holds
