use Rattle.std.proofs.Common.{◌∙◌, ap, map, take}
use Rattle.std.proofs.lemmas.List.{get_or_default, take_all}
use Rattle.syntect_grammar_lists.specs.Slims.{widened}
use Rattle.syntect_grammar_lists.proofs.SlimLaws.{slims_pushed, slims_widen}
use Rattle.syntect_grammar_lists.proofs.slims.slims_of.Goals as goal

pub loop-flat-preserved : goal.loop-flat-preserved
loop-flat-preserved c =
    slims_pushed c.loop-flat.table.items c.slim_of.new.table.items c.args.flats.now c.loop-flat.flat-index _ c.loop-flat.slims.items c.push.new.self.items c.in_ok-slim.slim
    c.loop-flat-test.true (get_or_default c.args.flats.now c.loop-flat.flat-index _ _ c.loop-flat-test.true) c.in_ok-push.ensures.items
    c.in_ok-slim.ensures.stays c.in_ok-slim.ensures.slim c.loop-flat.invariant

pub returns : goal.returns
returns c =
    ap (λ t. map (widened t) c.loop-flat.slims.items) c.shrink_to_fit.ensures.items
    ∙ slims_widen c.loop-flat.table.items (take c.loop-flat.flat-index c.args.flats.now) c.loop-flat.slims.items c.loop-flat.invariant
    ∙ take_all c.loop-flat.flat-index c.args.flats.now c.loop-flat-test.false
