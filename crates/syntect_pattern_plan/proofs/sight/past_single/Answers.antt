use Rattle.std.proofs.Common.{◌≡◌, length, subst, arith, ℕ}
use Rattle.syntect_pattern_plan.specs.syntect_pattern_table.Table.{node_tree}
use Rattle.syntect_pattern_plan.proofs.SightLaws.{Spreads, spreads-more, spreads-image}
use Rattle.syntect_pattern_plan.proofs.sight.past_single.Goals as goal

pub loop-place-preserved : goal.loop-place-preserved
loop-place-preserved c = λ ts e.
    spreads-more c.args.text.now c.utf8.text (node_tree ts c.args.node.now) c.args.before.now c.loop-place.row.items c.advance.new.row.items c.loop-place.place
    c.requires (c.advance.ensures ts e) (c.loop-place.invariant ts e)

pub returns : goal.returns
returns c = λ ts e.
    let t = node_tree ts c.args.node.now in
    let at : c.loop-place.place ≡ length c.args.before.now = omega arith in
    spreads-image c.args.text.now t c.args.before.now c.loop-place.row.items e
    (subst (λ (i : ℕ). Spreads c.args.text.now t c.args.before.now i c.loop-place.row.items) at (c.loop-place.invariant ts e))
