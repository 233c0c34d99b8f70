use Rattle.std.proofs.Common.{arith, ◌∙◌}
use Rattle.syntect_style.proofs.Collect.{collected-more, collected-end, collected-refused}
use Rattle.syntect_style.proofs.pieces.collect_pieces.Goals as goal

pub returns-in-Err-clause-none : goal.returns-in-Err-clause-none
returns-in-Err-clause-none c = collected-refused c.new-items.ensures.begins c.loop-item.invariant c.in-Err.e (rw c.in-Err.is at c.in-Some.ensures.steps)

pub loop-item-preserved : goal.loop-item-preserved
loop-item-preserved c = rw c.in_ok-push-in-Ok.ensures.items (collected-more c.loop-item.invariant c.in-Some.ensures.goes.keeps _ (rw c.in-Ok.is at c.in-Some.ensures.steps))

pub returns-clause-joins : goal.returns-clause-joins
returns-clause-joins c = (collected-end c.new-items.ensures.begins c.requires c.loop-item.invariant c.in_default.ensures.steps).joins

pub returns-clause-styled : goal.returns-clause-styled
returns-clause-styled c = (collected-end c.new-items.ensures.begins c.requires c.loop-item.invariant c.in_default.ensures.steps).styled

pub returns-clause-path : goal.returns-clause-path
returns-clause-path c =
    let k = (collected-end c.new-items.ensures.begins c.requires c.loop-item.invariant c.in_default.ensures.steps).path in
    let n = c.in_default.ensures.steps.0.state ∙ c.loop-item.invariant.carries.state ∙ c.new-items.ensures.same_state in
    grind (arith, k, n)

pub returns-clause-applied : goal.returns-clause-applied
returns-clause-applied c = (collected-end c.new-items.ensures.begins c.requires c.loop-item.invariant c.in_default.ensures.steps).applied
