use Rattle.std.proofs.Common.{◌≡◌, ◌+◌, ◌-◌, ◌<◌, ◌∙◌, length, arith, sym}
use Rattle.syntect_style.proofs.DeepestLaws.{deepest_hit, deepest_miss}
use Rattle.syntect_style.proofs.contest.deepest.Goals as goal

pub returns-then-is_prefix_of-clause-place : goal.returns-then-is_prefix_of-clause-place
returns-then-is_prefix_of-clause-place c =
    let here : c.loop-at.at - 1 < length c.args.stack.now = omega arith in
    let back : (c.loop-at.at - 1) + 1 ≡ c.loop-at.at = omega arith in
    (rw back at (deepest_hit c.args.scope c.args.stack.now (c.loop-at.at - 1) c.index-stack-at.result _ here c.index-stack-at.is (sym c.is_prefix_of.ensures ∙ c.if-is_prefix_of.true))) ∙ sym c.loop-at.invariant.none_above

pub loop-at-preserved : goal.loop-at-preserved
loop-at-preserved c =
    let here : c.loop-at.at - 1 < length c.args.stack.now = omega arith in
    let back : (c.loop-at.at - 1) + 1 ≡ c.loop-at.at = omega arith in
    record {
      within = omega arith;
      none_above = c.loop-at.invariant.none_above ∙ (rw back at (deepest_miss c.args.scope c.args.stack.now (c.loop-at.at - 1) c.index-stack-at.result _ here c.index-stack-at.is (sym c.is_prefix_of.ensures ∙ c.if-is_prefix_of.false)));
    }
