use Rattle.std.proofs.Common.{◌≡◌, sym, ◌∙◌, ap, arith, Some, None, add-one, suc}
use Rattle.syntect_pattern_linear.specs.syntect_pattern.Matches.{found_at}
use Rattle.syntect_pattern_linear.specs.Finds.{groups_of}
use Rattle.syntect_pattern_linear.proofs.FindLaws.{found-here, found-step, found-past, paid-none, paid-match}
use Rattle.syntect_pattern_linear.proofs.syntect_count_proofs.MeterLaws.{advances-on}
use Rattle.syntect_pattern_linear.proofs.find.Guide.find_up_to.Goals as goal

pub returns-then-branch-clause-finds : goal.returns-then-branch-clause-finds
returns-then-branch-clause-finds c = λ tree h.
    let s = c.args.text.now in
    let groups = c.begins_here.new.groups.items in
    let here : found_at s tree c.starts.place ≡ Some groups = sym (c.in_ok-begins_here.ensures.finds tree h) ∙ ap (λ b. groups_of b groups) c.if-branch.true in
    sym (c.starts.invariant.same tree h) ∙ found-here s tree c.starts.place groups c.if-place-text.true here

pub starts-preserved : goal.starts-preserved
starts-preserved c = record {
  within = omega (arith, c.starts-test.true);
  paid = omega (arith, paid-none _ c.starts.meter.made c.begins_here.new.meter.made _ c.if-branch.false c.in_ok-begins_here.ensures.steps, c.starts.invariant.paid);
  advances = advances-on c.args.meter.now c.starts.meter c.begins_here.new.meter c.starts.invariant.advances c.begins_here.ensures.advances;
  later = omega (arith, c.starts.invariant.later);
  same = λ tree h.
      let s = c.args.text.now in
      let groups = c.begins_here.new.groups.items in
      let none : found_at s tree c.starts.place ≡ None = sym (c.in_ok-begins_here.ensures.finds tree h) ∙ ap (λ b. groups_of b groups) c.if-branch.false in
      rw add-one (sym (found-step s tree c.starts.place c.if-place-text.true none) ∙ c.starts.invariant.same tree h);
}

pub returns-then-branch-clause-steps : goal.returns-then-branch-clause-steps
returns-then-branch-clause-steps c =
    omega (arith, c.starts.invariant.paid, paid-match _ c.starts.meter.made c.begins_here.new.meter.made _ c.if-branch.true c.in_ok-begins_here.ensures.steps)

pub returns-else-place-text-clause-finds : goal.returns-else-place-text-clause-finds
returns-else-place-text-clause-finds c = λ tree h.
    let s = c.args.text.now in
    let place = c.starts.place in
    sym (c.starts.invariant.same tree h)
    ∙ found-past s tree place (omega (arith, c.if-place-text.false))
    ∙ sym (found-past s tree (suc c.args.last) (omega (arith, c.if-place-text.false, c.starts-test.true)))
