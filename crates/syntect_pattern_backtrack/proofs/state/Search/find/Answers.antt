use Rattle.std.proofs.Common.{◌≡◌, Bool, true, false, refl, sym, ◌∙◌, arith, Some, None, add-one, suc, length}
use Rattle.syntect_pattern_backtrack.specs.syntect_pattern.Matches.{found_at}
use Rattle.syntect_pattern_backtrack.specs.Machine.{groups_of, FindsAt}
use Rattle.syntect_pattern_backtrack.proofs.StepsLaws.{answer_holds}
use Rattle.syntect_pattern_backtrack.proofs.FindLaws.{found-here, found-step, found-past, found-jump}
use Rattle.syntect_pattern_backtrack.proofs.state.Search.find.Goals as goal

pub returns-in-Some-true-clause-finds : goal.returns-in-Some-true-clause-finds
returns-in-Some-true-clause-finds c = λ tree is.
    let s = c.args.text.now in
    let next = c.next_start-place.result in
    let groups = c.begins_there.new.self.groups.items in
    let here : found_at s tree next ≡ Some groups = sym (answer_holds c.in_ok-begins_there.field-0 c.in-Some-true.field-0 true (λ (b : Bool). FindsAt s c.args.program.now next (groups_of b c.begins_there.new.self)) c.in-Some-true.is c.in-Some-true.field-0-test c.in_ok-begins_there.ensures.finds tree is) in
    sym (found-here s tree next groups c.next_start-place.ensures.inside here)
    ∙ sym (found-jump s tree c.loop-place.place next c.next_start-place.ensures.later (omega (arith, c.next_start-place.ensures.inside)) (λ k p q. c.next_start-place.ensures.skipped k p q tree is))
    ∙ c.loop-place.invariant.same tree is

pub loop-place-preserved : goal.loop-place-preserved
loop-place-preserved c = record {
  paid = λ l. c.in_ok-begins_there.ensures.steps l ∙ c.loop-place.invariant.paid l;
  rises = omega (arith, c.in_ok-begins_there.ensures.rises, c.loop-place.invariant.rises);
  same = λ tree is.
      let s = c.args.text.now in
      let next = c.next_start-place.result in
      let nothing_here : found_at s tree next ≡ None = sym (answer_holds c.in_ok-begins_there.field-0 c.in-Some-false.field-0 false (λ (b : Bool). FindsAt s c.args.program.now next (groups_of b c.begins_there.new.self)) c.in-Some-false.is c.in-Some-false.field-0-test c.in_ok-begins_there.ensures.finds tree is) in
      rw add-one (sym (found-step s tree next c.next_start-place.ensures.inside nothing_here)
      ∙ sym (found-jump s tree c.loop-place.place next c.next_start-place.ensures.later (omega (arith, c.next_start-place.ensures.inside)) (λ k p q. c.next_start-place.ensures.skipped k p q tree is))
      ∙ c.loop-place.invariant.same tree is);
}

pub returns-clause-finds : goal.returns-clause-finds
returns-clause-finds c = λ tree is. sym (found-past c.args.text.now tree c.loop-place.place (omega arith)) ∙ c.loop-place.invariant.same tree is

pub returns-then-not-may_begin_from-2-clause-finds : goal.returns-then-not-may_begin_from-2-clause-finds
returns-then-not-may_begin_from-2-clause-finds c = λ tree is.
    let s = c.args.text.now in
    let next = c.next_start-place.result in
    let inside = c.next_start-place.ensures.inside in
    sym (found-past s tree (suc (length s)) (omega arith))
    ∙ sym (found-jump s tree next (suc (length s)) (omega (arith, inside)) (omega arith) (λ k p q. c.may_begin_from-in-loop-place.ensures c.if-not-may_begin_from-2.true k p tree is))
    ∙ sym (found-jump s tree c.loop-place.place next c.next_start-place.ensures.later (omega (arith, inside)) (λ k p q. c.next_start-place.ensures.skipped k p q tree is))
    ∙ c.loop-place.invariant.same tree is

pub returns-then-not-may_begin_from-clause-finds : goal.returns-then-not-may_begin_from-clause-finds
returns-then-not-may_begin_from-clause-finds c = λ tree is.
    let s = c.args.text.now in
    sym (found-past s tree (suc (length s)) (omega arith))
    ∙ sym (found-jump s tree c.args.begin (suc (length s)) (omega arith) (omega arith) (λ k p q. c.may_begin_from.ensures c.if-not-may_begin_from.true k p tree is))

pub returns-then-begin-text-clause-finds : goal.returns-then-begin-text-clause-finds
returns-then-begin-text-clause-finds c = λ tree is. sym (found-past c.args.text.now tree c.args.begin (omega arith))

pub loop-place-init : goal.loop-place-init
loop-place-init c = record { same = λ tree is. refl; paid = λ l. refl; rises = omega arith }
