use Rattle.std.proofs.Common.{◌≡◌, ◌∙◌, ap, map, subst, List, ℕ}
use Rattle.std.specs.List.{flat_map}
use Rattle.syntect_scope.specs.Repository.{IsRefusalOrMemory, first_refusal}
use Rattle.syntect_scope.specs.SelectorText.{selector_in, selector_words, union_parts}
use Rattle.syntect_scope.proofs.ReadingLaws.{selector_stays, more_added, more_given, more_refused, now_refused, kept_on}
use Rattle.syntect_scope.proofs.selector.ScopeSelectors.from_text.Goals as goal

pub returns-in-Err-clause-refused : goal.returns-in-Err-clause-refused
returns-in-Err-clause-refused c =
    let read : map (λ x. x.now) c.deref-part-items.result.now ≡ union_parts c.args.s.now = ap (map (λ x. x.now)) c.deref-part-items.ensures.value ∙ c.in_ok-parts.ensures in
    subst (λ (ts : List (List ℕ)). IsRefusalOrMemory (first_refusal c.args.repository.now (flat_map selector_words ts)) c.in-Err.e) read
    (now_refused selector_words selector_in selector_stays _ c.loop-part.repository c.deref-part-items.result.now c.loop-part.part-index c.in-Err.e c.loop-part-test.true c.in-Err.ensures.refused c.loop-part.invariant.refused)

pub returns-in-Err-clause-kept : goal.returns-in-Err-clause-kept
returns-in-Err-clause-kept c = kept_on c.args.repository.now c.loop-part.repository c.from_text.new.repository c.loop-part.invariant.grown c.from_text.ensures.kept

pub returns-in_err-push-in-Ok-clause-kept : goal.returns-in_err-push-in-Ok-clause-kept
returns-in_err-push-in-Ok-clause-kept c = kept_on c.args.repository.now c.loop-part.repository c.from_text.new.repository c.loop-part.invariant.grown c.from_text.ensures.kept

pub loop-part-preserved : goal.loop-part-preserved
loop-part-preserved c = record {
  added = more_added selector_words selector_in selector_stays _ c.loop-part.repository c.deref-part-items.result.now c.loop-part.part-index c.loop-part-test.true c.in-Ok.ensures.atoms c.loop-part.invariant.added;
  given = rw c.in_ok-push-in-Ok.ensures.items (more_given selector_words selector_in selector_stays _ c.loop-part.repository c.loop-part.selectors.items c.deref-part-items.result.now c.loop-part.part-index c.loop-part-test.true c.in-Ok.ensures.atoms c.in-Ok.ensures.selector c.loop-part.invariant.added c.loop-part.invariant.given);
  grown = kept_on c.args.repository.now c.loop-part.repository c.from_text.new.repository c.loop-part.invariant.grown c.from_text.ensures.kept;
  refused = more_refused selector_words selector_in selector_stays _ c.loop-part.repository c.deref-part-items.result.now c.loop-part.part-index c.loop-part-test.true c.in-Ok.ensures.atoms c.in-Ok.ensures.accepted c.loop-part.invariant.refused;
  whole = c.in-Ok.ensures.whole;
}
