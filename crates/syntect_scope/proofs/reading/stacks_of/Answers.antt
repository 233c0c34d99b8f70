use Rattle.syntect_scope.specs.SelectorText.{stack_in}
use Rattle.syntect_scope.specs.Words.{words}
use Rattle.syntect_scope.proofs.ReadingLaws.{stack_stays, more_added, more_given, more_refused, now_refused, kept_on}
use Rattle.syntect_scope.proofs.reading.stacks_of.Goals as goal

pub returns-in-Err-clause-refused : goal.returns-in-Err-clause-refused
returns-in-Err-clause-refused c = now_refused words stack_in stack_stays _ c.loop-text.repository c.args.texts.now c.loop-text.text-index c.in-Err.e c.loop-text-test.true c.in-Err.ensures.refused c.loop-text.invariant.refused

pub returns-in-Err-clause-kept : goal.returns-in-Err-clause-kept
returns-in-Err-clause-kept c = kept_on c.args.repository.now c.loop-text.repository c.from_text.new.repository c.loop-text.invariant.grown c.from_text.ensures.kept

pub returns-in_err-push-in-Ok-clause-kept : goal.returns-in_err-push-in-Ok-clause-kept
returns-in_err-push-in-Ok-clause-kept c = kept_on c.args.repository.now c.loop-text.repository c.from_text.new.repository c.loop-text.invariant.grown c.from_text.ensures.kept

pub loop-text-preserved : goal.loop-text-preserved
loop-text-preserved c = record {
  added = more_added words stack_in stack_stays _ c.loop-text.repository c.args.texts.now c.loop-text.text-index c.loop-text-test.true c.in-Ok.ensures.atoms c.loop-text.invariant.added;
  given = rw c.in_ok-push-in-Ok.ensures.items (more_given words stack_in stack_stays _ c.loop-text.repository c.loop-text.stacks.items c.args.texts.now c.loop-text.text-index c.loop-text-test.true c.in-Ok.ensures.atoms c.in-Ok.ensures.scopes c.loop-text.invariant.added c.loop-text.invariant.given);
  grown = kept_on c.args.repository.now c.loop-text.repository c.from_text.new.repository c.loop-text.invariant.grown c.from_text.ensures.kept;
  refused = more_refused words stack_in stack_stays _ c.loop-text.repository c.args.texts.now c.loop-text.text-index c.loop-text-test.true c.in-Ok.ensures.atoms c.in-Ok.ensures.accepted c.loop-text.invariant.refused;
  whole = c.in-Ok.ensures.whole;
}
