use Rattle.std.proofs.Common.{sym, ◌∙◌}
use Rattle.syntect_scope.proofs.RepositoryLaws.{kept_more, scope_more, scopes_step, refusal_more, no_error}
use Rattle.syntect_scope.proofs.stack.ScopeStack.from_text.Goals as goal

pub returns-in_err-push-in-Ok-clause-kept : goal.returns-in_err-push-in-Ok-clause-kept
returns-in_err-push-in-Ok-clause-kept c =
    kept_more _ c.args.repository.now c.loop-word.repository c.deref-word-items.result.now c.loop-word.word-index c.in-Ok.ensures.atoms c.loop-word.invariant.grown

pub loop-word-preserved : goal.loop-word-preserved
loop-word-preserved c = record {
  added = rw c.in-Ok.ensures.atoms (sym (scopes_step c.loop-word.repository c.deref-word-items.result.now c.loop-word.word-index _ c.loop-word-test.true) ∙ c.loop-word.invariant.added);
  given = rw c.in_ok-push-in-Ok.ensures.items (scope_more _ c.args.repository.now c.loop-word.repository c.loop-word.scopes.items c.deref-word-items.result.now c.loop-word.word-index c.loop-word-test.true c.in-Ok.ensures.atoms c.in-Ok.ensures.scope c.loop-word.invariant.added c.loop-word.invariant.given);
  grown = kept_more _ c.args.repository.now c.loop-word.repository c.deref-word-items.result.now c.loop-word.word-index c.in-Ok.ensures.atoms c.loop-word.invariant.grown;
  refused = refusal_more _ c.loop-word.repository c.args.repository.now c.deref-word-items.result.now c.loop-word.word-index c.loop-word-test.true c.in-Ok.ensures.atoms c.in-Ok.ensures.whole (λ h. no_error (c.in-Ok.ensures.too_long.1 h)) c.loop-word.invariant.refused;
  whole = c.in-Ok.ensures.whole;
}
