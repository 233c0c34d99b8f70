use Rattle.std.proofs.Common.{◌≡◌, ◌++◌, length, take, drop, map}
use Rattle.syntect_scope.specs.Repository.{with_scopes, scope_in, first_refusal, IsRepository}
use Rattle.syntect_scope.proofs.stack.ScopeStack.from_text.Given as goal

abbrev pub invariant-loop-word : goal.invariant-loop-word
invariant-loop-word l =
    let texts = map (λ x. x.now) l.word-items in
    let rest = map (λ x. x.now) (drop l.word-index l.word-items) in
    record {
      added : with_scopes l.repository rest ≡ with_scopes l.fn.repository texts;
      given : l.scopes.items ++ map (scope_in (with_scopes l.fn.repository texts)) rest ≡ map (scope_in (with_scopes l.fn.repository texts)) texts;
      grown : take (length l.fn.repository) l.repository ≡ l.fn.repository;
      refused : first_refusal l.repository rest ≡ first_refusal l.fn.repository texts;
      whole : IsRepository l.repository;
    }
