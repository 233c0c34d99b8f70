use Rattle.std.proofs.Common.{◌≡◌, ◌++◌, length, take, drop, map}
use Rattle.std.specs.List.{flat_map}
use Rattle.syntect_scope.specs.Repository.{with_scopes, first_refusal, IsRepository}
use Rattle.syntect_scope.specs.SelectorText.{stack_in}
use Rattle.syntect_scope.specs.Words.{words}
use Rattle.syntect_scope.proofs.reading.stacks_of.Given as goal

abbrev pub invariant-loop-text : goal.invariant-loop-text
invariant-loop-text l =
    let texts = map (λ x. x.now) l.texts in
    let rest = map (λ x. x.now) (drop l.text-index l.texts) in
    record {
      added : with_scopes l.repository (flat_map words rest) ≡ with_scopes l.fn.repository (flat_map words texts);
      given : l.stacks.items ++ map (stack_in (with_scopes l.fn.repository (flat_map words texts))) rest ≡ map (stack_in (with_scopes l.fn.repository (flat_map words texts))) texts;
      grown : take (length l.fn.repository) l.repository ≡ l.fn.repository;
      refused : first_refusal l.repository (flat_map words rest) ≡ first_refusal l.fn.repository (flat_map words texts);
      whole : IsRepository l.repository;
    }
