use Rattle.std.proofs.Common.{◌≡◌, ◌++◌, length, take, drop, map}
use Rattle.std.specs.List.{flat_map}
use Rattle.syntect_scope.specs.Repository.{with_scopes, first_refusal, IsRepository}
use Rattle.syntect_scope.specs.SelectorText.{selector_in, selector_words}
use Rattle.syntect_scope.proofs.selector.ScopeSelectors.from_text.Given as goal

abbrev pub invariant-loop-part : goal.invariant-loop-part
invariant-loop-part l =
    let texts = map (λ x. x.now) l.part-items in
    let rest = map (λ x. x.now) (drop l.part-index l.part-items) in
    record {
      added : with_scopes l.repository (flat_map selector_words rest) ≡ with_scopes l.fn.repository (flat_map selector_words texts);
      given : l.selectors.items ++ map (selector_in (with_scopes l.fn.repository (flat_map selector_words texts))) rest ≡ map (selector_in (with_scopes l.fn.repository (flat_map selector_words texts))) texts;
      grown : take (length l.fn.repository) l.repository ≡ l.fn.repository;
      refused : first_refusal l.repository (flat_map selector_words rest) ≡ first_refusal l.fn.repository (flat_map selector_words texts);
      whole : IsRepository l.repository;
    }
