use Rattle.std.proofs.Common.{◌≡◌, arith, List, ℕ, None, ap, sym, ◌∙◌, take, subst, get_or}
use Rattle.std.proofs.lemmas.Grind.{common_steps}
use Rattle.std.proofs.lemmas.List.{take_more}
use Rattle.syntect_scope.specs.Repository.{place_in, IsDistinct}
use Rattle.syntect_scope.proofs.RepositoryLaws.{new_at, number_last}
use Rattle.syntect_scope.proofs.repository.ScopeRepository.clone.Goals as goal

pub loop-text-preserved : goal.loop-text-preserved
loop-text-preserved c =
    let items : List (List ℕ) = c.deref-text-items.result.now in
    let distinct : IsDistinct items = subst IsDistinct (sym c.deref-text-items.ensures.value) c.self.invariant.0.distinct in
    let text : c.as_str.result.now ≡ get_or items c.loop-text.text-index c.text-item.result = c.as_str.ensures ∙ c.text-item.is in
    let absent : place_in c.loop-text.copy c.as_str.result.now ≡ None =
    ap (λ (r : List (List ℕ)). place_in r c.as_str.result.now) c.loop-text.invariant ∙ ap (λ (t : List ℕ). place_in (take c.loop-text.text-index items) t) text
    ∙ new_at items c.loop-text.text-index c.text-item.result distinct c.loop-text-test.true in
    let last = (number_last c.loop-text.copy c.as_str.result.now (sym absent)).0 in
    let more = take_more items c.loop-text.text-index c.text-item.result c.loop-text-test.true in
    grind (arith, common_steps)
