use Rattle.std.proofs.Common.{◌≡◌, ◌+◌, List, ℕ, [], ◌∷◌, ◌++◌, length, length-append, ap, ◌∙◌, arith, subst, None, Option, if◌then◌else◌}
use Rattle.std.specs.Option.{option_map}
use Rattle.std.specs.Str.{bytes_eq}
use Rattle.std.proofs.lemmas.Map.Text.{btree_map_updates_text}
use Rattle.syntect_scope.specs.Repository.{IsDistinct, place_in}
use Rattle.syntect_scope.proofs.RepositoryLaws.{distinct_front, numbers_less}
use Rattle.syntect_scope.proofs.repository.ScopeRepository.forget_last.Goals as goal

pub invariant_of-self : goal.invariant_of-self
invariant_of-self c =
    let front : List (List ℕ) = c.pop.new.self.items in
    let split : c.self.inside.atoms.items ≡ front ++ c.in-Some.text ∷ [] = c.in-Some.ensures.items in
    let distinct : IsDistinct (front ++ c.in-Some.text ∷ []) = subst IsDistinct split c.self.invariant.0.distinct in
    let count : length c.self.inside.atoms.items ≡ length front + 1 = ap length split ∙ length-append front (c.in-Some.text ∷ []) in (
      record {
        limit = omega (arith, count, c.self.invariant.0.limit);
        distinct = distinct_front front (c.in-Some.text ∷ []) distinct;
      },
      λ q.
          btree_map_updates_text c.as_str.result.now c.self.inside.numbers c.remove.new.self None c.remove.ensures.updates q
          ∙ ap (λ (o : Option ℕ). if bytes_eq c.as_str.result.now q then None else o) (c.self.invariant.1 q ∙ ap (λ (l : List (List ℕ)). option_map (λ i. i + 1) (place_in l q)) split)
          ∙ ap (λ (t : List ℕ). if bytes_eq t q then None else option_map (λ i. i + 1) (place_in (front ++ c.in-Some.text ∷ []) q)) c.as_str.ensures
          ∙ numbers_less front c.in-Some.text distinct q,
    )
