use Rattle.std.proofs.Common.{List, ℕ, ap, sym, ◌∙◌, arith, Some, None, Option, if◌then◌else◌}
use Rattle.std.specs.Str.{bytes_eq}
use Rattle.std.proofs.lemmas.Map.Text.{btree_map_updates_text}
use Rattle.syntect_scope.specs.Repository.{with_atom, number_in}
use Rattle.syntect_scope.proofs.RepositoryLaws.{absent_new, number_last, numbers_more, numbers_back, whole_more}
use Rattle.syntect_scope.proofs.repository.ScopeRepository.number.Goals as goal

pub invariant_of-self-in-Err : goal.invariant_of-self-in-Err
invariant_of-self-in-Err c =
    let before : List (List ℕ) = c.self.inside.atoms.items in
    let part : List ℕ = c.args.part.now in
    let number : ℕ = c.in_ok-number.number in
    let new = absent_new before part c.len-held.result number _ (c.len-held.ensures ∙ c.self.inside.atoms.ok.0) (c.self.invariant.1 part) c.in_ok-number.ensures.number c.if-number-next.false in
    rw c.in-Err.ensures.err (
      c.self.invariant.0,
      λ q.
          btree_map_updates_text part c.number_or.new.numbers c.remove.new.self None c.remove.ensures.updates q
          ∙ ap (λ (o : Option ℕ). if bytes_eq part q then None else o) (c.in_ok-number.ensures.ok q ∙ ap (λ (o : Option ℕ). if bytes_eq part q then Some number else o) (c.self.invariant.1 q))
          ∙ numbers_back before part number new.1 q,
    )

pub invariant_of-self-in-Ok : goal.invariant_of-self-in-Ok
invariant_of-self-in-Ok c =
    let before : List (List ℕ) = c.self.inside.atoms.items in
    let part : List ℕ = c.args.part.now in
    let number : ℕ = c.in_ok-number.number in
    let count = c.len-held.ensures ∙ c.self.inside.atoms.ok.0 in
    let new = absent_new before part c.len-held.result number _ count (c.self.invariant.1 part) c.in_ok-number.ensures.number c.if-number-next.false in
    rw c.in-Ok.ensures.ok (
      whole_more before part c.self.invariant.0 new.1 (omega (arith, c.if-held-ge-MAX_ATOMS.false, count)),
      λ q.
          c.in_ok-number.ensures.ok q ∙ ap (λ (o : Option ℕ). if bytes_eq part q then Some number else o) (c.self.invariant.1 q) ∙ numbers_more before part number new.0 new.1 q,
    )

pub returns-in-Ok-clause-ok : goal.returns-in-Ok-clause-ok
returns-in-Ok-clause-ok c =
    let before : List (List ℕ) = c.self.inside.atoms.items in
    let part : List ℕ = c.args.part.now in
    let new = absent_new before part c.len-held.result c.in_ok-number.number _ (c.len-held.ensures ∙ c.self.inside.atoms.ok.0) (c.self.invariant.1 part) c.in_ok-number.ensures.number c.if-number-next.false in
    let last = number_last before part (sym new.1) in (
      c.in-Ok.ensures.ok ∙ sym last.0 ∙ ap (λ (r : List (List ℕ)). with_atom r part) c.self.view_is,
      new.0 ∙ last.1 ∙ ap (λ (r : List (List ℕ)). number_in r part) (sym c.in-Ok.ensures.ok),
    )

pub returns-in-Ok-clause-whole : goal.returns-in-Ok-clause-whole
returns-in-Ok-clause-whole c =
    let before : List (List ℕ) = c.self.inside.atoms.items in
    let part : List ℕ = c.args.part.now in
    let count = c.len-held.ensures ∙ c.self.inside.atoms.ok.0 in
    let new = absent_new before part c.len-held.result c.in_ok-number.number _ count (c.self.invariant.1 part) c.in_ok-number.ensures.number c.if-number-next.false in
    rw c.in-Ok.ensures.ok (whole_more before part c.self.invariant.0 new.1 (omega (arith, c.if-held-ge-MAX_ATOMS.false, count)))
