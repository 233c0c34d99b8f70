use Rattle.std.proofs.Common.{◌≡◌, ◌==◌, rules, of_calls, nat_cmp, position, ap, ◌∙◌}
use Rattle.std.specs.Cmp.Lexicographic.{pointwise, slice_cmp}
use Rattle.std.proofs.lemmas.Fn.{always_returns_same}
use Rattle.syntect_grammar_contexts.proofs.ContextNamesLaws.{halved}
use Rattle.syntect_grammar_contexts.proofs.context_names.ContextNames.number_of.Goals as goal

pub returns : goal.returns
returns c =
    let same : c.as_slice-names.result.now ≡ c.args.self.now = search rules in
    c.ok.ensures.value
    ∙ halved c.args.name.now c.as_slice-names.result.now c.binary_search_by.result (search rules) c.binary_search_by.ensures.bound
    (c.binary_search_by.ensures.position (λ y. slice_cmp nat_cmp y c.args.name.now) (always_returns_same _ _ _ (λ a r f k. search (rules, of_calls))))
    ∙ ap (position (pointwise ◌==◌ c.args.name.now)) same
