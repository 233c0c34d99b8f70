use Rattle.std.proofs.Common.{rules, ap, ◌∙◌}
use Rattle.std.proofs.lemmas.List.Sorted.{answers_always, IsNonDecreasingBy-from_sort}
use Rattle.std.proofs.lemmas.Result.{on_ok_weaker}
use Rattle.syntect_parsing.specs.Sorting.{in_order}
use Rattle.syntect_parsing.proofs.SortLaws.{sorted_is}
use Rattle.syntect_parsing.proofs.captures.sort_marks.Goals as goal

pub returns : goal.returns
returns c =
    on_ok_weaker c.sort_by_key-2.result
    (λ sorted. sorted_is (λ m. m.place) _ _ (IsNonDecreasingBy-from_sort (λ m. m.place) _ (sorted (λ m. m.place) (answers_always _ _ _ (λ f a r g h. search rules)))) (c.sort_by_key-2.ensures.stable (λ m. m.place) (answers_always _ _ _ (λ f a r g h. search rules)))
    ∙ ap (in_order (λ m. m.place)) (sorted_is (λ m. m.rank) _ _ (IsNonDecreasingBy-from_sort (λ m. m.rank) _ (c.in_ok-sort_by_key.ensures.sorted (λ m. m.rank) (answers_always _ _ _ (λ f a r g h. search rules)))) (c.sort_by_key.ensures.stable (λ m. m.rank) (answers_always _ _ _ (λ f a r g h. search rules)))))
    c.sort_by_key-2.ensures.sorted
