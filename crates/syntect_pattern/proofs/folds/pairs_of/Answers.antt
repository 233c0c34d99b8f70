use Rattle.std.proofs.Common.{◌==◌, ◌&&◌, ◌∙◌, ap}
use Rattle.std.specs.List.{list_any}
use Rattle.syntect_pattern.proofs.FoldLaws.{any_of_one, fold_pairs_fall, ordered_ends}
use Rattle.syntect_pattern.proofs.folds.pairs_of.Goals as goal

pub first_from-from-requires : goal.first_from-from-requires
first_from-from-requires c = rw c.fold_pairs-pairs.ensures.table fold_pairs_fall

pub first_from-to-requires : goal.first_from-to-requires
first_from-to-requires c = rw c.fold_pairs-pairs.ensures.table fold_pairs_fall

pub returns : goal.returns
returns c = λ f.
    let ordered =
    ordered_ends c.fold_pairs-pairs.result.now c.args.c c.first_from-from.result c.first_from-to.result c.first_from-from.ensures.few c.first_from-from.ensures.below c.first_from-to.ensures.above in
    rw (c.split_at-2.ensures.back, c.split_at.ensures.front)
    (any_of_one c.fold_pairs-pairs.result.now c.args.c c.first_from-from.result c.first_from-to.result f ordered c.first_from-from.ensures.below c.first_from-to.ensures.above
    ∙ ap (list_any (λ p. (p.0 == c.args.c) && f p)) c.fold_pairs-pairs.ensures.table)
