use Rattle.std.proofs.Common.{ap, sym, ◌∙◌}
use Rattle.ucd_case.specs.CaseFolding.{fold_pairs}
use Rattle.ucd_case.proofs.FoldPairsLemmas.{IsFoldPairs-fold_pairs}
use Rattle.syntect_pattern.specs.Sets.{is_alike, is_within}
use Rattle.syntect_pattern_table.proofs.AlikeLaws.{alike_within, alike_one, alike_outside}
use Rattle.syntect_pattern_table.proofs.sets.is_alike.Goals as goal

pub returns-then-is_within : goal.returns-then-is_within
returns-then-is_within c = sym (alike_within c.args.low c.args.high c.args.c (sym c.is_within.ensures ∙ c.if-is_within.true))

pub returns : goal.returns
returns c =
    c.has_pair.ensures
    ∙ c.pairs_of.ensures (λ p. is_within c.args.low c.args.high p.1)
    ∙ alike_outside c.args.low c.args.high c.args.c (sym c.is_within.ensures ∙ c.if-is_within.false) fold_pairs IsFoldPairs-fold_pairs

pub returns-then-low-high : goal.returns-then-low-high
returns-then-low-high c = c.same_fold.ensures ∙ alike_one c.args.low c.args.c ∙ ap (λ h. is_alike c.args.low h c.args.c) c.if-low-high.true
