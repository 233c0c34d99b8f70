use Rattle.std.proofs.Common.{◌∙◌, ◌==◌, ◌&&◌, ap, ℕ}
use Rattle.syntect_pattern.specs.Sets.{is_alike, is_within}
use Rattle.std.specs.Char.{to_ascii_lowercase}
use Rattle.std.specs.List.{list_any}
use Rattle.ucd_case.specs.CaseFolding.{fold_pairs}
use Rattle.ucd_case.proofs.FoldPairsLemmas.{IsFoldPairs-fold_pairs}
use Rattle.ucd_case.proofs.CaseFoldingLemmas.{simple_fold-ascii}
use Rattle.syntect_pattern_table.proofs.AlikeLaws.{or_same, folds_alike, alike_pairs, near_enough}
use Rattle.syntect_pattern_table.proofs.ascii.alike_bits.Goals as goal

pub returns-then-low-high : goal.returns-then-low-high
returns-then-low-high c x l =
    c.folded_bits.ensures x l ∙ folds_alike c.args.low x c.simple_fold.result (to_ascii_lowercase x) c.simple_fold.ensures (simple_fold-ascii x l)
    ∙ ap (λ (h : ℕ). is_alike c.args.low h x) c.if-low-high.true

pub returns : goal.returns
returns c x l =
    let low : ℕ = c.args.low in
    let high : ℕ = c.args.high in
    or_same _ _ _ _ _ (c.either.ensures x) (c.range_bits.ensures x l)
    (c.paired_bits-paired.ensures x l ∙ ap (list_any (λ (p : ℕ × ℕ). (p.0 == x) && is_within low high p.1)) c.near_pairs.ensures ∙ near_enough low high x l)
    ∙ alike_pairs low high x fold_pairs IsFoldPairs-fold_pairs
