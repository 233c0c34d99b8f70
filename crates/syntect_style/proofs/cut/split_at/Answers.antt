use Rattle.std.proofs.Common.{◌++◌, sym, ap, ◌∙◌}
use Rattle.syntect_style.specs.Cut.{plain}
use Rattle.syntect_style.proofs.CutLaws.{take_plain, drop_plain}
use Rattle.syntect_style.proofs.PartLaws.{cut_behind, parted}
use Rattle.syntect_style.proofs.cut.split_at.Goals as goal

pub returns-clause-parted : goal.returns-clause-parted
returns-clause-parted g c =
    let v = c.args.v.now in
    let n = c.args.split_i in
    let count = c.whole_pieces-count.result.0 in
    let whole_ones = sym c.whole_pieces-count.ensures.whole ∙ take_plain count v ∙ ap plain (sym c.split_at.ensures.front) in
    let other_ones = sym c.whole_pieces-count.ensures.others ∙ drop_plain count v ∙ ap plain (sym c.split_at.ensures.back) in
    let front = c.in_ok-push_all.ensures ∙ ap (λ l. plain l ++ plain c.split_at.result.0.now) c.new-before.ensures.items in
    parted n (plain v) _ _
    (cut_behind n c.whole_pieces-count.result.1 (plain v) (plain c.split_at.result.1.now) (plain c.push_all.new.out.items) _ _ (whole_ones ∙ sym front) other_ones (sym c.whole_pieces-count.ensures.left) c.in_ok-after.ensures)
