use Rattle.std.proofs.Common.{ℕ, List, [], ap, subst, sym, ◌∙◌, arith, length, length-append, ◌∷◌, take}
use Rattle.syntect_pattern_plan.specs.Cells.{heights_from, last_cell}
use Rattle.syntect_pattern_plan.specs.Facts.{AreFacts}
use Rattle.syntect_pattern_plan.specs.Order.{AreCapped}
use Rattle.syntect_pattern_plan.specs.declared.cells.Cell.{Cell}
use Rattle.syntect_pattern_plan.specs.declared.facts.Facts.{Facts}
use Rattle.syntect_pattern_plan.proofs.OrderLaws.{heights-more, heights-none}
use Rattle.syntect_pattern_plan.proofs.order.heights_of.Goals as goal

pub loop-number-init : goal.loop-number-init
loop-number-init c = record { count = ap length c.new-heights.ensures.items; right = λ ts f s. heights-none ts c.new-heights.result.items c.new-heights.ensures.items }

pub loop-number-preserved : goal.loop-number-preserved
loop-number-preserved c = record {
  count = ap length c.in_ok-push.ensures.items ∙ omega (arith, length-append c.loop-number.heights.items (c.cell_height-height.result ∷ []), c.loop-number.invariant.count);
  right = λ ts f s.
      let i : ℕ = c.loop-number.number in
      let cells : List Cell = c.args.plan.now.cells in
      let hs : List ℕ = heights_from ts [] (take i cells) in
      let right : AreCapped c.loop-number.heights.items hs = c.loop-number.invariant.right ts f s in
      let facts : AreFacts c.as_slice-in-loop-number.result.now ts = subst (λ (fs : List Facts). AreFacts fs ts) (sym c.as_slice-in-loop-number.ensures) f in
      let before : AreCapped c.as_slice-in-loop-number-2.result.now hs = subst (λ (ns : List ℕ). AreCapped ns hs) (sym c.as_slice-in-loop-number-2.ensures.value) right in
      heights-more ts cells c.loop-number.heights.items c.push.new.self.items c.cell_height-height.result i c.cell_at-cell.result last_cell
      c.in_ok-push.ensures.items c.loop-number.invariant.count (omega (arith, c.len-number-end.ensures))
      (c.cell_at-cell.ensures ∙ ap (λ (l : List Cell). Rattle.syntect_pattern_plan.specs.Cells.cell_at l i) c.as_slice.ensures) right
      (c.cell_height-height.ensures ts hs facts s before);
}
