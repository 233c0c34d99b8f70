use Rattle.std.proofs.Common.{◌+◌, ℕ, suc, Bool, sym, ap, ◌∙◌, arith, get_or}
use Rattle.std.specs.Prelude.{if◌then◌else◌, nat_lt, ◌&&◌}
use Rattle.syntect_pattern_plan.specs.syntect_pattern.Trees.{Tree, nothing}
use Rattle.syntect_pattern_plan.specs.Cells.{item_height, tree_size}
use Rattle.syntect_pattern_plan.specs.Order.{in_64_bits}
use Rattle.syntect_pattern_plan.specs.declared.cells.CellPart.{CellPart}
use Rattle.syntect_pattern_plan.specs.declared.facts.Facts.{Facts}
use Rattle.syntect_pattern_plan.proofs.order.cell_height.Goals as goal

pub returns-in-End : goal.returns-in-End
unfolding in_64_bits
returns-in-End c = λ ts hs f s h. sym (ap (λ (i : CellPart). in_64_bits (item_height ts (get_or hs c.args.cell.empty 0) i)) c.in-End.is)

pub returns-in-Node : goal.returns-in-Node
returns-in-Node c = λ ts hs f s h.
    let rest : ℕ = get_or hs c.args.cell.empty 0 in
    let t : Tree = get_or ts c.in-Node.node nothing in
    c.height_from.ensures (tree_size t) rest (c.size_at.ensures ∙ s c.in-Node.node) (c.number_at-rest.ensures ∙ h c.args.cell.empty)
    ∙ ap (λ (b : Bool). in_64_bits (tree_size t + (if b then 0 else rest))) (ap (λ (x : Facts). x.reads) (c.facts_at-reads.ensures ∙ f c.in-Node.node))
    ∙ sym (ap (λ (i : CellPart). in_64_bits (item_height ts rest i)) c.in-Node.is)

pub returns-in-Turns : goal.returns-in-Turns
returns-in-Turns c = λ ts hs f s h.
    let rest : ℕ = get_or hs c.args.cell.empty 0 in
    let a : Tree = get_or ts c.in-Turns.body nothing in
    c.height_from-in-Turns.ensures (suc (tree_size a)) rest
    (c.larger.ensures (tree_size a) (c.size_at-in-Turns.ensures ∙ s c.in-Turns.body) ∙ ap in_64_bits (omega arith))
    (c.number_at-rest.ensures ∙ h c.args.cell.empty)
    ∙ ap (λ (b : Bool). in_64_bits (suc (tree_size a) + (if b then 0 else rest)))
    (c.loop_reads-reads.ensures ∙ ap (λ (x : Facts). nat_lt 0 c.in-Turns.least && x.reads) (c.facts_at.ensures ∙ f c.in-Turns.body))
    ∙ sym (ap (λ (i : CellPart). in_64_bits (item_height ts rest i)) c.in-Turns.is)
