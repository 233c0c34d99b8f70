use Rattle.syntect_pattern_table.specs.Builder.{tree_in}
use Rattle.syntect_pattern_compile.specs.NeedViews.{BothAreNeeded}
use Rattle.syntect_pattern_compile.proofs.needs.needs_of.Goals as goal

pub returns : goal.returns
returns c =
    let tree = tree_in c.args.nodes.now c.args.root in
    let both : BothAreNeeded c.add_needs.new.self tree = c.add_needs.ensures tree (λ here next n. n) (c.new-found.ensures tree) in
    (c.need_of.ensures tree both.0, c.need_of-2.ensures tree both.1)
