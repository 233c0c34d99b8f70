use Rattle.std.proofs.Common.{◌-◌, ◌∙◌, ap, sym}
use Rattle.syntect_pattern_backtrack.specs.syntect_pattern_table.Program.{trees_of}
use Rattle.syntect_pattern_backtrack.specs.syntect_pattern_table.Table.{node_tree}
use Rattle.syntect_pattern_backtrack.proofs.PassLaws.{list-anchor, list-close, list-run}
use Rattle.syntect_pattern_backtrack.proofs.state.Search.+dead_ends.Goals as goal

pub returns-in-Close-clause-dead : goal.returns-in-Close-clause-dead
returns-in-Close-clause-dead t c = λ m l.
    list-close c.args.text.now (trees_of c.args.program.now) c.args.self.now.cells.items c.index-cell.result.now c.args.list c.if-list-eq0.false c.requires.1.1.0 c.requires.1.1.1.0
    (sym c.index-cell.ensures) (c.args.place - m) c.in-Close.group c.in-Close.start c.in-Close.is (c.dead_ends-in-Close.ensures.dead m l)

pub returns-in-Some-Anchor-clause-dead : goal.returns-in-Some-Anchor-clause-dead
returns-in-Some-Anchor-clause-dead t c = λ m l.
    list-anchor c.args.text.now (trees_of c.args.program.now) c.args.self.now.cells.items c.index-cell.result.now c.args.list c.if-list-eq0.false c.requires.1.1.0 c.requires.1.1.1.0
    (sym c.index-cell.ensures) (c.args.place - m) c.in-Run.node c.in-Some-Anchor.field-0-0 c.in-Run.is
    (c.in-Some-Anchor.ensures.is ∙ ap (node_tree (trees_of c.args.program.now)) c.in-Some-Anchor.field-0-is) (c.dead_ends.ensures.dead m l)

pub returns-in_default-node-clause-dead : goal.returns-in_default-node-clause-dead
returns-in_default-node-clause-dead t c = λ m l.
    list-run c.args.text.now (trees_of c.args.program.now) c.args.self.now.cells.items c.index-cell.result.now c.args.list c.if-list-eq0.false c.requires.1.1.0 c.requires.1.1.1.0
    (sym c.index-cell.ensures) (c.args.place - m) c.in-Run.node c.in-Run.is (c.dead_ends-in_default-node.ensures.dead m l)
