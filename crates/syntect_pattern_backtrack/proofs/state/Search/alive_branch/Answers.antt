use Rattle.std.proofs.Common.{◌∙◌, ap}
use Rattle.syntect_pattern_backtrack.specs.syntect_pattern_table.Table.{node_tree}
use Rattle.syntect_pattern_backtrack.specs.syntect_pattern_table.Program.{trees_of}
use Rattle.syntect_pattern_backtrack.specs.declared.state.Next.{Next}
use Rattle.syntect_pattern_backtrack.proofs.DeadLaws.{alike-more, goes_past, goes_second}
use Rattle.syntect_pattern_backtrack.proofs.state.Search.alive_branch.Goals as goal

pub loop-first-smaller : goal.loop-first-smaller
loop-first-smaller c =
    (goes_second c.args.text.now (trees_of c.args.program.now) c.loop-first.branch c.args.list c.args.self.now c.in-Some-Alternation.first c.in-Some-Alternation.second
    (c.in-Some-Alternation.ensures.is ∙ ap (node_tree (trees_of c.args.program.now)) c.in-Some-Alternation.field-0-is) c.loop-first.invariant.fits
    (c.none_begins_at.ensures c.if-not-none_begins_at.false)).fewer

pub loop-first-preserved : goal.loop-first-preserved
loop-first-preserved c =
    alike-more c.args.text.now (trees_of c.args.program.now) (Next.Enter c.args.node c.args.list) (Next.Enter c.loop-first.branch c.args.list) (Next.Enter c.in-Some-Alternation.second c.args.list) c.args.self.now
    c.loop-first.invariant
    (goes_second c.args.text.now (trees_of c.args.program.now) c.loop-first.branch c.args.list c.args.self.now c.in-Some-Alternation.first c.in-Some-Alternation.second
    (c.in-Some-Alternation.ensures.is ∙ ap (node_tree (trees_of c.args.program.now)) c.in-Some-Alternation.field-0-is) c.loop-first.invariant.fits
    (c.none_begins_at.ensures c.if-not-none_begins_at.false))

pub loop-first-smaller-in-Some : goal.loop-first-smaller-in-Some
loop-first-smaller-in-Some c =
    (goes_past c.args.text.now (trees_of c.args.program.now) c.loop-first.branch c.args.list c.args.self.now c.in-Some.rest c.in-Some.ensures c.loop-first.invariant.fits).fewer

pub loop-first-preserved-in-Some : goal.loop-first-preserved-in-Some
loop-first-preserved-in-Some c =
    alike-more c.args.text.now (trees_of c.args.program.now) (Next.Enter c.args.node c.args.list) (Next.Enter c.loop-first.branch c.args.list) (Next.Enter c.in-Some.rest c.args.list) c.args.self.now
    c.loop-first.invariant
    (goes_past c.args.text.now (trees_of c.args.program.now) c.loop-first.branch c.args.list c.args.self.now c.in-Some.rest c.in-Some.ensures c.loop-first.invariant.fits)
