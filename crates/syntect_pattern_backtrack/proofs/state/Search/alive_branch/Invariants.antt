use Rattle.syntect_pattern_backtrack.specs.syntect_pattern_table.Program.{trees_of}
use Rattle.syntect_pattern_backtrack.specs.declared.state.Next.{Next}
use Rattle.syntect_pattern_backtrack.specs.Machine.{FindsAlike, steps_of}
use Rattle.syntect_pattern_backtrack.proofs.state.Search.alive_branch.Given as goal

abbrev pub invariant-loop-first : goal.invariant-loop-first
invariant-loop-first l = FindsAlike l.text (trees_of l.program) (Next.Enter l.node l.list) (Next.Enter l.branch l.list) l.self

abbrev pub decreases-loop-first : goal.decreases-loop-first
decreases-loop-first l = steps_of l.text (trees_of l.program) (Next.Enter l.branch l.list) l.self
