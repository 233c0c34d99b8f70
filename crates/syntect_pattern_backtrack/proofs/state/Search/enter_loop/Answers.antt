use Rattle.std.proofs.Common.{◌≡◌, sym, ◌∙◌, subst}
use Rattle.syntect_pattern_backtrack.specs.syntect_pattern_table.Program.{trees_of}
use Rattle.syntect_pattern_backtrack.specs.declared.state.Next.TheVariants as Next
use Rattle.syntect_pattern_backtrack.specs.declared.state.Search.{Search}
use Rattle.syntect_pattern_backtrack.specs.Machine.{Goes}
use Rattle.syntect_pattern_backtrack.proofs.EnterLaws.{goes_repeat}
use Rattle.syntect_pattern_backtrack.proofs.state.Search.enter_loop.Goals as goal
use Rattle.syntect_pattern_backtrack.proofs.state.Search.enter_loop.Goals.{else-greedy-via-then-greedy+then-is_none+in_ok-enter_stretch+else-branch, else-greedy-via-then-greedy+else-is_none, else-greedy-via-else-greedy}

pub returns : goal.returns
returns c =
    let old : Search = c.args.self.now in
    let s = c.args.text.now in
    let ts = trees_of c.args.program.now in
    let same : c.else-greedy.self ≡ old = elim c.else-greedy.branch [
      | else-greedy-via-then-greedy+then-is_none+in_ok-enter_stretch+else-branch w ↦ w.self-is ∙ w.in_ok-enter_stretch.ensures.stays w.if-branch.false
      | else-greedy-via-then-greedy+else-is_none w ↦ w.self-is
      | else-greedy-via-else-greedy w ↦ w.self-is
    ] in
    subst (λ (x : Search). Goes s ts (Next.Enter c.args.turns.node c.args.list) old (Next.Turn c.args.turns c.args.list) x) (sym same)
    (goes_repeat s ts c.args.turns.node c.args.list old c.args.greedy c.args.turns.least c.args.turns.left c.args.turns.most c.args.body
    c.requires.is_loop c.requires.fits c.requires.left)
