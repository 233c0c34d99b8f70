use Rattle.std.proofs.Common.{◌∷◌, ◌++◌, [], ◌∙◌, ap}
use Rattle.syntect_pattern_backtrack.specs.syntect_pattern_table.Program.{trees_of}
use Rattle.syntect_pattern_backtrack.specs.declared.state.Frame.TheVariants as Frame
use Rattle.syntect_pattern_backtrack.specs.declared.state.Next.{Next}
use Rattle.syntect_pattern_backtrack.specs.declared.state.Search.{Search}
use Rattle.syntect_pattern_backtrack.proofs.EnterLaws.{goes_alt}
use Rattle.syntect_pattern_backtrack.proofs.DeadLaws.{goes-alike, goes_first, goes_second}
use Rattle.syntect_pattern_backtrack.proofs.state.Search.enter_branches.Goals as goal

pub returns-then-none_begins_at : goal.returns-then-none_begins_at
returns-then-none_begins_at c =
    goes-alike c.args.text.now (trees_of c.args.program.now) (Next.Enter c.args.node c.args.list) (Next.Enter c.args.second c.args.list) (Next.Enter c.alive_branch-node.result c.args.list) c.args.self.now
    (goes_second c.args.text.now (trees_of c.args.program.now) c.args.node c.args.list c.args.self.now c.args.first c.args.second c.requires.is c.requires.fits (c.none_begins_at.ensures c.if-none_begins_at.true))
    c.alive_branch-node.ensures

pub returns-then-none_begins_at-2 : goal.returns-then-none_begins_at-2
returns-then-none_begins_at-2 c =
    goes_first c.args.text.now (trees_of c.args.program.now) c.args.node c.args.list c.args.self.now c.args.first c.args.second c.requires.is c.requires.fits (c.none_begins_at-2.ensures c.if-none_begins_at-2.true)

pub returns : goal.returns
returns c =
    let old : Search = c.args.self.now in
    goes_alt c.args.text.now (trees_of c.args.program.now) c.args.node c.args.list old c.save.new.self c.args.first c.args.second c.requires.is c.requires.fits
    (c.in_ok-save.ensures.frames ∙ ap (λ n. old.frames.items ++ Frame.Enter c.args.second c.args.list old.place n ∷ []) (c.len.ensures ∙ old.cells.ok.0))
    c.in_ok-save.ensures.others
