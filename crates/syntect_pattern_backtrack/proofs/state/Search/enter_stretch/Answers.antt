use Rattle.std.proofs.Common.{◌≡◌, ◌∷◌, ◌++◌, [], ap, ◌∙◌, arith, None, true, suc, ◌-◌, ◌/◌}
use Rattle.syntect_pattern_backtrack.specs.syntect_pattern.Trees.{repeat}
use Rattle.syntect_pattern_backtrack.specs.syntect_pattern_table.Program.{trees_of}
use Rattle.syntect_pattern_backtrack.specs.declared.state.Frame.TheVariants as Frame
use Rattle.syntect_pattern_backtrack.specs.declared.state.Search.{Search}
use Rattle.syntect_pattern_backtrack.proofs.StretchLaws.{goes_stretch}
use Rattle.syntect_pattern_backtrack.proofs.state.Search.enter_stretch.Goals as goal

pub returns-clause-goes : goal.returns-clause-goes
returns-clause-goes c = λ yes node is.
    let old : Search = record c.args.self.now { read = c.saturating_add-self.result; worth = c.saturating_add-self.result / 8 } in
    let of_tree = c.in-Some.ensures in
    let count : c.saturating_sub-3.result ≡ suc (c.in-Some.end - old.place) - c.args.least = omega arith in
    let goes = goes_stretch c.args.text.now (trees_of c.args.program.now) old c.save.new.self node c.args.list c.args.least c.saturating_sub-3.result c.in-Some.end of_tree.set
    (record { cells = c.requires.cells; frames = c.requires.frames; list = c.requires.list; place = c.requires.place; groups = c.requires.groups })
    (is ∙ ap (repeat true c.args.least None) of_tree.is) of_tree.stretch count
    (c.in_ok-save.ensures.frames ∙ ap (λ n. old.frames.items ++ Frame.Stretch c.args.list c.saturating_sub-3.result c.in-Some.end n ∷ []) (c.len.ensures ∙ old.cells.ok.0))
    c.in_ok-save.ensures.others in
    record { found = goes.found; fewer = goes.fewer; fits = goes.fits }
