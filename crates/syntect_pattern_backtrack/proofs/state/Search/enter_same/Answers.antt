use Rattle.std.proofs.Common.{subst, sym}
use Rattle.syntect_pattern_backtrack.specs.syntect_pattern_table.Program.{trees_of}
use Rattle.syntect_pattern_backtrack.specs.Machine.{Fits, Goes}
use Rattle.syntect_pattern_backtrack.specs.declared.state.Next.TheVariants as Next
use Rattle.syntect_pattern_backtrack.specs.declared.state.Search.{Search}
use Rattle.syntect_pattern_backtrack.proofs.EnterLaws.{goes_same}
use Rattle.syntect_pattern_backtrack.proofs.state.Search.enter_same.Goals as goal

pub returns : goal.returns
returns c =
    let read : Search = c.read_more.new.self in
    let goes = goes_same c.args.text.now (trees_of c.args.program.now) c.args.node c.args.list read c.go_on.new.self c.args.fold c.args.group c.go_on.result c.past_group-place.result c.requires.is
    (subst (Fits c.args.text.now (Next.Enter c.args.node c.args.list)) (sym c.read_more.ensures) (record { cells = c.requires.fits.cells; frames = c.requires.fits.frames; list = c.requires.fits.list; place = c.requires.fits.place; groups = c.requires.fits.groups }))
    c.past_group-place.ensures.value c.past_group-place.ensures.boundary c.go_on.ensures.some c.go_on.ensures.none in
    let from = subst (λ (o : Search). Goes c.args.text.now (trees_of c.args.program.now) (Next.Enter c.args.node c.args.list) o c.go_on.result c.go_on.new.self) c.read_more.ensures goes in
    record { found = from.found; fewer = from.fewer; fits = from.fits }
