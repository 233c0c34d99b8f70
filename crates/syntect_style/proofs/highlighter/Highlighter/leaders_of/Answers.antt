use Rattle.syntect_style.proofs.highlighter.Highlighter.leaders_of.Goals as goal

pub loop-place-init : goal.loop-place-init
loop-place-init c = c.bottom-leaders.ensures
