use Rattle.std.proofs.Common.{take}
use Rattle.syntect_style.specs.Kept.{AreLeadersOf}
use Rattle.syntect_style.proofs.highlighter.Highlighter.leaders_of.Given as goal

abbrev pub invariant-loop-place : goal.invariant-loop-place
invariant-loop-place l = AreLeadersOf l.self (take l.place l.stack) l.leaders
