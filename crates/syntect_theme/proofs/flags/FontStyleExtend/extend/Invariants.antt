use Rattle.syntect_theme.specs.Flags.{Inserts}
use Rattle.syntect_theme.proofs.flags.FontStyleExtend.extend.Given as goal

abbrev pub invariant-loop-flags : goal.invariant-loop-flags
invariant-loop-flags g l = Inserts l.fn.self l.yielded l.self
