use Rattle.std.proofs.Common.{sym, ◌∙◌, eq-eqb}
use Rattle.syntect_pattern_steps.proofs.TextLaws.{equals-itself}
use Rattle.syntect_pattern_steps.proofs.text.are_equal.Goals as goal

pub returns-then-c-d : goal.returns-then-c-d
returns-then-c-d c = eq-eqb c.args.c c.args.d c.if-c-d.true ∙ sym (equals-itself c.args.fold c.args.c c.args.d c.if-c-d.true)
