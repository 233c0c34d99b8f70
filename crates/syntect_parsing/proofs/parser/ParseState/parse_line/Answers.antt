use Rattle.syntect_parsing.proofs.WithinLaws.{may_refuse, unless_memory}
use Rattle.syntect_parsing.proofs.parser.ParseState.parse_line.Goals as goal

pub returns-in-Err-clause-refused : goal.returns-in-Err-clause-refused
returns-in-Err-clause-refused c = rw c.refusal.ensures (may_refuse c.args.syntax_set.now c.args.line.now c.args.self.now.standing c.in-Err.e c.in-Err.ensures.refused)

pub returns-in-Err-clause-steps : goal.returns-in-Err-clause-steps
returns-in-Err-clause-steps c = rw c.refusal.ensures (unless_memory c.in-Err.e _ c.in-Err.ensures.steps)

pub returns-in-Err-clause-most_steps : goal.returns-in-Err-clause-most_steps
returns-in-Err-clause-most_steps c = rw c.refusal.ensures (unless_memory c.in-Err.e _ c.in-Err.ensures.most_steps)
