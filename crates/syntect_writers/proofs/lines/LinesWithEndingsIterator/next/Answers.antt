use Rattle.std.proofs.Common.{rules}
use Rattle.syntect_writers.proofs.TextLaws.{no_lines}
use Rattle.syntect_writers.proofs.lines.LinesWithEndingsIterator.next.Goals as goal

pub returns-then-is_empty-clause-steps : goal.returns-then-is_empty-clause-steps
returns-then-is_empty-clause-steps c =
    let none = no_lines c.args.self.now.input.now (search rules) in
    (none, none)
