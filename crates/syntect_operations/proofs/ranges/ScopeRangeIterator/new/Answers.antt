use Rattle.std.proofs.lemmas.Str.{IsCharBoundary-start}
use Rattle.syntect_operations.proofs.ranges.ScopeRangeIterator.new.Goals as goal

pub returns-clause-ready : goal.returns-clause-ready
returns-clause-ready c = (IsCharBoundary-start c.args.line.now c.utf8.line, c.requires)
