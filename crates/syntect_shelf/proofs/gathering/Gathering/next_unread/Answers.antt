use Rattle.std.proofs.Common.{rules}
use Rattle.syntect_shelf.proofs.ClosedLaws.{of_whole_found}
use Rattle.syntect_shelf.proofs.gathering.Gathering.next_unread.Goals as goal

pub returns-then-is_some-clause-some : goal.returns-then-is_some-clause-some
returns-then-is_some-clause-some c = of_whole_found c.trail.self.definitions.items c.trail.self.whole.items c.in-Some.place c.unread_from-found.result (search rules)
