use Rattle.std.proofs.Common.{◌≡◌, length}
use Rattle.syntect_shelf.proofs.gathering.Gathering.next_unread.Given as goal

abbrev pub invariant-trail : goal.invariant-trail
invariant-trail l = record { definitions : l.self.definitions ≡ l.fn.self.definitions; whole : l.self.whole ≡ l.fn.self.whole }

abbrev pub decreases-trail : goal.decreases-trail
decreases-trail l = length l.self.trail.items
