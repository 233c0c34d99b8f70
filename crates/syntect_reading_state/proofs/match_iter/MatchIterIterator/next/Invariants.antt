use Rattle.std.proofs.Common.{◌≡◌, false}
use Rattle.syntect_reading_state.specs.Places.{walk_left}
use Rattle.syntect_reading_state.specs.Walking.{steps_left}
use Rattle.syntect_reading_state.proofs.match_iter.MatchIterIterator.next.Given as goal

abbrev pub invariant-loop-context : goal.invariant-loop-context
invariant-loop-context l = record {
  same : walk_left l.self ≡ walk_left l.initial.self;
  failed : l.self.failed ≡ false;
  first : l.initial.self.failed ≡ false;
}

abbrev pub decreases-loop-context : goal.decreases-loop-context
decreases-loop-context l = steps_left l.self
