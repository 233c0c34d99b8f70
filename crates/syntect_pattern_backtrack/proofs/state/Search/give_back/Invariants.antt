use Rattle.std.proofs.Common.{◌≡◌, ◌++◌, reverse, length}
use Rattle.syntect_pattern_backtrack.proofs.state.Search.give_back.Given as goal

abbrev pub invariant-frames : goal.invariant-frames
invariant-frames l = record {
  frames : l.kept.items ++ reverse l.self.frames.items ≡ l.fn.kept.items ++ reverse l.fn.self.frames.items;
  cells : l.self.cells ≡ l.fn.self.cells;
  groups : l.self.groups ≡ l.fn.self.groups;
  place : l.self.place ≡ l.fn.self.place;
  left : l.self.left ≡ l.fn.self.left;
  read : l.self.read ≡ l.fn.self.read;
  worth : l.self.worth ≡ l.fn.self.worth;
}

abbrev pub decreases-frames : goal.decreases-frames
decreases-frames l = length l.kept.items
