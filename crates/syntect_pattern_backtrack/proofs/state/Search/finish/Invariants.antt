use Rattle.std.proofs.Common.{◌≡◌, ◌++◌, reverse, length}
use Rattle.syntect_pattern_backtrack.specs.Machine.{bound_of, uncut, cells_before}
use Rattle.syntect_pattern_backtrack.proofs.state.Search.finish.Given as goal

abbrev pub invariant-cut : goal.invariant-cut
invariant-cut l = record {
  bound : bound_of (reverse l.self.frames.items) ≡ bound_of (reverse l.fn.self.frames.items);
  before : cells_before (reverse l.self.frames.items) ≡ cells_before (reverse l.fn.self.frames.items);
  frames : l.kept.items ++ uncut (reverse l.self.frames.items) ≡ uncut (reverse l.fn.self.frames.items);
  cells : l.self.cells ≡ l.fn.self.cells;
  groups : l.self.groups ≡ l.fn.self.groups;
  place : l.self.place ≡ l.fn.self.place;
}

abbrev pub decreases-cut : goal.decreases-cut
decreases-cut l = length l.self.frames.items
