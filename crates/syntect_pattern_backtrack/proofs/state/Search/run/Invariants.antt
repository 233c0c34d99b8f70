use Rattle.std.proofs.Common.{◌≡◌, ◌+◌, ◌≤◌, true}
use Rattle.syntect_pattern_backtrack.specs.syntect_pattern_table.Program.{trees_of}
use Rattle.syntect_pattern_backtrack.specs.Machine.{found_by, steps_of, Fits}
use Rattle.syntect_pattern_backtrack.proofs.state.Search.run.Given as goal

abbrev pub invariant-steps : goal.invariant-steps
invariant-steps l = record {
  found : found_by l.text (trees_of l.program) l.next l.self ≡ found_by l.text (trees_of l.program) l.fn.start l.fn.self;
  fits : Fits l.text l.next l.self;
  paid : l.limited ≡ true → l.count.made + l.left ≡ l.fn.count.made + l.fn.self.left;
  rises : l.fn.count.made ≤ l.count.made;
}

abbrev pub decreases-steps : goal.decreases-steps
decreases-steps l = steps_of l.text (trees_of l.program) l.next l.self
