use Rattle.std.proofs.Common.{◌≡◌, None, length, map}
use Rattle.std.specs.List.{All, filter_map}
use Rattle.syntect_grammar.specs.Contexts.{set_of}
use Rattle.syntect_grammar.specs.Flats.{Tells, pattern_at}
use Rattle.syntect_grammar.specs.Walk.{frame}
use Rattle.syntect_grammar.proofs.WalkLaws.{IsWalk, work}
use Rattle.syntect_grammar.proofs.walk.Walker.walk.Given as goal

abbrev pub invariant-entries : goal.invariant-entries
invariant-entries l = record {
  walk : IsWalk (set_of l.syntaxes) l.fn.root l.self.entered (map (frame (set_of l.syntaxes)) l.self.frames.items) (filter_map (pattern_at (set_of l.syntaxes)) l.self.flats.items);
  count : length l.self.flats.items ≡ length (filter_map (pattern_at (set_of l.syntaxes)) l.self.flats.items);
  tells : All (Tells (set_of l.syntaxes)) l.self.flats.items;
  steps : l.fn.steps ≡ None → l.steps ≡ None;
}

abbrev pub decreases-entries : goal.decreases-entries
decreases-entries l = work (set_of l.syntaxes) l.self.entered (map (frame (set_of l.syntaxes)) l.self.frames.items)
