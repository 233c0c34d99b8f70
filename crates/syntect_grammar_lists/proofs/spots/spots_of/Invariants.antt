use Rattle.std.proofs.Common.{◌≡◌, map, take}
use Rattle.syntect_grammar_lists.specs.Told.{spot_of}
use Rattle.syntect_grammar_lists.proofs.spots.spots_of.Given as goal

abbrev pub invariant-loop-flat : goal.invariant-loop-flat
invariant-loop-flat l = l.spots.items ≡ map spot_of (take l.flat-index l.flats)
