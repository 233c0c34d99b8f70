use Rattle.std.specs.Prelude.{chars}
use Rattle.std.proofs.Common.{◌≡◌, ◌+◌, drop}
use Rattle.std.specs.Prelude.{option_map}
use Rattle.syntect_pattern.specs.Grammar.{number_of}
use Rattle.syntect_pattern_words.proofs.openings.number_of.Given as goal

abbrev pub invariant-loop-i : goal.invariant-loop-i
invariant-loop-i l = number_of (chars l.wanted) l.names ≡ option_map (λ k. k + l.i) (number_of (chars l.wanted) (drop l.i l.names))
