use Rattle.std.specs.Prelude.{chars}
use Rattle.std.proofs.Common.{◌≡◌, drop}
use Rattle.std.specs.List.{list_any}
use Rattle.syntect_pattern.specs.Grammar.{has_name}
use Rattle.syntect_pattern_words.proofs.openings.has_name.Given as goal

abbrev pub invariant-loop-name : goal.invariant-loop-name
invariant-loop-name l = list_any (has_name (chars l.wanted)) l.names ≡ list_any (has_name (chars l.wanted)) (drop l.name-index l.names)
