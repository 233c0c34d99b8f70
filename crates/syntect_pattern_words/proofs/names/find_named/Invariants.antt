use Rattle.std.specs.Prelude.{chars}
use Rattle.std.proofs.Common.{◌≡◌, map, drop}
use Rattle.syntect_pattern_words.specs.Names.{entry_named}
use Rattle.syntect_pattern_words.proofs.names.find_named.Given as goal

abbrev pub invariant-loop-entry : goal.invariant-loop-entry
invariant-loop-entry l = entry_named (map (λ e. (e.0.now, e.1)) l.table) (chars l.name) ≡ entry_named (map (λ e. (e.0.now, e.1)) (drop l.entry-index l.table)) (chars l.name)
