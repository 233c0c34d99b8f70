use Rattle.std.proofs.Common.{◌≡◌, ◌+◌, ◌*◌, ◌≤◌, map, drop}
use Rattle.syntect_grammar.specs.syntect_grammar_contexts.Contexts.{count_contexts}
use Rattle.syntect_grammar.specs.Patterns.{room_in}
use Rattle.syntect_grammar.proofs.includes.room_in.Given as goal

abbrev pub invariant-loop-syntax : goal.invariant-loop-syntax
invariant-loop-syntax l = record {
  counted : l.room + count_contexts (map (λ s. s.contexts) (drop l.syntax-index l.syntax-items)) ≡ room_in l.set;
  small : l.room ≤ 1 + l.syntax-index * 18446744073709551615;
}
