use Rattle.std.proofs.Common.{◌≡◌, ◌++◌, false, drop, map}
use Rattle.syntect_shelf.specs.Places.{head_alone}
use Rattle.syntect_shelf.specs.declared.grammar.Grammar.{Grammar}
use Rattle.syntect_shelf.proofs.gathering.heads_alone.Given as goal

abbrev pub invariant-loop-grammar : goal.invariant-loop-grammar
invariant-loop-grammar l = record {
  definitions : l.definitions.items ++ map (λ (g : Grammar). head_alone g.head) (drop l.grammar-index l.grammars) ≡ map (λ (g : Grammar). head_alone g.head) l.grammars;
  whole : l.whole.items ++ map (λ (g : Grammar). false) (drop l.grammar-index l.grammars) ≡ map (λ (g : Grammar). false) l.grammars;
}
