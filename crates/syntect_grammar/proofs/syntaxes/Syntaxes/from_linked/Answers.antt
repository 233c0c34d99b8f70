use Rattle.std.proofs.Common.{List, subst}
use Rattle.syntect_grammar.specs.syntect_grammar_contexts.declared.syntax_reference.SyntaxReference.{SyntaxReference}
use Rattle.syntect_grammar.specs.Contexts.{set_of}
use Rattle.syntect_grammar.specs.Flats.{IsTableOf}
use Rattle.syntect_grammar.proofs.syntaxes.Syntaxes.from_linked.Goals as goal

pub invariant_of-result : goal.invariant_of-result
invariant_of-result c = subst (λ (items : List SyntaxReference). IsTableOf (set_of items) c.in_ok-flats.flats) c.as_slice.ensures c.in_ok-flats.ensures
