use Rattle.std.proofs.Common.{◌≡◌, map}
use Rattle.syntect_grammar.specs.Apart.{definition_of_syntax}
use Rattle.syntect_grammar.proofs.syntax_set.SyntaxSet.into_builder.Given as goal

abbrev pub invariant-loop-syntax : goal.invariant-loop-syntax
invariant-loop-syntax l = l.definitions.items ≡ map definition_of_syntax l.yielded
