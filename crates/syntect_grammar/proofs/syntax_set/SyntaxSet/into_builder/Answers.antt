use Rattle.syntect_grammar.specs.Apart.{definition_of_syntax}
use Rattle.syntect_grammar.proofs.ApartLaws.{one_more}
use Rattle.syntect_grammar.proofs.syntax_set.SyntaxSet.into_builder.Goals as goal

pub loop-syntax-preserved : goal.loop-syntax-preserved
loop-syntax-preserved c =
    one_more definition_of_syntax c.loop-syntax.yielded c.in-Some.syntax c.in_ok-definition.definition c.loop-syntax.definitions.items _ c.loop-syntax.invariant c.in_ok-definition.ensures c.in_ok-push.ensures.items
