use Rattle.std.proofs.Common.{◌∙◌, map}
use Rattle.std.specs.Prelude.{string_bytes}
use Rattle.syntect_grammar_linker.specs.Unlinked.{unlinked_of}
use Rattle.syntect_grammar_linker.proofs.UnlinkedLaws.{more_texts}
use Rattle.syntect_grammar.proofs.syntax_set.SyntaxSet.find_unlinked_contexts.Goals as goal

pub loop-syntax-preserved : goal.loop-syntax-preserved
loop-syntax-preserved c =
    more_texts (unlinked_of c.args.repository.now) (map string_bytes c.loop-syntax.out.keys) _ c.syntaxes-syntax-items.result.now c.loop-syntax.syntax-index c.syntax-item.result c.loop-syntax-test.true c.syntax-item.is c.in_ok-add_syntax.ensures
    ∙ c.loop-syntax.invariant
