use Rattle.syntect_grammar.proofs.syntax_set.SyntaxSetBuilder.add_plain_text_syntax.Goals as goal

pub returns-clause-ok : goal.returns-clause-ok
returns-clause-ok c = record {
  definition = c.in-Ok.syntax;
  loads = c.in-Ok.ensures.value;
  definitions = c.in_ok-add.ensures.ok;
  paths = c.in_ok-add.ensures.paths;
}
