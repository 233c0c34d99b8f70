use Rattle.syntect_grammar.specs.PlainText.{plain_text}
use Rattle.std.proofs.Common.{false, None}
use Rattle.syntect_grammar_limits.specs.syntect_grammar_loader.Loading.{loaded}
use Rattle.syntect_shelf.proofs.FileLaws.{text_found}
use Rattle.syntect_shelf.proofs.bodies.plain_definition.Goals as goal

pub returns-clause-ok : goal.returns-clause-ok
returns-clause-ok c = text_found c.load_from_str.new.repository (loaded plain_text false None c.args.repository.now) c.load_from_str.result c.load_from_str.ensures.value
