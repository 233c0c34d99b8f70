use Rattle.std.proofs.Common.{map, ap, ◌∙◌}
use Rattle.std.specs.Prelude.{string_bytes}
use Rattle.syntect_grammar_linker.proofs.UnlinkedLaws.{texts_inserted}
use Rattle.syntect_grammar_linker.proofs.unlinked.add_text.Goals as goal

pub returns : goal.returns
returns c = ap (map string_bytes) c.in_ok-insert.ensures.keys ∙ texts_inserted c.args.out.now.keys c.args.text
