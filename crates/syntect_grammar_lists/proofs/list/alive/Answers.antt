use Rattle.syntect_grammar_lists.specs.Packed.{unpacked}
use Rattle.syntect_grammar_lists.proofs.RowLaws.{tells_off_edges}
use Rattle.syntect_grammar_lists.proofs.list.alive.Goals as goal

pub returns-then-outlook : goal.returns-then-outlook
returns-then-outlook c =
    tells_off_edges (unpacked c.args.words c.args.rows.now) c.args.words c.args.outlook c.args.word c.alive_in_line-alive.result c.word_in.result
    c.alive_in_line-alive.ensures c.word_in.ensures c.if-outlook.true
