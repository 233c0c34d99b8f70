use Rattle.std.proofs.Common.{◌+◌, ◌*◌, ◌∙◌, ap, get_or}
use Rattle.syntect_grammar_lists.specs.Packed.{unpacked}
use Rattle.syntect_grammar_lists.proofs.RowLaws.{tells_within}
use Rattle.syntect_grammar_lists.proofs.list.alive_anywhere.Goals as goal

pub returns : goal.returns
returns c =
    tells_within (unpacked c.args.words c.args.rows.now) c.args.words c.args.outlook c.args.word c.word_in-here.result c.word_in-behind.result c.requires.here c.requires.behind
    c.word_in-here.ensures (c.word_in-behind.ensures ∙ ap (λ q. get_or (unpacked c.args.words c.args.rows.now) (q * c.args.words + c.args.word) 18446744073709551615) c.behind_row.ensures.value)
