use Rattle.std.proofs.Common.{◌+◌, ◌*◌, ◌/◌, ◌%◌, length, arith}
use Rattle.syntect_grammar_lists.specs.Sides.{first_row}
use Rattle.syntect_grammar_lists.proofs.RowLaws.{bit_past, past_rows}
use Rattle.syntect_grammar_lists.proofs.rows.mark_side.Goals as goal

pub returns-then-first_row-words-clause-marks : goal.returns-then-first_row-words-clause-marks
returns-then-first_row-words-clause-marks c = λ x k d l m e.
    bit_past c.args.rows.now.items ((first_row c.args.side + x) * c.args.words + k / 64) (k % 64)
    (past_rows (length c.args.rows.now.items) (first_row c.args.side) x c.args.words (k / 64) (omega (arith, rw c.first_row.ensures.value at c.if-first_row-words.true, c.len.ensures))) (omega arith)
