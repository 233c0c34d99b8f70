use Rattle.std.proofs.Common.{◌%◌, arith}
use Rattle.syntect_grammar_lists.proofs.RowLaws.{one_bit}
use Rattle.syntect_grammar_lists.proofs.rows.mark_row.Goals as goal

pub returns-clause-marks : goal.returns-clause-marks
returns-clause-marks c = c.set_bits.ensures.marks (c.args.index % 64) (omega arith) (one_bit (c.args.index % 64) (omega arith))
