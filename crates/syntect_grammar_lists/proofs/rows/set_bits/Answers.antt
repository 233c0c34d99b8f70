use Rattle.std.proofs.Common.{arith}
use Rattle.syntect_grammar_lists.proofs.RowLaws.{bit_past, bits_kept, bits_set}
use Rattle.syntect_grammar_lists.proofs.rows.set_bits.Goals as goal

pub returns-then-place-len-clause-marks : goal.returns-then-place-len-clause-marks
returns-then-place-len-clause-marks c = λ b l e. bits_set c.args.rows.now.items c.args.place c.index-word.result.now c.args.bits (omega (arith, c.if-place-len.true, c.len.ensures)) b e

pub returns-then-place-len-clause-others : goal.returns-then-place-len-clause-others
returns-then-place-len-clause-others c = bits_kept c.args.rows.now.items c.args.place c.index-word.result.now c.args.bits (omega (arith, c.if-place-len.true, c.len.ensures)) c.index-word.ensures

pub returns-else-place-len-clause-marks : goal.returns-else-place-len-clause-marks
returns-else-place-len-clause-marks c = λ b l e. bit_past c.args.rows.now.items c.args.place b (omega (arith, c.if-place-len.false, c.len.ensures)) l
