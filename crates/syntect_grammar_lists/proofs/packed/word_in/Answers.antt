use Rattle.std.proofs.Common.{ap, arith, length, sym}
use Rattle.syntect_grammar_lists.proofs.PackedLaws.{word_found, word_past}
use Rattle.syntect_grammar_lists.proofs.packed.word_in.Goals as goal

pub returns-in-Some : goal.returns-in-Some
returns-in-Some c =
    word_found c.args.words c.args.table.now.bits.items c.args.table.now.numbers.items c.args.row c.args.word c.in-Some.number.now 18446744073709551615 c.index.result.now
    c.requires.within c.requires.packed (let h = rw c.deref.ensures.value at c.in-Some.ensures.lookup.3 in (h.0, h.1 0)) c.index.ensures

pub returns-in-None : goal.returns-in-None
returns-in-None c =
    sym (word_past c.args.words c.args.table.now.bits.items c.args.table.now.numbers.items c.args.row c.args.word 18446744073709551615 (omega (arith, c.in-None.ensures.lookup.3, ap length c.deref.ensures.value)) c.requires.packed)
