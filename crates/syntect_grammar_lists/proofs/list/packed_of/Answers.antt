use Rattle.std.proofs.Common.{◌≡◌, length, take}
use Rattle.std.proofs.lemmas.Result.{IfOk-weaker}
use Rattle.syntect_grammar_lists.specs.Packed.{unpacked}
use Rattle.syntect_grammar_lists.specs.Rows.{AreRowsOf}
use Rattle.syntect_grammar_lists.proofs.RowLaws.{rows_kept}
use Rattle.syntect_grammar_lists.proofs.list.packed_of.Goals as goal

pub returns-clause-rows : goal.returns-clause-rows
returns-clause-rows c =
    IfOk-weaker c.rows_packed.result (λ p. take (length (unpacked c.args.words p)) c.as_slice.result.now ≡ unpacked c.args.words p) (λ p. AreRowsOf (unpacked c.args.words p) c.args.words c.args.flats.now)
    (λ p e. rows_kept c.in_ok-rows.rows.items (unpacked c.args.words p) c.args.words c.args.flats.now (rw c.as_slice.ensures.value at e) c.in_ok-rows.ensures.sides c.in_ok-rows.ensures.edges c.in_ok-rows.ensures.lines) c.rows_packed.ensures.same
