use Rattle.std.proofs.Common.{arith}
use Rattle.std.proofs.lemmas.List.{get_or_default}
use Rattle.syntect_grammar_lists.proofs.SlimLaws.{out_more}
use Rattle.syntect_grammar_lists.proofs.list.next_seen.Goals as goal

pub loop-next-preserved : goal.loop-next-preserved
loop-next-preserved c = record {
  later = omega (arith, c.loop-next.invariant.later);
  passed =
      out_more c.args.outlook c.args.table.now c.args.slims.now c.args.from c.loop-next.next _ (get_or_default c.args.slims.now c.loop-next.next _ _ c.loop-next-test.true)
      (c.is_out.ensures c.if-is_out.true) c.loop-next.invariant.passed;
}
