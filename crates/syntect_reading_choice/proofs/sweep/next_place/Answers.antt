use Rattle.std.proofs.Common.{arith, inl, inr}
use Rattle.syntect_reading_choice.specs.syntect_pattern_table.Starts.{start_at}
use Rattle.syntect_reading_state.proofs.syntect_regex_proofs.syntect_pattern_table_proofs.BeginLaws.{start-bound}
use Rattle.syntect_reading_choice.proofs.SweepLaws.{passed_mid, passed_place}
use Rattle.syntect_reading_choice.proofs.sweep.next_place.Goals as goal

pub loop-next-preserved : goal.loop-next-preserved
loop-next-preserved c = record {
  later = omega (arith, c.loop-next.invariant.later);
  within = omega (arith, c.loop-next-test.true);
  ahead = λ losses runs begins all h. elim (c.may_begin.ensures c.if-not-may_begin.true) [
    | inl out ↦
        passed_place c.dialect_finds_in_text.ensures c.args.reader.now runs all losses c.loop-next.next
        (begins (start_at c.args.reader.now.line.now c.loop-next.next) (start-bound c.args.reader.now.line.now c.loop-next.next) out)
        (c.loop-next.invariant.ahead losses runs begins all h)
    | inr mid ↦
        passed_mid c.dialect_finds_in_text.ensures c.args.reader.now runs all losses c.loop-next.next mid
        (c.loop-next.invariant.ahead losses runs begins all h)
  ];
}
