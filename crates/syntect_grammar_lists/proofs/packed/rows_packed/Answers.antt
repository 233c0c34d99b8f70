use Rattle.std.proofs.Common.{subst, sym}
use Rattle.syntect_grammar_lists.proofs.PackedLaws.{RowsStay, more_same, more_whole, rows_whole, starts_same}
use Rattle.syntect_grammar_lists.proofs.packed.rows_packed.Goals.{else-loop-rest-test, then-loop-rest-test+in_ok-next+in_default}
use Rattle.syntect_grammar_lists.proofs.packed.rows_packed.Goals as goal

pub loop-rest-preserved : goal.loop-rest-preserved
loop-rest-preserved c = record {
  few = c.in_ok-next.ensures.few;
  whole = c.in_ok-next.ensures.whole;
  packed =
      more_whole c.args.words c.loop-rest.bits.items c.next_number.new.bits.items c.loop-rest.numbers.items c.push.new.self.items c.in-Some.number c.split_at.result.0.now c.loop-rest.rest.now c.split_at.result.1.now
      c.args.rows.now c.in_ok-next.ensures.stays c.in_ok-push.ensures.items (rw c.in-Some.is at c.in_ok-next.ensures.number) c.split_at.ensures.front c.split_at.ensures.back
      c.loop-rest.invariant.packed c.loop-rest.invariant.same;
  same =
      more_same c.args.words c.loop-rest.bits.items c.next_number.new.bits.items c.loop-rest.numbers.items c.push.new.self.items c.in-Some.number c.split_at.result.0.now c.loop-rest.rest.now c.split_at.result.1.now
      c.args.rows.now c.in_ok-next.ensures.stays c.in_ok-push.ensures.items (rw c.in-Some.is at c.in_ok-next.ensures.number) c.split_at.ensures.front c.split_at.ensures.back
      c.loop-rest.invariant.packed c.loop-rest.invariant.same;
}

pub returns-clause-packed : goal.returns-clause-packed
returns-clause-packed c = rows_whole c.args.words c.loop-rest.bits.items c.shrink_to_fit.new.self.items c.loop-rest.numbers.items
    (subst (RowsStay c.args.words c.loop-rest.bits.items) (sym c.shrink_to_fit.ensures.items)
    (elim c.loop-rest-test.branch [
      | else-loop-rest-test w ↦ subst (λ b. RowsStay c.args.words c.loop-rest.bits.items b.items) (sym w.bits-is) (λ n r h. h)
      | then-loop-rest-test+in_ok-next+in_default w ↦ subst (λ b. RowsStay c.args.words c.loop-rest.bits.items b.items) (sym w.bits-is) w.in_ok-next.ensures.stays
    ]))
    c.loop-rest.invariant.packed

pub returns-clause-same : goal.returns-clause-same
returns-clause-same c = starts_same c.args.words c.loop-rest.bits.items c.shrink_to_fit.new.self.items c.loop-rest.numbers.items c.loop-rest.rest.now c.args.rows.now
    (subst (RowsStay c.args.words c.loop-rest.bits.items) (sym c.shrink_to_fit.ensures.items)
    (elim c.loop-rest-test.branch [
      | else-loop-rest-test w ↦ subst (λ b. RowsStay c.args.words c.loop-rest.bits.items b.items) (sym w.bits-is) (λ n r h. h)
      | then-loop-rest-test+in_ok-next+in_default w ↦ subst (λ b. RowsStay c.args.words c.loop-rest.bits.items b.items) (sym w.bits-is) w.in_ok-next.ensures.stays
    ]))
    c.loop-rest.invariant.packed c.loop-rest.invariant.same
