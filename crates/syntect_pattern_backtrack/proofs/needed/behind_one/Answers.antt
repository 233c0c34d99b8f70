use Rattle.std.proofs.Common.{◌≡◌, ◌≤◌, ◌+◌, ◌∙◌, inl, inr, arith, ap, false, sym, below_more}
use Rattle.std.proofs.lemmas.Bool.{cases_lt}
use Rattle.syntect_pattern_backtrack.specs.syntect_pattern_table.Needs.{has_pair_at}
use Rattle.syntect_pattern_backtrack.specs.syntect_pattern_table.Starts.{is_in}
use Rattle.syntect_pattern_backtrack.proofs.NeedLaws.{not-here, not-next, not-past}
use Rattle.syntect_pattern_backtrack.proofs.needed.behind_one.Goals as goal
use Rattle.syntect_pattern_backtrack.proofs.needed.behind_one.Goals.{else-is_in-via-then-is_in+else-is_in-2, else-is_in-via-else-is_in}

pub loop-from-preserved : goal.loop-from-preserved
loop-from-preserved c = λ k p q.
    let s = c.args.text.now in
    let from = c.loop-from.from in
    let here = is_in c.args.here.now in
    let next = is_in c.args.next.now in
    let absent : has_pair_at here next s from ≡ false = elim c.else-is_in.branch [
      | else-is_in-via-then-is_in+else-is_in-2 w ↦ not-next here next s from (from + 1) (omega arith) (sym (w.is_in-then-is_in.ensures ∙ ap next w.start_at-then-is_in.ensures.value) ∙ w.if-is_in-2.false)
      | else-is_in-via-else-is_in w ↦ not-here here next s from (sym (c.is_in.ensures ∙ ap here c.start_at.ensures.value) ∙ w.if-is_in.false)
    ] in
    below_more (λ n. c.args.place ≤ n → has_pair_at here next s n ≡ false) from (λ n l m. c.loop-from.invariant n m l) (λ m. absent) k (omega arith) p

pub returns : goal.returns
returns c = λ e k p. elim (cases_lt k c.loop-from.from) [
  | inl l ↦ c.loop-from.invariant k p l
  | inr g ↦ not-past c.args.here.now (is_in c.args.next.now) c.args.text.now k e (omega arith)
]
