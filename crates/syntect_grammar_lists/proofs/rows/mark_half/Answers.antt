use Rattle.std.proofs.Common.{◌≡◌, ◌<◌, ◌+◌, ◌-◌, ◌/◌, ◌^◌, ◌∙◌, ℕ, true, ap, sym, subst, arith, inl, inr}
use Rattle.std.proofs.lemmas.Bool.{cases_lt}
use Rattle.syntect_grammar_lists.specs.Rows.{bit_of}
use Rattle.syntect_grammar_lists.proofs.RowLaws.{found_inside, none_between, none_from, rest_behind, skip}
use Rattle.syntect_grammar_lists.proofs.rows.mark_half.Goals as goal

pub loop-rest-init : goal.loop-rest-init
loop-rest-init c =
    let none : c.args.first - c.args.first ≡ 0 = omega arith in
    let whole : c.args.bits ≡ c.args.bits / 2 ^ 0 = omega arith in
    record {
      from = omega arith;
      within = omega arith;
      rest = whole ∙ ap (λ n. c.args.bits / 2 ^ n) (sym none);
      marks = λ x l e. absurd (omega (arith, l));
      others = λ p b e. e;
    }

pub mark_row-requires-clause-row : goal.mark_row-requires-clause-row
mark_row-requires-clause-row c =
    let inside = found_inside c.args.bits (c.loop-rest.row - c.args.first) c.loop-rest.rest c.ranges.bits.fits c.loop-rest.invariant.rest (omega (arith, c.loop-rest-test.true)) in
    omega (arith, inside, c.loop-rest.invariant.from, c.requires.first)

pub loop-rest-preserved : goal.loop-rest-preserved
loop-rest-preserved c =
    let n : ℕ = c.loop-rest.row - c.args.first in
    let some : 0 < c.loop-rest.rest = omega (arith, c.loop-rest-test.true) in
    let by : ℕ = skip c.args.bits n c.loop-rest.rest c.ranges.bits.fits c.loop-rest.invariant.rest some in
    let inside : n + by < 64 = found_inside c.args.bits n c.loop-rest.rest c.ranges.bits.fits c.loop-rest.invariant.rest some in
    let far : n + by + 1 ≡ c.loop-rest.row + by + 1 - c.args.first = omega (arith, c.loop-rest.invariant.from) in
    let at : c.loop-rest.row + by ≡ c.args.first + (n + by) = omega (arith, c.loop-rest.invariant.from) in
    record {
      from = omega (arith, c.loop-rest.invariant.from);
      within = omega (arith, inside, c.loop-rest.invariant.from);
      rest = rest_behind c.args.bits n c.loop-rest.rest c.ranges.bits.fits c.loop-rest.invariant.rest some ∙ ap (λ m. c.args.bits / 2 ^ m) far;
      marks = λ x l e. elim (cases_lt x n) [
        | inl b ↦ c.mark_row.ensures.others _ _ (c.loop-rest.invariant.marks x b e)
        | inr b ↦ elim (cases_lt x (n + by)) [
          | inl a ↦ absurd (omega (arith, e, none_between c.args.bits n c.loop-rest.rest c.ranges.bits.fits c.loop-rest.invariant.rest some x b a))
          | inr a ↦
              (let same : c.loop-rest.row + by ≡ c.args.first + x = omega (arith, l, a, far, at) in
              subst (λ (r : ℕ). bit_of c.mark_row.new.rows.items c.args.words r c.args.index ≡ true) same c.mark_row.ensures.marks)
        ]
      ];
      others = λ p b e. c.mark_row.ensures.others p b (c.loop-rest.invariant.others p b e);
    }

pub returns-clause-marks : goal.returns-clause-marks
returns-clause-marks c = λ x l e.
    let n : ℕ = c.loop-rest.row - c.args.first in
    elim (cases_lt x n) [
      | inl b ↦ c.loop-rest.invariant.marks x b e
      | inr b ↦ absurd (omega (arith, e, none_from c.args.bits n (sym c.loop-rest.invariant.rest ∙ c.loop-rest-test.false) x b))
    ]
