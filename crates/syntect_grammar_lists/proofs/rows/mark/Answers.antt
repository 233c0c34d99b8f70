use Rattle.std.proofs.Common.{◌≡◌, ◌+◌, ◌-◌, ◌*◌, ◌/◌, ◌%◌, ℕ, true, sym, subst, ◌∙◌, arith, inl, inr}
use Rattle.std.proofs.lemmas.Bool.{cases_lt}
use Rattle.syntect_grammar_lists.specs.syntect_pattern_table.Starts.{is_in}
use Rattle.syntect_grammar_lists.specs.Rows.{bit_of}
use Rattle.syntect_grammar_lists.proofs.RowLaws.{in_ascii, lower_half, upper_half}
use Rattle.syntect_grammar_lists.proofs.rows.mark.Goals as goal

pub returns-clause-marks : goal.returns-clause-marks
returns-clause-marks c = λ x l e.
    let place : ℕ = (c.args.first + x) * c.args.words + c.args.index / 64 in
    let bit : ℕ = c.args.index % 64 in
    elim (cases_lt x 64) [
      | inl b ↦
          c.mark_one-2.ensures.others place bit (c.mark_one.ensures.others place bit (c.mark_half-2.ensures.others place bit
          (c.mark_half.ensures.marks x b (sym (lower_half c.args.places.ascii x b) ∙ in_ascii c.args.places x (omega (arith, b)) e))))
      | inr b ↦ elim (cases_lt x 128) [
        | inl a ↦
            (let same : c.args.first + 64 + (x - 64) ≡ c.args.first + x = omega (arith, b) in
            c.mark_one-2.ensures.others place bit (c.mark_one.ensures.others place bit
            (subst (λ (r : ℕ). bit_of c.mark_half-2.new.rows.items c.args.words r c.args.index ≡ true) same
            (c.mark_half-2.ensures.marks (x - 64) (omega (arith, a, b)) (sym (upper_half c.args.places.ascii x b) ∙ in_ascii c.args.places x a e)))))
        | inr a ↦ elim (cases_lt x 129) [
          | inl w ↦
              (let same : 128 ≡ x = omega (arith, a, w) in
              c.mark_one-2.ensures.others place bit
              (subst (λ (y : ℕ). bit_of c.mark_one.new.rows.items c.args.words (c.args.first + y) c.args.index ≡ true) same
              (c.mark_one.ensures.marks (subst (λ (y : ℕ). is_in c.args.places y ≡ true) (sym same) e))))
          | inr w ↦
              (let same : 129 ≡ x = omega (arith, l, w) in
              subst (λ (y : ℕ). bit_of c.mark_one-2.new.rows.items c.args.words (c.args.first + y) c.args.index ≡ true) same
              (c.mark_one-2.ensures.marks (subst (λ (y : ℕ). is_in c.args.places y ≡ true) (sym same) e)))
        ]
      ]
    ]
