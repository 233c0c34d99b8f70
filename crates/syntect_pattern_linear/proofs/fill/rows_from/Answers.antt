use Rattle.std.proofs.Common.{◌≡◌, ◌≤◌, ◌*◌, ◌+◌, ◌-◌, ◌<◌, ℕ, suc, length, get_or, Option, List, None, ap, sym, subst, ◌∙◌, arith, ◌∷◌, [], length-append, mul-le-mul_left, true, false}
use Rattle.std.specs.Prelude.{IsCharBoundary, if◌then◌else◌}
use Rattle.syntect_pattern_linear.specs.syntect_pattern.Text.{is_boundary}
use Rattle.syntect_pattern_linear.specs.syntect_pattern_table.Program.{trees_of}
use Rattle.syntect_pattern_plan.specs.Cells.{ends}
use Rattle.syntect_pattern_linear.proofs.syntect_pattern_steps_proofs.BoundaryLaws.{true-boundary}
use Rattle.syntect_pattern_linear.specs.syntect_count.Meter.{Reading, Advances}
use Rattle.syntect_pattern_linear.proofs.syntect_count_proofs.MeterLaws.{advances-on}
use Rattle.syntect_pattern_linear.proofs.StepsLaws.{rows-cost, rows-least}
use Rattle.syntect_pattern_linear.proofs.RowLaws.{rows-push}
use Rattle.syntect_pattern_linear.proofs.fill.rows_from.Goals as goal
use Rattle.syntect_pattern_linear.proofs.fill.rows_from.Goals.{then-is_boundary+in_ok-pay_row+in_ok-row, else-is_boundary}

pub places-preserved : goal.places-preserved
places-preserved c =
    let s = c.args.text.now in
    let ts = trees_of c.args.program.now in
    let cells = c.args.plan.now.cells in
    let place : ℕ = c.args.begin + (c.places.left - 1) in
    let row = c.if-is_boundary.row in
    let here : IsCharBoundary s place → (k : ℕ) → k < length cells → get_or row k None ≡ ends s ts cells k place =
    λ b k i. elim c.if-is_boundary.branch [
      | then-is_boundary+in_ok-pay_row+in_ok-row w ↦ ap (λ (r : List (Option ℕ)). get_or r k None) w.row-is ∙ w.in_ok-row.ensures.ends k i
      | else-is_boundary w ↦ absurd (let t = true-boundary s place b in let f : false ≡ true = sym w.if-is_boundary.false ∙ c.is_boundary.ensures.value ∙ t in cc)
    ] in
    record {
      rows_are = rows-push s ts cells c.places.rows.items c.push.new.self.items row place c.in-Ok.ensures.items
          (omega (arith, c.places.invariant.there)) c.places.invariant.rows_are here;
      there = omega (arith, c.places.invariant.there, ap length c.in-Ok.ensures.items, length-append c.places.rows.items (row ∷ []));
      paid =
          let grown : length c.push.new.self.items ≡ length c.places.rows.items + 1 = ap length c.in-Ok.ensures.items ∙ length-append c.places.rows.items (row ∷ []) ∙ omega arith in
          let step : c.if-is_boundary.meter.made ≤ c.places.meter.made + 6 * length cells = elim c.if-is_boundary.branch [
            | then-is_boundary+in_ok-pay_row+in_ok-row w ↦ let a = ap (λ (v : Reading). v.made) w.meter-is in let b = w.in_ok-pay_row.ensures.made in let n = w.len.ensures in omega (arith, a, b, n)
            | else-is_boundary w ↦ let a = ap (λ (v : Reading). v.made) w.meter-is in omega (arith, a)
          ] in
          let cost = rows-cost (6 * length cells) (length c.places.rows.items) c.args.meter.now.made c.places.meter.made c.if-is_boundary.meter.made c.places.invariant.paid step in
          rw grown cost;
      counted =
          let grown : length c.push.new.self.items ≡ suc (length c.places.rows.items) = ap length c.in-Ok.ensures.items ∙ length-append c.places.rows.items (row ∷ []) ∙ omega arith in
          let least : c.places.meter.made + (if is_boundary s place then 2 * length cells else 0) ≤ c.if-is_boundary.meter.made = elim c.if-is_boundary.branch [
            | then-is_boundary+in_ok-pay_row+in_ok-row w ↦
                let a = ap (λ (v : Reading). v.made) w.meter-is in
                let b = w.in_ok-pay_row.ensures.made in
                let n = w.len.ensures in
                let e : is_boundary s place ≡ true = sym c.is_boundary.ensures.value ∙ w.if-is_boundary.true in
                rw e (omega (arith, a, b, n))
            | else-is_boundary w ↦
                let a = ap (λ (v : Reading). v.made) w.meter-is in
                let e : is_boundary s place ≡ false = sym c.is_boundary.ensures.value ∙ w.if-is_boundary.false in
                rw e (omega (arith, a))
          ] in
          let cost = rows-least s (2 * length cells) (length c.places.rows.items) place c.args.meter.now.made c.places.meter.made c.if-is_boundary.meter.made (omega (arith, c.places.invariant.there)) c.places.invariant.counted least in
          rw grown cost;
      advances = elim c.if-is_boundary.branch [
        | then-is_boundary+in_ok-pay_row+in_ok-row w ↦ subst (λ (r : Reading). Advances c.args.meter.now r) (sym w.meter-is) (advances-on c.args.meter.now c.places.meter w.pay_row.new.meter c.places.invariant.advances w.pay_row.ensures.advances)
        | else-is_boundary w ↦ subst (λ (r : Reading). Advances c.args.meter.now r) (sym w.meter-is) c.places.invariant.advances
      ];
    }

pub returns-clause-steps : goal.returns-clause-steps
returns-clause-steps c =
    let within : length c.places.rows.items ≤ length c.args.text.now + 1 = omega (arith, c.places.invariant.there) in
    let most = mul-le-mul_left (6 * length c.args.plan.now.cells) within in
    omega (arith, c.places.invariant.paid, most)

pub returns-in_err-pay_row-clause-advances : goal.returns-in_err-pay_row-clause-advances
returns-in_err-pay_row-clause-advances c =
    advances-on c.args.meter.now c.places.meter c.pay_row.new.meter c.places.invariant.advances c.pay_row.ensures.advances
