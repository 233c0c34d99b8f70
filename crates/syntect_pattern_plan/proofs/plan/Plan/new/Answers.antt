use Rattle.std.specs.Prelude.{not}
use Rattle.std.proofs.Common.{Bool, true, false, refl, ◌≡◌, ◌+◌, ◌∷◌, ◌++◌, [], List, length, length-append, ap, subst, sym, ◌∙◌, arith, ℕ, get_or, inr}
use Rattle.syntect_pattern_plan.specs.syntect_pattern_table.Program.{trees_of}
use Rattle.syntect_pattern_plan.specs.syntect_pattern_table.Table.{trees}
use Rattle.syntect_pattern_plan.specs.syntect_pattern_table.declared.node.Node.{Node}
use Rattle.syntect_pattern_plan.specs.Facts.{AreFacts, facts_at}
use Rattle.syntect_pattern_plan.specs.Plan.{plan_cells}
use Rattle.syntect_pattern_plan.specs.Build.{Expands}
use Rattle.syntect_pattern_plan.specs.syntect_pattern.Trees.{nothing}
use Rattle.syntect_pattern_plan.specs.declared.cells.Parts.{Parts}
use Rattle.syntect_pattern_plan.specs.declared.facts.Facts.{Facts}
use Rattle.syntect_pattern_plan.proofs.PlanLaws.{Counts, counts-begin, counts-more, counts-most, counts-all, planned-more}
use Rattle.syntect_pattern_plan.proofs.LinearLaws.{linear-hard, linear-easy}
use Rattle.syntect_pattern_plan.proofs.plan.Plan.new.Goals as goal

not-false : (b : Bool) → not b ≡ false → b ≡ true
not-false true e = refl
not-false false e = cc

pub cells-init : goal.cells-init
cells-init c = record {
  facts_are = c.in_ok-plan.ensures.facts;
  built = c.in_ok-plan.ensures.built;
  planned = c.in_ok-plan.ensures.planned;
  order = omega (arith, ap length c.in_ok-plan.ensures.none);
  few = λ e. let z : length c.in_ok-plan.plan.parts ≡ 0 = ap length c.in_ok-plan.ensures.none in let o = c.in_ok-plan.ensures.planned.cells_are.some in absurd (omega arith);
  free = sym (ap (λ (f : Facts). f.free) (c.facts_at.ensures ∙ ap (λ l. facts_at l c.args.program.now.root) c.as_slice-2.ensures ∙ subst (λ (ns : List Node). AreFacts c.in_ok-facts.facts (trees ns)) c.as_slice.ensures c.in_ok-facts.ensures c.args.program.now.root)) ∙ not-false c.facts_at.result.free c.if-not-facts_at.false;
  counts =
      let n : ℕ = length c.in_ok-plan.plan.parts in
      let zero_parts : length c.in_ok-plan.plan.parts ≡ 0 = ap length c.in_ok-plan.ensures.none in
      subst (λ (k : ℕ). Counts (trees_of c.args.program.now) c.in_ok-plan.plan.cells k (plan_cells (get_or (trees_of c.args.program.now) c.args.program.now.root nothing)))
      (sym zero_parts) (counts-begin (trees_of c.args.program.now) c.in_ok-plan.plan.cells _ c.in_ok-plan.ensures.cost);
  paid = omega (arith, ap length c.in_ok-plan.ensures.none);
}

pub cells-preserved : goal.cells-preserved
cells-preserved c =
    let ts = trees_of c.args.program.now in
    let old = c.cells.plan in
    let new = c.expand.new.self in
    let number : c.len-number.result ≡ length old.parts = c.len-number.ensures in
    let step : Expands ts old.cells old.behinds (length old.parts) c.in_ok-parts.parts new.cells new.behinds =
    subst (λ k. Expands ts old.cells old.behinds k c.in_ok-parts.parts new.cells new.behinds) number c.in_ok-parts.ensures.step in
    let all : c.push.new.self ≡ old.parts ++ c.in_ok-parts.parts ∷ [] = c.in_ok-push.ensures.ok ∙ ap (λ (ps : List Parts). ps ++ c.in_ok-parts.parts ∷ []) c.in_ok-parts.ensures.parts in
    record {
      facts_are = subst (λ (fs : List Facts). AreFacts fs ts) (sym c.in_ok-parts.ensures.facts) c.cells.invariant.facts_are;
      built = step.extends.built;
      planned = planned-more ts old.cells new.cells old.parts c.push.new.self c.in_ok-parts.parts old.behinds new.behinds c.args.program.now.root c.cells.invariant.planned (omega arith) step all;
      few = λ e.
          let g = step.extends.grows.longer in
          let m = ap length all in
          let a = length-append old.parts (c.in_ok-parts.parts ∷ []) in
          omega (arith, e, g, m, a, c.cells-test.true, c.len.ensures, c.len-in-cells.ensures, c.if-len-gt-MOST_CELLS.false, c.len-in-cells-2.ensures);
      free = c.cells.invariant.free;
      counts =
          let long : length c.push.new.self ≡ length old.parts + 1 = ap length all ∙ length-append old.parts (c.in_ok-parts.parts ∷ []) ∙ omega arith in
          subst (λ (k : ℕ). Counts ts new.cells k (plan_cells (get_or ts c.args.program.now.root nothing))) (sym long)
          (counts-more ts old.cells new.cells old.behinds new.behinds (length old.parts) _ c.in_ok-parts.parts (omega arith) step c.cells.invariant.counts);
      paid = omega (arith, c.tick.ensures, c.cells.invariant.paid, ap length all, length-append old.parts (c.in_ok-parts.parts ∷ []));
      order = omega (arith, ap length all, length-append old.parts (c.in_ok-parts.parts ∷ []), step.extends.grows.longer);
    }

pub returns-then-len-gt-MOST_CELLS-clause-none : goal.returns-then-len-gt-MOST_CELLS-clause-none
returns-then-len-gt-MOST_CELLS-clause-none c =
    let i = c.cells.invariant in
    let m = counts-most (trees_of c.args.program.now) c.cells.plan.cells (length c.cells.plan.parts) _ i.order i.counts in
    inr (omega (arith, m, c.if-len-gt-MOST_CELLS.true, c.len-in-cells-2.ensures))

pub returns-clause-count : goal.returns-clause-count
returns-clause-count c =
    let i = c.cells.invariant in
    let ts = trees_of c.args.program.now in
    let total : ℕ = plan_cells (get_or ts c.args.program.now.root nothing) in
    let over : length c.cells.plan.parts ≡ length c.cells.plan.cells = omega (arith, i.order, c.cells-test.false, c.len.ensures, c.len-in-cells.ensures) in
    counts-all ts c.cells.plan.cells total (subst (λ (k : ℕ). Counts ts c.cells.plan.cells k total) over i.counts)

pub returns-clause-easy : goal.returns-clause-easy
returns-clause-easy c =
    let i = c.cells.invariant in
    let ts = trees_of c.args.program.now in
    let total : ℕ = plan_cells (get_or ts c.args.program.now.root nothing) in
    let over : length c.cells.plan.parts ≡ length c.cells.plan.cells = omega (arith, i.order, c.cells-test.false, c.len.ensures, c.len-in-cells.ensures) in
    let all = counts-all ts c.cells.plan.cells total (subst (λ (k : ℕ). Counts ts c.cells.plan.cells k total) over i.counts) in
    let few = i.few over in
    record { free = i.free; few = omega (arith, all, few) }

pub returns-then-len-gt-MOST_CELLS-clause-linear : goal.returns-then-len-gt-MOST_CELLS-clause-linear
returns-then-len-gt-MOST_CELLS-clause-linear c = linear-hard _ (returns-then-len-gt-MOST_CELLS-clause-none c)

pub returns-clause-linear : goal.returns-clause-linear
returns-clause-linear c = linear-easy _ (returns-clause-easy c)

pub returns-then-len-gt-MOST_CELLS-clause-steps : goal.returns-then-len-gt-MOST_CELLS-clause-steps
returns-then-len-gt-MOST_CELLS-clause-steps c =
    let i = c.cells.invariant in
    let m = counts-most (trees_of c.args.program.now) c.cells.plan.cells (length c.cells.plan.parts) _ i.order i.counts in
    omega (arith, m, i.order, i.paid)

pub returns-clause-steps : goal.returns-clause-steps
returns-clause-steps c =
    let i = c.cells.invariant in
    let m = counts-most (trees_of c.args.program.now) c.cells.plan.cells (length c.cells.plan.parts) _ i.order i.counts in
    omega (arith, m, i.order, i.paid)
