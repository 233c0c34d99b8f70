use Rattle.std.proofs.Common.{◌≡◌, ℕ, Bool, List, ap, sym, ◌∙◌, arith, get_or, subst, true, false, length, length-append, ◌∷◌, [], arith}
use Rattle.syntect_pattern_plan.specs.syntect_pattern.Trees.{Tree, nothing}
use Rattle.syntect_pattern_plan.specs.syntect_pattern_table.Program.{trees_of}
use Rattle.syntect_pattern_plan.specs.Onward.{plain}
use Rattle.syntect_pattern_plan.specs.Facts.{facts_at}
use Rattle.syntect_pattern_plan.specs.Sights.{IsImage, flag_of, ends_here}
use Rattle.syntect_pattern_plan.specs.declared.facts.Facts.{Facts}
use Rattle.syntect_pattern_steps.proofs.BoundaryLaws.{boundary-true}
use Rattle.syntect_pattern_plan.proofs.SightLaws.{sight-is, sights-more}
use Rattle.syntect_pattern_plan.proofs.sight.sights_of.Goals as goal
use Rattle.syntect_pattern_plan.proofs.sight.sights_of.Goals.{then-facts_at+in_ok-row, else-facts_at}

pub past-requires-clause-bounds : goal.past-requires-clause-bounds
past-requires-clause-bounds c = λ q e.
    boundary-true c.args.text.now q (sym (c.in_ok-starts.ensures q) ∙ ap (λ (l : List Bool). flag_of l q) (sym c.as_slice-then-facts_at.ensures.value) ∙ e)

pub loop-node-preserved : goal.loop-node-preserved
loop-node-preserved c =
    let s = c.args.text.now in
    let ts = trees_of c.args.program.now in
    let behinds = c.args.plan.now.behinds in
    let i = c.loop-node.node-index in
    let node : ℕ = get_or c.as_slice-node-items.result.now i 0 in
    let tree : Tree = get_or ts (get_or behinds i 0) nothing in
    let is : node ≡ get_or behinds i 0 = ap (λ (l : List ℕ). get_or l i 0) c.as_slice-node-items.ensures in
    let known : c.facts_at.result.plain ≡ plain tree =
    ap (λ (f : Facts). f.plain) (c.facts_at.ensures ∙ ap (λ l. facts_at l node) c.as_slice.ensures ∙ ap (facts_at c.args.plan.now.facts) is ∙ c.requires.facts_are (get_or behinds i 0)) in
    let row : c.from_vec.result ≡ c.if-facts_at.row.items = c.from_vec.ensures in
    let here : plain tree ≡ true → (p : ℕ) → flag_of c.from_vec.result p ≡ ends_here s tree p =
    λ f p. elim c.if-facts_at.branch [
      | then-facts_at+in_ok-row w ↦
          let starts = c.in_ok-starts.starts.items in
          let image : IsImage s tree starts w.in_ok-row.row.items =
          subst (λ (n : ℕ). IsImage s (get_or ts n nothing) starts w.in_ok-row.row.items) is
          (subst (λ (b : List Bool). IsImage s (get_or ts node nothing) b w.in_ok-row.row.items) w.as_slice-then-facts_at.ensures.value w.in_ok-row.ensures) in
          ap (λ (l : List Bool). flag_of l p) (row ∙ ap (λ v. v.items) w.row-is)
          ∙ sight-is s c.utf8.text tree starts w.in_ok-row.row.items c.in_ok-starts.ensures image p
      | else-facts_at w ↦ absurd (let z : true ≡ false = sym f ∙ sym known ∙ w.if-facts_at.false in cc)
    ] in
    record {
      count = omega (arith, c.loop-node.invariant.count, ap length c.in_ok-push.ensures.items, length-append c.loop-node.sights.items (c.from_vec.result ∷ []));
      right = sights-more s ts behinds c.loop-node.sights.items c.push.new.self.items c.from_vec.result i c.in_ok-push.ensures.items c.loop-node.invariant.count
          c.loop-node.invariant.right here;
    }
