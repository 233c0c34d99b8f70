-- Patterns that have a plan.
use Rattle.std.proofs.Common.{◌≡◌, ◌≤◌, ◌&&◌, nat_le, Bool, true, false, refl, sym, ap, ◌∙◌, arith, inl, inr}
use Rattle.std.proofs.lemmas.Bool.Decides.{nat_tests}
use Rattle.syntect_pattern_plan.specs.syntect_pattern.Trees.{Tree}
use Rattle.syntect_pattern_plan.specs.Onward.{is_free}
use Rattle.syntect_pattern_plan.specs.Plan.{IsEasy, IsHard, plan_cells}
use Rattle.syntect_pattern_plan.specs.Linear.{is_linear, most_cells}

and_false : (a : Bool) → (a && false) ≡ false
and_false true = refl
and_false false = refl

pub linear-hard : (t : Tree) → IsHard most_cells t → false ≡ is_linear t
linear-hard t (inl e) = sym (ap (λ (b : Bool). b && nat_le (plan_cells t) most_cells) e)
linear-hard t (inr l) =
    let over : nat_le (plan_cells t) most_cells ≡ false = grind (arith, nat_tests) in
    sym (ap (λ (b : Bool). is_free t && b) over ∙ and_false (is_free t))

pub linear-easy : (t : Tree) → IsEasy most_cells t → true ≡ is_linear t
linear-easy t h =
    let l : plan_cells t ≤ most_cells = h.few in
    let within : nat_le (plan_cells t) most_cells ≡ true = grind (arith, nat_tests) in
    sym (ap (λ (b : Bool). b && nat_le (plan_cells t) most_cells) h.free ∙ within)
