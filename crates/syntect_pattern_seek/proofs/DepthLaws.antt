-- Plans that are kept.
use Rattle.std.proofs.Common.{◌≡◌, ℕ, zero, suc, [], ◌∷◌, ◌++◌, ◌+◌, ◌*◌, ◌≤◌, List, Bool, true, false, Option, Some, None, refl, sym, ap, ◌∙◌, subst, arith, mul-le-mul_right}
use Rattle.std.specs.Prelude.{IfSome, IfNone, OnOk, Result, Ok, Err, string_bytes}
use Rattle.syntect_pattern_seek.specs.syntect_pattern.Trees.{Tree, group}
use Rattle.syntect_pattern_seek.specs.syntect_pattern.Matches.{Groups, found_at}
use Rattle.syntect_pattern_seek.specs.syntect_pattern.Pattern.{pattern_tree}
use Rattle.syntect_pattern_compile.specs.Compiled.{IsCompiled}
use Rattle.syntect_pattern_seek.specs.syntect_pattern_table.Program.{IsProgramOf}
use Rattle.syntect_pattern_seek.specs.syntect_pattern_table.declared.program.Program.{Program}
use Rattle.syntect_pattern_linear.specs.Finds as planned
use Rattle.syntect_pattern_linear.specs.Finds.{FindsAt}
use Rattle.syntect_pattern_backtrack.specs.Machine as engine
use Rattle.syntect_pattern_backtrack.specs.declared.state.Search.{Search}
use Rattle.syntect_pattern_linear.specs.Guide.{IsGuideIn}
use Rattle.syntect_pattern_linear.specs.declared.find.Guide.{Guide}
use Rattle.syntect_pattern_linear.specs.Linear.{planned_steps}
use Rattle.syntect_pattern_linear.specs.Steps.{step_weight}
use Rattle.syntect_pattern_seek.specs.syntect_pattern_plan.Linear.{is_linear}
use Rattle.syntect_pattern_seek.specs.syntect_pattern_plan.Order.{in_64_bits}
use Rattle.syntect_pattern_seek.specs.syntect_pattern_plan.Passes.{passes}
use Rattle.syntect_pattern_seek.specs.syntect_pattern_plan.Plan.{plan_cells}
use Rattle.syntect_pattern_seek.specs.Bounds.{root_tree}
use Rattle.syntect_pattern_seek.specs.Depths.{AreDepthsIn, IsDepthOf, StandsFor}
use Rattle.syntect_pattern_seek.specs.declared.depths.Depth.{Depth}

-- a program has one tree
pub one-tree : (p : Program) (a b : Tree) → IsProgramOf p a → IsProgramOf p b → a ≡ b
one-tree p a b h i = let e : group 0 a ≡ group 0 b = sym h.root ∙ i.root in cc

-- a pattern has one tree
pub read-tree : (pattern : List ℕ) (a b : Tree) → pattern_tree pattern ≡ Some a → pattern_tree pattern ≡ Some b → a ≡ b
read-tree pattern a b h i = let e : Some a ≡ Some b = sym h ∙ i in cc

-- what the plan finds is what each program of the pattern finds
pub found-by : (s pattern : List ℕ) (p q : Program) (place : ℕ) (groups : Option Groups) → IsCompiled pattern p → ((tree : Tree) → pattern_tree pattern ≡ Some tree → IsProgramOf q tree)
    → FindsAt s q place groups → FindsAt s p place groups
found-by s pattern p q place groups is stands h = λ tree t.
    let e : is.tree ≡ tree = one-tree p is.tree tree is.program t in
    subst (λ (u : Tree). groups ≡ found_at s u place) e (h is.tree (stands is.tree is.reads))

-- and their trees are one
pub root-by : (pattern : List ℕ) (p q : Program) → IsCompiled pattern p → ((tree : Tree) → pattern_tree pattern ≡ Some tree → IsProgramOf q tree) → root_tree q ≡ root_tree p
root-by pattern p q is stands = (stands is.tree is.reads).root ∙ sym is.program.root

-- a plan that was made of a program
pub kept-guide : (s pattern : List ℕ) (p : Program) (d : Depth) (g : Guide) → d.guide ≡ Some g → IsCompiled pattern p → StandsFor p g.program → IsGuideIn s g → IsDepthOf s pattern d
kept-guide s pattern p d g e is stands guides =
    let reads : (tree : Tree) → pattern_tree pattern ≡ Some tree → IsProgramOf g.program tree =
    λ tree r. subst (λ (t : Tree). IsProgramOf g.program t) (read-tree pattern is.tree tree is.reads r) (stands is.tree is.program) in
    let o : (x : Option Guide) → x ≡ Some g → IfSome x (λ h. IsGuideIn s h) × IfSome x (λ h. (tree : Tree) → pattern_tree pattern ≡ Some tree → IsProgramOf h.program tree)
    × IfNone x ((tree : Tree) → pattern_tree pattern ≡ Some tree → is_linear (group 0 tree) ≡ false) = λ x q.
    subst (λ (x : Option Guide). IfSome x (λ h. IsGuideIn s h) × IfSome x (λ h. (tree : Tree) → pattern_tree pattern ≡ Some tree → IsProgramOf h.program tree)
    × IfNone x ((tree : Tree) → pattern_tree pattern ≡ Some tree → is_linear (group 0 tree) ≡ false)) (sym q) (guides, reads, tt) in
    let all = o d.guide e in
    record { guides = all.0; program = all.1; hard = all.2 }

-- that there is none
pub kept-none : (s pattern : List ℕ) (p : Program) (d : Depth) → d.guide ≡ None → IsCompiled pattern p → is_linear (root_tree p) ≡ false → IsDepthOf s pattern d
kept-none s pattern p d e is hard =
    let reads : (tree : Tree) → pattern_tree pattern ≡ Some tree → is_linear (group 0 tree) ≡ false =
    λ tree r. ap is_linear (sym (ap (group 0) (read-tree pattern is.tree tree is.reads r)) ∙ sym is.program.root) ∙ hard in
    record {
      guides = subst (λ (x : Option Guide). IfSome x (λ h. IsGuideIn s h)) (sym e) tt;
      program = subst (λ (x : Option Guide). IfSome x (λ h. (tree : Tree) → pattern_tree pattern ≡ Some tree → IsProgramOf h.program tree)) (sym e) tt;
      hard = subst (λ (x : Option Guide). IfNone x ((tree : Tree) → pattern_tree pattern ≡ Some tree → is_linear (group 0 tree) ≡ false)) (sym e) reads;
    }

-- the marks and the walk together
pub weighed : (cells walk long before marked after : ℕ) → marked ≤ before + 7 * cells * long → after ≤ marked + walk * long → after ≤ before + (7 * cells + walk) * long
weighed cells walk long before marked after m w =
    let d : (7 * cells + walk) * long ≡ 7 * cells * long + walk * long = grind arith in
    omega (arith, m, w, d)

spread : (a b k : ℕ) → (a + b) * k ≡ a * k + b * k
spread a b k = grind arith

-- the plan, the passes for its lookbehinds, and the search by it together
pub all-planned : (t u : Tree) (cells long before guided after : ℕ) → cells ≡ plan_cells t → u ≡ t → guided ≤ before + plan_cells t + passes t * (long + 1)
    → after ≤ guided + step_weight cells u * (long + 1) → after ≤ before + planned_steps t long
all-planned t u cells long before guided after e f g h =
    let one : after ≤ guided + step_weight (plan_cells t) u * (long + 1) = subst (λ (n : ℕ). after ≤ guided + step_weight n u * (long + 1)) e h in
    let both : after ≤ guided + step_weight (plan_cells t) t * (long + 1) = subst (λ (v : Tree). after ≤ guided + step_weight (plan_cells t) v * (long + 1)) f one in
    let d = spread (step_weight (plan_cells t) t) (passes t) (long + 1) in
    omega (arith, g, both, d)

-- passes that are counted as far as 64 bits hold their number
pub few-passes : (n m k steps : ℕ) → m ≡ in_64_bits n → steps ≤ m * k → steps ≤ n * k
unfolding in_64_bits
few-passes n m k steps e h =
    let few : m ≤ n = omega (arith, e) in
    let all = mul-le-mul_right k few in
    omega (arith, h, all)

-- what is so anyhow is so of an answer
pub on_ok-any : {V E : Type 0} (r : Result V E) (P : Type 0) → P → OnOk r P
on_ok-any (Ok v) P h = h
on_ok-any (Err e) P h = tt

pub on_ok-map : {V E : Type 0} (r : Result V E) (P Q : Type 0) → (P → Q) → OnOk r P → OnOk r Q
on_ok-map (Ok v) P Q f h = f h
on_ok-map (Err e) P Q f h = h

pub if_none-is : {A : Type 0} (o : Option A) (P : Type 0) → IfNone o P → ((v : A) → o ≡ Some v → ⊥) → P
if_none-is None P h n = h
if_none-is (Some v) P h n = absurd (n v refl)

-- a pattern that is not linear has no bound
pub unbounded : (pattern : List ℕ) (p : Program) (tree : Tree) → IsCompiled pattern p → pattern_tree pattern ≡ Some tree → is_linear (group 0 tree) ≡ false → is_linear (root_tree p) ≡ false
unbounded pattern p tree is r h = ap is_linear (is.program.root ∙ ap (group 0) (read-tree pattern is.tree tree is.reads r)) ∙ h

-- what the plan finds at a place
pub planned-here : (s : List ℕ) (p q : Program) (place : ℕ) (b : Bool) (x : Search) → StandsFor p q → FindsAt s q place (planned.groups_of b x.groups.items) → engine.FindsAt s p place (engine.groups_of b x)
planned-here s p q place true x stands h = λ tree is. h tree (stands tree is)
planned-here s p q place false x stands h = λ tree is. h tree (stands tree is)

-- one more is kept
pub one-more : (s : List ℕ) (ds : List Depth) (d : Depth) → AreDepthsIn s ds → IsDepthOf s (string_bytes d.pattern) d → AreDepthsIn s (ds ++ d ∷ [])
one-more s [] d h one zero e l = one
one-more s [] d h one (suc k) e l = absurd (omega (arith, l))
one-more s (x ∷ ds) d h one zero e l = h zero e (omega arith)
one-more s (x ∷ ds) d h one (suc k) e l = one-more s ds d (λ j f m. h (suc j) f (omega (arith, m))) one k e (omega (arith, l))
