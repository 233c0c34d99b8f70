-- When two stacks are found to be equal.
use Rattle.std.proofs.Common.{◌≡◌, ℕ, Bool, true, ◌&&◌, List, refl, ap, sym, ◌∙◌}
use Rattle.std.specs.Prelude.{nat_eq}
use Rattle.std.specs.Bool.{Decides}
use Rattle.std.specs.Cmp.{unsigned_Decides}
use Rattle.std.specs.Cmp.Lexicographic.{pointwise}
use Rattle.std.proofs.lemmas.Bool.{and_parts, and_from}
use Rattle.std.proofs.lemmas.Slice.Eq.{slice_eq-Decides}
use Rattle.syntect_style.specs.syntect_scope.declared.stack.ScopeStack.{ScopeStack}

scope_decides : (a b : List ℕ) → Decides (pointwise nat_eq a b) (a ≡ b)
scope_decides a b = slice_eq-Decides unsigned_Decides a b (pointwise nat_eq a b) refl

-- two scopes that are found to be equal are
pub same_scope : (a b : List ℕ) (r : Bool) → r ≡ pointwise nat_eq a b → r ≡ true → a ≡ b
same_scope a b r e t = (scope_decides a b).0 (sym e ∙ t)

scopes_decide : (a b : List (List ℕ)) → Decides (pointwise (pointwise nat_eq) a b) (a ≡ b)
scopes_decide a b = slice_eq-Decides scope_decides a b (pointwise (pointwise nat_eq) a b) refl

cleared_decide : (a b : List (List (List ℕ))) → Decides (pointwise (pointwise (pointwise nat_eq)) a b) (a ≡ b)
cleared_decide a b = slice_eq-Decides scopes_decide a b (pointwise (pointwise (pointwise nat_eq)) a b) refl

same_stack : (a b : ScopeStack) → a.clear_stack ≡ b.clear_stack → a.scopes ≡ b.scopes → a ≡ b
same_stack a b e f = rw (e, f) refl

pub stacks_decide : (a b : ScopeStack) (r : Bool) → r ≡ (pointwise (pointwise (pointwise nat_eq)) a.clear_stack b.clear_stack && pointwise (pointwise nat_eq) a.scopes b.scopes) → Decides r (a ≡ b)
stacks_decide a b r e = (
  λ t.
      let k = and_parts _ _ (sym e ∙ t) in
      same_stack a b ((cleared_decide a.clear_stack b.clear_stack).0 k.0) ((scopes_decide a.scopes b.scopes).0 k.1),
  λ q. e ∙ and_from _ _ ((cleared_decide a.clear_stack b.clear_stack).1 (ap (λ (s : ScopeStack). s.clear_stack) q)) ((scopes_decide a.scopes b.scopes).1 (ap (λ (s : ScopeStack). s.scopes) q)),
)
