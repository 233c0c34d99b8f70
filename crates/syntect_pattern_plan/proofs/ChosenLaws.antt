-- A member that is chosen.
use Rattle.std.proofs.Common.{◌≡◌, ℕ, List, [], ◌∷◌, Bool, true, false, Option, Some, None, refl, sym, ap, subst, ◌∙◌}
use Rattle.std.specs.Prelude.{if◌then◌else◌, is_some}
use Rattle.syntect_pattern_plan.specs.syntect_pattern.Matches.{Member}
use Rattle.syntect_pattern_plan.proofs.syntect_pattern_proofs.Each.{Each}
use Rattle.syntect_pattern_plan.specs.Onward.{Onward, chosen, end_if}

-- a member that is chosen leads on
pub chosen-leads : (F : Onward) (ms : List Member) (m : Member) → chosen F ms ≡ Some m → is_some (F m.0) ≡ true
chosen-leads F [] m e = cc
chosen-leads F (x ∷ ms) m e = by (chosen-leads F ms m) (F x.0) refl e
  where
    by : (chosen F ms ≡ Some m → is_some (F m.0) ≡ true) → (o : Option ℕ) → F x.0 ≡ o → (if is_some o then Some x else chosen F ms) ≡ Some m → is_some (F m.0) ≡ true
    by more None f e = more e
    by more (Some v) f e = let same : x ≡ m = cc in ap is_some (ap (λ (y : Member). F y.0) (sym same) ∙ f)

-- what is so of each member is so of it
pub chosen-each : (P : Member → Type 0) (F : Onward) (ms : List Member) (m : Member) → Each P ms → chosen F ms ≡ Some m → P m
chosen-each P F [] m e q = absurd cc
chosen-each P F (y ∷ ms) m e q = by (chosen-each P F ms m e.1) (is_some (F y.0)) q
  where
    by : (chosen F ms ≡ Some m → P m) → (b : Bool) → (if b then Some y else chosen F ms) ≡ Some m → P m
    by more true q = let same : y ≡ m = cc in subst P same e.0
    by more false q = more q

-- an end under a test
pub if-some : (b : Bool) (o : Option ℕ) → is_some (end_if b o) ≡ true → (b ≡ true) × (is_some o ≡ true)
if-some true o e = (refl, e)
if-some false o e = absurd cc
