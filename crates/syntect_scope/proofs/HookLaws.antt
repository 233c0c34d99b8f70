-- Calls of a hook, one after another.
use Rattle.std.proofs.Common.{◌≡◌, ℕ, suc, ◌+◌, ◌-◌, ◌<◌, List, [], ◌∷◌, ◌++◌, length, take, drop, replicate, ap, sym, ◌∙◌, subst, arith, get_or, add-one, Result, Ok, Err, OnOk, OnErr, is_ok, if◌then◌else◌, Bor}
use Rattle.std.proofs.Math.Seq.{drop-cons, take-suc}
use Rattle.std.proofs.lemmas.List.{length-take}
use Rattle.std.specs.Fn.{Mut, Called}
use Rattle.std.specs.List.{FoldsTo}
use Rattle.syntect_scope.specs.Hook.{Hears, removals, additions}
use Rattle.syntect_scope.specs.declared.stack.BasicScopeStackOp.{BasicScopeStackOp}
use Rattle.syntect_scope.specs.declared.stack.BasicScopeStackOp.TheVariants.{Push as Added, Pop as Removed}

module _ {F : Type 0} (g : Mut F (BasicScopeStackOp × (Bor (List (List ℕ)) × Unit {0})) (Unit {0})) where
  -- a call with a reference
  pub hears : (f mid : F) (what : BasicScopeStackOp) (shown : Bor (List (List ℕ))) (scopes : List (List ℕ)) → shown.now ≡ scopes → Called g f (what, (shown, tt)) tt mid → Hears g f (what, scopes) mid
  hears f mid what shown scopes e k = record { shown = shown; shows = e; called = k }

  pub removed_first : (keep : ℕ) (scopes new : List (List ℕ)) (f mid last : F) → new ≡ take (length scopes - 1) scopes → keep < length scopes → Hears g f (Removed, new) mid
      → FoldsTo (Hears g) mid (removals (length new - keep) new) last → FoldsTo (Hears g) f (removals (length scopes - keep) scopes) last
  removed_first keep scopes new f mid last e h k told =
      let n : length scopes - keep ≡ suc (length new - keep) = omega (arith, ap length e, length-take {A = List ℕ} (length scopes - 1) scopes, h) in
      rw n (subst (λ (l : List (List ℕ)). FoldsTo (Hears g) f ((Removed, l) ∷ removals (length new - keep) l) last) e (mid, k, told))

  pub cleared_first : (count n : ℕ) (call : BasicScopeStackOp × List (List ℕ)) (f mid last : F) → n < count → Hears g f call mid
      → FoldsTo (Hears g) mid (replicate (count - (n + 1)) call) last → FoldsTo (Hears g) f (replicate (count - n) call) last
  cleared_first count n call f mid last h k told =
      let m : count - n ≡ suc (count - (n + 1)) = omega (arith, h) in
      rw m (mid, k, told)

  pub added_first : (scopes : List (List ℕ)) (n : ℕ) (d : List ℕ) (f mid last : F) → n < length scopes → Hears g f (Added (get_or scopes n d), take (n + 1) scopes) mid
      → FoldsTo (Hears g) mid (additions (take (n + 1) scopes) (drop (n + 1) scopes)) last → FoldsTo (Hears g) f (additions (take n scopes) (drop n scopes)) last
  added_first scopes n d f mid last h k told =
      let t : take (n + 1) scopes ≡ take n scopes ++ get_or scopes n d ∷ [] = ap (λ (m : ℕ). take m scopes) (add-one n) ∙ take-suc scopes n d h in
      let r : drop n scopes ≡ get_or scopes n d ∷ drop (n + 1) scopes = drop-cons scopes n d h ∙ ap (λ (m : ℕ). get_or scopes n d ∷ drop m scopes) (sym (add-one n)) in
      let whole : FoldsTo (Hears g) f (additions (take n scopes) (get_or scopes n d ∷ drop (n + 1) scopes)) last =
      subst (λ (l : List (List ℕ)). FoldsTo (Hears g) f ((Added (get_or scopes n d), l) ∷ additions l (drop (n + 1) scopes)) last) t (mid, k, told) in
      rw r whole

  -- a refusal calls nothing
  pub told_or_not : {E : Type 0} (f last : F) (calls : List (BasicScopeStackOp × List (List ℕ))) (result : Result (Unit {0}) E) → OnOk result (FoldsTo (Hears g) f calls last) → OnErr result (last ≡ f)
      → FoldsTo (Hears g) f (if is_ok result then calls else []) last
  told_or_not f last calls (Ok x) h e = h
  told_or_not f last calls (Err x) h e = sym e
