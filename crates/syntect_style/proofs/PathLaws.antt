-- What a state keeps is about lower parts of its stack, whatever operation is applied.
use Rattle.std.proofs.Common.{◌≡◌, ℕ, zero, suc, ◌-◌, ◌≤◌, min, List, [], ◌∷◌, ◌++◌, length, take, refl, sym, ap, subst, ◌∙◌, arith}
use Rattle.std.specs.Prelude.{unwrap_or}
use Rattle.std.specs.List.{slice_get}
use Rattle.std.proofs.lemmas.List.{length-take}
use Rattle.syntect_style.specs.syntect_scope.Stack.{applied, kept}
use Rattle.syntect_style.specs.syntect_scope.declared.stack.ScopeStack.{ScopeStack}
use Rattle.syntect_style.specs.syntect_scope.declared.stack.ScopeStackOp.{ScopeStackOp}
use Rattle.syntect_style.specs.syntect_scope.declared.stack.ScopeStackOp.TheVariants.{Push, Pop, Clear, Restore, Noop}
use Rattle.syntect_style.specs.Kept.{scopes_of}
use Rattle.syntect_style.specs.Pieces.{KeepsTrueStyles}
use Rattle.syntect_style.proofs.KeptLaws.{length_scopes, front_of_front}
use Rattle.syntect_theme.specs.declared.theme.Theme.{Theme}
use Rattle.syntect_style.specs.declared.state.HighlightState.{HighlightState}

front_of_more : (m : ℕ) (xs ys : List (List ℕ)) → m ≤ length xs → take m (xs ++ ys) ≡ take m xs
front_of_more zero xs ys l = refl
front_of_more (suc m) [] ys l = absurd (omega arith)
front_of_more (suc m) (x ∷ xs) ys l = ap (λ s. x ∷ s) (front_of_more m xs ys (omega arith))

front_of_less : (m n : ℕ) (xs : List (List ℕ)) → m ≤ length (take n xs) → take m (take n xs) ≡ take m xs
front_of_less m n xs l = front_of_front m n xs (omega (arith, length-take n xs))

-- an operation leaves the lower part of a stack
front_stays : (op : ScopeStackOp) (s : ScopeStack) (m : ℕ) → m ≤ length s.scopes → m ≤ length (applied op s).scopes → take m (applied op s).scopes ≡ take m s.scopes
front_stays (Push scope) s m l k = front_of_more m s.scopes (scope ∷ []) l
front_stays (Pop count) s m l k = front_of_less m (length s.scopes - count) s.scopes k
front_stays (Clear amount) s m l k = front_of_less m (kept amount s) s.scopes k
front_stays Restore s m l k = front_of_more m s.scopes (unwrap_or (slice_get s.clear_stack (length s.clear_stack - 1)) []) l
front_stays Noop s m l k = refl

-- as many scopes as are said to be there
front_within : (xs ys : List (List ℕ)) (n : ℕ) → n ≤ length xs → take n xs ≡ take n ys → n ≤ length ys
front_within xs ys n l e = omega (arith, length-take n xs, length-take n ys, ap length e)

pub keeps_applied : (theme : Theme) (s t : HighlightState) (op : ScopeStackOp) → t.path ≡ applied op s.path → t.kept ≡ s.kept → t.fits ≡ min s.fits (length t.path.scopes) → KeepsTrueStyles theme s → KeepsTrueStyles theme t
keeps_applied theme s t op p k f h =
    let w : s.fits ≤ length (scopes_of s.kept) = omega (arith, length_scopes s.kept, h.within) in
    let on : s.fits ≤ length s.path.scopes = front_within (scopes_of s.kept) s.path.scopes s.fits w h.on_path in
    let low : t.fits ≤ s.fits = omega arith in
    let new : t.fits ≤ length t.path.scopes = omega arith in
    record {
      known = rw k h.known;
      within = rw k (omega (arith, h.within));
      on_path = rw k (sym (front_of_front t.fits s.fits (scopes_of s.kept) low) ∙ ap (take t.fits) h.on_path ∙ front_of_front t.fits s.fits s.path.scopes low
          ∙ sym (ap (λ (x : ScopeStack). take t.fits x.scopes) p ∙ front_stays op s.path t.fits (omega arith) (subst (λ (x : ScopeStack). t.fits ≤ length x.scopes) p new)));
    }
