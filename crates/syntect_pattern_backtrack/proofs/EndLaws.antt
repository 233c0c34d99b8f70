-- Steps after which a search may be over.
use Rattle.std.proofs.Common.{◌≡◌, ℕ, List, [], refl, sym, ◌∙◌, ap, Some, None, reverse}
use Rattle.std.specs.Prelude.{Option, Result, Ok, Err, IfOk, IfSome, IfNone, IsSome}
use Rattle.syntect_pattern_backtrack.specs.syntect_pattern.Trees.{Tree}
use Rattle.syntect_pattern_backtrack.specs.declared.state.Next.{Next}
use Rattle.syntect_pattern_backtrack.specs.declared.state.Search.{Search}
use Rattle.syntect_pattern_backtrack.specs.Ends.{is_found}
use Rattle.syntect_pattern_backtrack.specs.Machine.{Fits, Goes, Cuts, bound_of, found_by, match_of}
use Rattle.syntect_pattern_backtrack.proofs.RunLaws.{found_by-over}
use Rattle.syntect_pattern_backtrack.proofs.CutLaws.{finish-whole, finish-part}

module _ (s : List ℕ) (ts : List Tree) where
  -- nothing is left to go back to
  pub fail-over : {E : Type 0} (r : Result (Option Next) E) (next : Next) (old new : Search) → next ≡ Next.Fail
      → IfOk r (λ o. IfNone o (old.frames.items ≡ [])) → IfOk r (λ o. IfNone o (match_of (is_found next) new ≡ found_by s ts next old))
  fail-over (Ok None) next old new n h = ap (λ (m : Next). match_of (is_found m) new) n ∙ sym (found_by-over s ts old next n h)
  fail-over (Ok (Some after)) next old new n h = tt
  fail-over (Err e) next old new n h = tt

  -- the match is the whole one
  pub found-over : {E : Type 0} (r : Result (Option Next) E) (next : Next) (old new : Search) → next ≡ Next.Found
      → IfOk r (λ o. IfNone o ((bound_of (reverse old.frames.items) ≡ None) × (new.place ≡ old.place) × (new.groups.items ≡ old.groups.items)))
      → IfOk r (λ o. IfNone o (match_of (is_found next) new ≡ found_by s ts next old))
  found-over (Ok None) next old new n h = ap (λ (m : Next). match_of (is_found m) new) n ∙ finish-whole s ts old new next n h.0 h.1 h.2
  found-over (Ok (Some after)) next old new n h = tt
  found-over (Err e) next old new n h = tt

  -- it is that of a part
  pub found-goes : {E : Type 0} (r : Result (Option Next) E) (next : Next) (old new : Search) → next ≡ Next.Found → Fits s next old
      → IfOk r (λ o. IfSome o (λ m. IfSome (bound_of (reverse old.frames.items)) (λ b. Cuts b old m new)))
      → IfOk r (λ o. IfSome o (λ m. IsSome (bound_of (reverse old.frames.items))))
      → IfOk r (λ o. IfSome o (λ after. Goes s ts next old after new))
  found-goes (Ok None) next old new n f h k = tt
  found-goes (Ok (Some after)) next old new n f h k = finish-part s ts old new (Some after) next after n refl f h k
  found-goes (Err e) next old new n f h k = tt
