-- What a hook hears of an operation on a stack of scopes. The bottom comes first.
use Rattle.std.specs.Prelude.{◌≡◌, ℕ, zero, suc, ◌-◌, min, List, [], ◌∷◌, ◌++◌, length, take, replicate, unwrap_or}
use Rattle.std.specs.Borrow.{Bor}
use Rattle.std.specs.Fn.{Mut, Called}
use Rattle.std.specs.List.{slice_get}
use Rattle.syntect_scope.specs.Stack.{kept}
use Rattle.syntect_scope.specs.declared.stack.BasicScopeStackOp.{BasicScopeStackOp}
use Rattle.syntect_scope.specs.declared.stack.BasicScopeStackOp.TheVariants.{Push as Added, Pop as Removed}
use Rattle.syntect_scope.specs.declared.stack.ScopeStack.{ScopeStack}
use Rattle.syntect_scope.specs.declared.stack.ScopeStackOp.{ScopeStackOp}
use Rattle.syntect_scope.specs.declared.stack.ScopeStackOp.TheVariants.{Push, Pop, Clear, Restore, Noop}

-- so many scopes removed from the top, one by one: what is left after each
abbrev pub removals : ℕ → List (List ℕ) → List (BasicScopeStackOp × List (List ℕ))
removals zero scopes = []
removals (suc n) scopes = (Removed, take (length scopes - 1) scopes) ∷ removals n (take (length scopes - 1) scopes)

-- scopes put on top, one by one: what stands after each
abbrev pub additions : List (List ℕ) → List (List ℕ) → List (BasicScopeStackOp × List (List ℕ))
additions scopes [] = []
additions scopes (s ∷ more) = (Added s, scopes ++ s ∷ []) ∷ additions (scopes ++ s ∷ []) more

-- the list that was remembered last
abbrev pub last_cleared : ScopeStack → List (List ℕ)
last_cleared s = unwrap_or (slice_get s.clear_stack (length s.clear_stack - 1)) []

-- what an operation really pushes and removes, in order, each with the stack that the hook is
-- shown: the one after that push or removal, and for `Clear` the one that is left in the end
abbrev pub hook_calls : ScopeStackOp → ScopeStack → List (BasicScopeStackOp × List (List ℕ))
hook_calls (Push scope) s = additions s.scopes (scope ∷ [])
hook_calls (Pop count) s = removals (min count (length s.scopes)) s.scopes
hook_calls (Clear amount) s = replicate (length s.scopes - kept amount s) (Removed, take (kept amount s) s.scopes)
hook_calls Restore s = additions s.scopes (last_cleared s)
hook_calls Noop s = []

-- a hook is called with what was pushed or removed and a reference to the stack,
-- and is then this one
pub record Hears {F : Type 0} (g : Mut F (BasicScopeStackOp × (Bor (List (List ℕ)) × Unit {0})) (Unit {0})) (hook : F) (call : BasicScopeStackOp × List (List ℕ)) (after : F) : Type 0 where
  pub shown : Bor (List (List ℕ))
  pub shows : shown.now ≡ call.1
  pub called : Called g hook (call.0, (shown, tt)) tt after
