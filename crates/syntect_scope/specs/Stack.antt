-- What operations do to a stack of scopes. The bottom comes first.
use Rattle.std.specs.Prelude.{ℕ, Bool, true, false, ◌-◌, List, [], ◌∷◌, ◌++◌, length, take, drop, unwrap_or}
use Rattle.std.specs.List.{slice_get}
use Rattle.syntect_scope.specs.declared.stack.ScopeStack.{ScopeStack}
use Rattle.syntect_scope.specs.declared.stack.ScopeStackOp.{ScopeStackOp}
use Rattle.syntect_scope.specs.declared.stack.ScopeStackOp.TheVariants.{Push, Pop, Clear, Restore, Noop}
use Rattle.syntect_scope.specs.declared.stack.ClearAmount.{ClearAmount}
use Rattle.syntect_scope.specs.declared.stack.ClearAmount.TheVariants.{TopN, All}

-- how many scopes stay below those that are cleared
abbrev pub kept : ClearAmount → ScopeStack → ℕ
kept (TopN n) s = length s.scopes - n
kept All s = 0

-- the stack after an operation: `Clear` remembers what it takes as one list, `Restore` puts the
-- last one back
abbrev pub applied : ScopeStackOp → ScopeStack → ScopeStack
applied (Push scope) s = record s { scopes = s.scopes ++ scope ∷ [] }
applied (Pop count) s = record s { scopes = take (length s.scopes - count) s.scopes }
applied (Clear amount) s = record {
  clear_stack = s.clear_stack ++ drop (kept amount s) s.scopes ∷ [];
  scopes = take (kept amount s) s.scopes;
}
applied Restore s = record {
  clear_stack = take (length s.clear_stack - 1) s.clear_stack;
  scopes = s.scopes ++ unwrap_or (slice_get s.clear_stack (length s.clear_stack - 1)) [];
}
applied Noop s = s

-- the operation restores, and nothing is remembered
abbrev pub is_refused : ScopeStackOp → ScopeStack → Bool
is_refused Restore s = none_cleared s.clear_stack
  where
    none_cleared : List (List (List ℕ)) → Bool
    none_cleared [] = true
    none_cleared (c ∷ cs) = false
is_refused (Push scope) s = false
is_refused (Pop count) s = false
is_refused (Clear amount) s = false
is_refused Noop s = false

-- the operation only takes scopes off, or does nothing
abbrev pub TakesNoMemory : ScopeStackOp → Type 0
TakesNoMemory (Pop count) = Unit {0}
TakesNoMemory Noop = Unit {0}
TakesNoMemory (Push scope) = ⊥
TakesNoMemory (Clear amount) = ⊥
TakesNoMemory Restore = ⊥

-- a stack with these scopes that remembers nothing
abbrev pub plain : List (List ℕ) → ScopeStack
plain scopes = record { clear_stack = []; scopes = scopes }
