-- What operations on a text mean: the scopes of each byte.
use Rattle.std.specs.Prelude.{◌≡◌, ℕ, zero, suc, ◌-◌, ◌≤◌, false, List, [], ◌∷◌, ◌++◌, length, replicate, map}
use Rattle.std.specs.Str.{IsCharBoundary}
use Rattle.syntect_scope.specs.Stack.{applied, is_refused}
use Rattle.syntect_scope.specs.declared.stack.ScopeStack.{ScopeStack}
use Rattle.syntect_scope.specs.declared.stack.ScopeStackOp.{ScopeStackOp}
use Rattle.syntect_scope.specs.declared.stack.ScopeStackOp.TheVariants.{Push, Pop}

-- ---- lists of operations ----

-- the places never decrease, lie from `from` to `to`, and stand on character boundaries of the text
abbrev pub InOrder : List ℕ → ℕ → List (ℕ × ScopeStackOp) → ℕ → Type 0
InOrder text from [] to = from ≤ to
InOrder text from (o ∷ os) to = (from ≤ o.0) × IsCharBoundary text o.0 × InOrder text o.0 os to

-- no operation is refused, one after another
abbrev pub AllApply : ScopeStack → List (ℕ × ScopeStackOp) → Type 0
AllApply s [] = Unit {0}
AllApply s (o ∷ os) = (is_refused o.1 s ≡ false) × AllApply (applied o.1 s) os

-- ---- the scopes of each byte ----

-- the scopes of the bytes so far, and the stack
pub record Replay : Type 0 where
  pub bytes : List (List (List ℕ))
  pub stack : ScopeStack

-- every byte up to a place has the scopes of the stack
abbrev pub bytes_to : Replay → ℕ → List (List (List ℕ))
bytes_to r place = r.bytes ++ replicate (place - length r.bytes) r.stack.scopes

-- an operation at a place
abbrev pub replayed : Replay → (ℕ × ScopeStackOp) → Replay
replayed r o = record { bytes = bytes_to r o.0; stack = applied o.1 r.stack }

-- the operations, one after another
abbrev pub replay : List (ℕ × ScopeStackOp) → Replay → Replay
replay [] r = r
replay (o ∷ os) r = replay os (replayed r o)

-- before the first byte, on a stack
abbrev pub before_text : ScopeStack → Replay
before_text s = record { bytes = []; stack = s }

-- ---- runs of operations at one place ----

-- scopes pushed at a place
abbrev pub pushes : ℕ → List (List ℕ) → List (ℕ × ScopeStackOp)
pushes at scopes = map (λ s. (at, Push s)) scopes

-- so many scopes popped at a place, by one operation if there are any
abbrev pub pops : ℕ → ℕ → List (ℕ × ScopeStackOp)
pops at zero = []
pops at (suc n) = (at, Pop (suc n)) ∷ []
