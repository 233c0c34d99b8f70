-- A line under operations on a stack of scopes: marks of spans that begin and end, and the text
-- between them.
use Rattle.std.specs.Prelude.{ℕ, nat_lt, false, ◌||◌, Bool, List, [], ◌∷◌, ◌++◌, length, map, if◌then◌else◌, Option, Some, None, slice_range}
use Rattle.syntect_writers.specs.Classes.{opening_tag, closing_tag}
use Rattle.syntect_writers.specs.syntect_scope.Hook.{hook_calls}
use Rattle.syntect_writers.specs.syntect_scope.Stack.{applied, is_refused}
use Rattle.syntect_writers.specs.syntect_scope.declared.stack.BasicScopeStackOp.{BasicScopeStackOp}
use Rattle.syntect_writers.specs.syntect_scope.declared.stack.BasicScopeStackOp.TheVariants.{Push, Pop}
use Rattle.syntect_writers.specs.syntect_scope.declared.stack.ScopeStack.{ScopeStack}
use Rattle.syntect_writers.specs.syntect_scope.declared.stack.ScopeStackOp.{ScopeStackOp}
use Rattle.syntect_writers.specs.Entities.{escaped}

-- the span of a scope begins, the last one that is open ends, or a text stands there
pub data Mark : Type 0 where
  Begin : (scope : List ℕ) → Mark
  End : Mark
  Words : (text : List ℕ) → Mark

-- ---- the marks of a line ----

-- the text between two places, unless there is none
abbrev pub words_between : List ℕ → ℕ → ℕ → List Mark
words_between line from to = if nat_lt from to then Words (slice_range line from to) ∷ [] else []

-- a scope that was pushed begins its span, one that was removed ends it
abbrev pub mark_of : BasicScopeStackOp × List (List ℕ) → Mark
mark_of (Push scope, shown) = Begin scope
mark_of (Pop, shown) = End

-- what the operation at hand begins and ends
abbrev pub operation_marks : ScopeStackOp → ScopeStack → List Mark
operation_marks op stack = map mark_of (hook_calls op stack)

-- the marks of the line from a place on
abbrev pub marks : List ℕ → ℕ → ScopeStack → List (ℕ × ScopeStackOp) → List Mark
marks line at stack [] = words_between line at (length line)
marks line at stack (o ∷ os) =
    words_between line at o.0
    ++ (operation_marks o.1 stack ++ marks line o.0 (applied o.1 stack) os)

-- the stack after the line
abbrev pub stack_after : ScopeStack → List (ℕ × ScopeStackOp) → ScopeStack
stack_after stack [] = stack
stack_after stack (o ∷ os) = stack_after (applied o.1 stack) os

-- one of the operations is refused
abbrev pub some_refused : ScopeStack → List (ℕ × ScopeStackOp) → Bool
some_refused stack [] = false
some_refused stack (o ∷ os) = is_refused o.1 stack || some_refused (applied o.1 stack) os

-- ---- how they are written ----

-- a span that ends right where it began is not written
abbrev pub written : List ℕ → List (List ℕ) → List Mark → List ℕ
written prefix repo [] = []
written prefix repo (End ∷ ms) = closing_tag ++ written prefix repo ms
written prefix repo (Words text ∷ ms) = escaped text ++ written prefix repo ms
written prefix repo (Begin scope ∷ []) = opening_tag prefix repo scope
written prefix repo (Begin scope ∷ (End ∷ ms)) = written prefix repo ms
written prefix repo (Begin scope ∷ (Begin next ∷ ms)) =
    opening_tag prefix repo scope ++ written prefix repo (Begin next ∷ ms)
written prefix repo (Begin scope ∷ (Words text ∷ ms)) =
    opening_tag prefix repo scope ++ written prefix repo (Words text ∷ ms)

-- ---- For proofs and private functions alone ----

-- the marks with a span before them that was begun and not yet written
abbrev pub behind : Option (List ℕ) → List Mark → List Mark
behind None ms = ms
behind (Some scope) ms = Begin scope ∷ ms

-- the tag of a span that was begun and not yet written
abbrev pub opening_of : List ℕ → List (List ℕ) → Option (List ℕ) → List ℕ
opening_of prefix repo None = []
opening_of prefix repo (Some scope) = opening_tag prefix repo scope
