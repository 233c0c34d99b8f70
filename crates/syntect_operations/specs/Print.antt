-- Operations of a line for debugging.
use Rattle.std.specs.Prelude.{ℕ, List, [], ◌∷◌, ◌++◌, codes, decimal, replicate}
use Rattle.std.specs.List.{flat_map}
use Rattle.std.specs.Str.{trim_end}
use Rattle.syntect_scope.specs.Repository.{scope_text}
use Rattle.syntect_scope.specs.declared.stack.ClearAmount.{ClearAmount}
use Rattle.syntect_scope.specs.declared.stack.ClearAmount.TheVariants.{TopN, All}
use Rattle.syntect_scope.specs.declared.stack.ScopeStackOp.{ScopeStackOp}
use Rattle.syntect_scope.specs.declared.stack.ScopeStackOp.TheVariants.{Push, Pop, Clear, Restore, Noop}

-- how much is cleared
abbrev pub amount_text : ClearAmount → List ℕ
amount_text (TopN n) = codes "TopN(" ++ (decimal n ++ codes ")")
amount_text All = codes "All"

-- an operation
abbrev pub operation_text : List (List ℕ) → ScopeStackOp → List ℕ
operation_text repo (Push scope) = codes "^ +" ++ scope_text repo scope
operation_text repo (Pop count) = codes "^ pop " ++ decimal count
operation_text repo (Clear amount) = codes "^ clear " ++ amount_text amount
operation_text repo Restore = codes "^ restore"
operation_text repo Noop = codes "noop"

-- the line without white space at its end, and below its place the operation
abbrev pub operation_lines : List (List ℕ) → List ℕ → ℕ × ScopeStackOp → List ℕ
operation_lines repo line o =
    trim_end line ++ (10 ∷ [] ++ (replicate o.0 32 ++ (operation_text repo o.1 ++ 10 ∷ [])))

abbrev pub operations_text : List (List ℕ) → List ℕ → List (ℕ × ScopeStackOp) → List ℕ
operations_text repo line ops = flat_map (operation_lines repo line) ops
