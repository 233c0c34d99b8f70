use Rattle.std.proofs.Common.{◌≡◌, ◌++◌, string_bytes, drop}
use Rattle.syntect_writers.specs.Sheet.{scope_selector}
use Rattle.syntect_writers.proofs.sheet.push_scope.Given as goal

-- what is written, and the atoms that are left, are the whole
abbrev pub invariant-loop-place : goal.invariant-loop-place
invariant-loop-place l = string_bytes l.out ++ scope_selector l.prefix l.repository (drop l.place l.scope) ≡ string_bytes l.fn.out ++ scope_selector l.prefix l.repository l.scope
