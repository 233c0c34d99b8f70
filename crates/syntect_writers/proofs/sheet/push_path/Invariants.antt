use Rattle.std.proofs.Common.{◌≡◌, ◌++◌, ◌∷◌, [], string_bytes, drop, map}
use Rattle.std.specs.List.{flat_map}
use Rattle.syntect_writers.specs.Sheet.{scope_selector, path_selector}
use Rattle.syntect_writers.proofs.sheet.push_path.Given as goal

-- what is written, and the scopes that are left, are the whole
abbrev pub invariant-loop-scope : goal.invariant-loop-scope
invariant-loop-scope l =
    string_bytes l.out ++ flat_map (λ u. (32 ∷ []) ++ u) (map (scope_selector l.prefix l.repository) (drop l.scope-index l.others)) ≡ string_bytes l.fn.out ++ path_selector l.prefix l.repository l.fn.scopes
