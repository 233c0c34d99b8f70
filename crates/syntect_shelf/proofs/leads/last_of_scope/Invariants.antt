use Rattle.std.proofs.Common.{◌≡◌}
use Rattle.std.specs.Prelude.{take}
use Rattle.syntect_shelf.specs.Places.{last_of_scope}
use Rattle.syntect_shelf.proofs.leads.last_of_scope.Given as goal

abbrev pub invariant-loop-place : goal.invariant-loop-place
invariant-loop-place l = l.found ≡ last_of_scope l.scope (take l.place l.definitions)
