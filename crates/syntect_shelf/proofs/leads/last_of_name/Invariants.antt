use Rattle.std.proofs.Common.{◌≡◌}
use Rattle.std.specs.Prelude.{take}
use Rattle.syntect_shelf.specs.Places.{last_of_name}
use Rattle.syntect_shelf.proofs.leads.last_of_name.Given as goal

abbrev pub invariant-loop-place : goal.invariant-loop-place
invariant-loop-place l = l.found ≡ last_of_name l.name (take l.place l.definitions)
