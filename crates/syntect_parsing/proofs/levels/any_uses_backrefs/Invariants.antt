use Rattle.std.proofs.Common.{◌≡◌, drop}
use Rattle.std.specs.List.{list_any}
use Rattle.syntect_parsing.specs.Turn.{uses_backrefs}
use Rattle.syntect_parsing.proofs.levels.any_uses_backrefs.Given as goal

abbrev pub invariant-loop-id : goal.invariant-loop-id
invariant-loop-id l = list_any (uses_backrefs l.set) (drop l.id-index l.ids) ≡ list_any (uses_backrefs l.set) l.ids
