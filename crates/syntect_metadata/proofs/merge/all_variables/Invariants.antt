use Rattle.std.proofs.Common.{◌≡◌, ◌++◌, map, option_map}
use Rattle.serde_json.specs.View.{items_view}
use Rattle.syntect_metadata.specs.Merging.{all_variables}
use Rattle.syntect_metadata.specs.Seen.{named}
use Rattle.syntect_metadata.proofs.merge.all_variables.Given as goal

abbrev pub invariant-loop-item : goal.invariant-loop-item
invariant-loop-item l = all_variables (items_view l.fn.items.items) ≡ option_map (λ more. map named l.variables.items ++ more) (all_variables (items_view l.item-iterator.rest.items))
