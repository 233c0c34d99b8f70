use Rattle.std.proofs.Common.{◌≡◌, ◌++◌, map, drop}
use Rattle.std.specs.Option.{option_copied}
use Rattle.syntect_reading_choice.specs.Parts.{seen_part, parts_by}
use Rattle.syntect_reading_choice.proofs.chain.add_contexts.Given as goal

abbrev pub invariant-loop-id : goal.invariant-loop-id
invariant-loop-id l =
    map seen_part l.parts.items ++ parts_by l.from_with_prototype (option_copied l.opening) (drop l.id-index l.ids)
    ≡ map seen_part l.fn.parts.items ++ parts_by l.from_with_prototype (option_copied l.opening) l.ids
