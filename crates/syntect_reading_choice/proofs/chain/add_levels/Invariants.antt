use Rattle.std.proofs.Common.{◌≡◌, ◌++◌, map, drop}
use Rattle.std.specs.List.{flat_map}
use Rattle.syntect_reading_choice.specs.Parts.{seen_part, level_parts}
use Rattle.syntect_reading_choice.proofs.chain.add_levels.Given as goal

abbrev pub invariant-loop-level : goal.invariant-loop-level
invariant-loop-level l =
    map seen_part l.parts.items ++ flat_map level_parts (drop l.level-index l.levels)
    ≡ map seen_part l.fn.parts.items ++ flat_map level_parts l.levels
