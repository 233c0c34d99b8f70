use Rattle.std.proofs.Common.{◌≡◌, ◌++◌, map, drop}
use Rattle.std.specs.List.{flat_map, filter_map}
use Rattle.syntect_reading_choice.specs.Engine.{dialect}
use Rattle.syntect_reading_choice.specs.Turn.{group_at}
use Rattle.syntect_parsing.specs.Scopes.{effect}
use Rattle.syntect_parsing.specs.MatchViews.{live_of, seen_mark, marks_of}
use Rattle.syntect_parsing.proofs.captures.collect_marks.Given as goal

abbrev pub invariant-loop-group : goal.invariant-loop-group
invariant-loop-group l =
    map seen_mark l.marks.items ++ flat_map marks_of (filter_map (λ entry. effect dialect (live_of l.taken) entry.0 entry.1 (group_at l.taken.region.now entry.0)) (drop l.group-index l.captures))
    ≡ flat_map marks_of (filter_map (λ entry. effect dialect (live_of l.taken) entry.0 entry.1 (group_at l.taken.region.now entry.0)) l.captures)
