use Rattle.std.proofs.Common.{◌≡◌, ◌==◌, ◌++◌, drop, map}
use Rattle.std.specs.List.{flat_map, slice_split}
use Rattle.syntect_scope.proofs.reading.parts_of_union.Given as goal

abbrev pub invariant-loop-part : goal.invariant-loop-part
invariant-loop-part l =
    let cut = slice_split (λ b. b == 124) in
    map (λ x. x.now) l.parts.items ++ flat_map cut (map (λ x. x.now) (drop l.part-index l.part-items)) ≡ flat_map cut (map (λ x. x.now) l.part-items)
