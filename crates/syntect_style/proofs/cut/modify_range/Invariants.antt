use Rattle.std.proofs.Common.{◌≡◌, ◌++◌, drop}
use Rattle.syntect_style.specs.Cut.{plain, changed}
use Rattle.syntect_style.proofs.cut.modify_range.Given as goal

-- what is there, and the pieces that are left, are all
abbrev pub invariant-loop-style : goal.invariant-loop-style
invariant-loop-style l = plain l.out.items ++ changed l.modifier (plain (drop l.style-index l.style-items)) ≡ plain l.initial.out.items ++ changed l.modifier (plain l.style-items)
