use Rattle.std.proofs.Common.{◌≡◌, ◌++◌, length, map}
use denote.Text.{Utf8}
use denote.Shadow.{shadow}
use Rattle.syntect_scope.specs.SelectorText.{hyphen_parts}
use Rattle.syntect_scope.proofs.reading.parts_of_selector.Given as goal

abbrev pub invariant-loop-part : goal.invariant-loop-part
invariant-loop-part l = shadow (Utf8 l.rest) × (map (λ x. x.now) l.parts.items ++ hyphen_parts l.rest ≡ hyphen_parts l.fn.s)

abbrev pub decreases-loop-part : goal.decreases-loop-part
decreases-loop-part l = length l.rest
