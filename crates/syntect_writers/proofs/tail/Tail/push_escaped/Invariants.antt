use Rattle.std.proofs.Common.{◌≡◌, ◌++◌, length}
use denote.Text.{Utf8}
use denote.Shadow.{shadow}
use Rattle.syntect_writers.specs.Entities.{escaped}
use Rattle.syntect_writers.proofs.tail.Tail.push_escaped.Given as goal

-- what is written, and the rest in HTML, are the whole
abbrev pub invariant-loop-front : goal.invariant-loop-front
invariant-loop-front l = shadow (Utf8 l.rest) × (l.self.front ≡ l.fn.self.front) × (l.self.back ++ escaped l.rest ≡ l.fn.self.back ++ escaped l.fn.text)

abbrev pub decreases-loop-front : goal.decreases-loop-front
decreases-loop-front l = length l.rest
