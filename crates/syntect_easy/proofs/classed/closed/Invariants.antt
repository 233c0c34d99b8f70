use Rattle.std.proofs.Common.{◌≡◌, ◌++◌, ◌-◌, string_bytes}
use Rattle.syntect_easy.specs.Classed.{closing_tags}
use Rattle.syntect_easy.proofs.classed.closed.Given as goal

-- with those that are left all are closed
abbrev pub invariant-loop : goal.invariant-loop
invariant-loop l = string_bytes l.text ++ closing_tags (l.count - l.counter) ≡ string_bytes l.fn.text ++ closing_tags l.count
