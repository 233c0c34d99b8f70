use Rattle.std.proofs.Common.{◌-◌, ℕ, List, replicate}
use Rattle.syntect_writers.specs.Marks.Mark.{End}
use Rattle.syntect_writers.specs.Writing.{Puts}
use Rattle.syntect_writers.proofs.marks.Spans.end_all.Given as goal

-- with those that are left all are put
abbrev pub invariant-loop : goal.invariant-loop
invariant-loop l =
    (prefix : List ℕ) (repo : List (List ℕ)) (after : _) → Puts prefix repo l.self (replicate (l.count - l.counter) End) after → Puts prefix repo l.fn.self (replicate l.count End) after
