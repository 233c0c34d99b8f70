use Rattle.std.proofs.Common.{◌≡◌, ◌++◌, ◌-◌, string_bytes}
use Rattle.syntect_documents.specs.syntect_easy.Classed.{closing_tags}
use Rattle.syntect_documents.proofs.classed.push_closing_tags.Given as goal

-- with those that are left all are closed
abbrev pub invariant-loop : goal.invariant-loop
invariant-loop l = string_bytes l.out ++ closing_tags (l.count - l.counter) ≡ string_bytes l.fn.out ++ closing_tags l.count
