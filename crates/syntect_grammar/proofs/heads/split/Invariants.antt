use Rattle.std.proofs.Common.{◌≡◌, map}
use Rattle.syntect_grammar.specs.Link.{names_of}
use Rattle.syntect_grammar.proofs.heads.split.Given as goal

abbrev pub invariant-loop-name : goal.invariant-loop-name
invariant-loop-name l = record { firsts : l.names.items ≡ names_of l.yielded; seconds : l.rest.items ≡ map (λ entry. entry.1) l.yielded }
