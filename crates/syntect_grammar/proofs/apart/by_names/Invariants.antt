use Rattle.std.proofs.Common.{◌≡◌}
use Rattle.std.specs.List.{zip, fold}
use Rattle.syntect_grammar.specs.Apart.{entered, by_names}
use Rattle.syntect_grammar.proofs.apart.by_names.Given as goal

abbrev pub invariant-loop-name : goal.invariant-loop-name
invariant-loop-name l = fold entered l.table (zip l.name-iterator.a.rest.items l.name-iterator.b.rest.items) ≡ by_names (zip l.fn.names l.fn.contexts)
