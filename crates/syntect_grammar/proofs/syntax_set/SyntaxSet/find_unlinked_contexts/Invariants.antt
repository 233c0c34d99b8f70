use Rattle.std.proofs.Common.{◌≡◌, [], map, drop}
use Rattle.std.specs.Prelude.{string_bytes}
use Rattle.std.specs.List.{flat_map}
use Rattle.syntect_grammar_linker.specs.Unlinked.{unlinked_of, with_texts}
use Rattle.syntect_grammar.specs.Unlinked.{unlinked_in}
use Rattle.syntect_grammar.proofs.syntax_set.SyntaxSet.find_unlinked_contexts.Given as goal

abbrev pub invariant-loop-syntax : goal.invariant-loop-syntax
invariant-loop-syntax l = with_texts (map string_bytes l.out.keys) (flat_map (unlinked_of l.repository) (drop l.syntax-index l.syntax-items)) ≡ with_texts [] (unlinked_in l.repository l.self)
