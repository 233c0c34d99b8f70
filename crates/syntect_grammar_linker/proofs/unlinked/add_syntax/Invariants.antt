use Rattle.std.proofs.Common.{◌≡◌, map, drop}
use Rattle.std.specs.Prelude.{string_bytes}
use Rattle.std.specs.List.{flat_map}
use Rattle.syntect_grammar_linker.specs.Unlinked.{pushed_by, unlinked_among, unlinked_of, with_texts}
use Rattle.syntect_grammar_linker.proofs.unlinked.add_syntax.Given as goal

abbrev pub invariant-loop-context : goal.invariant-loop-context
invariant-loop-context l =
    with_texts (map string_bytes l.out.keys) (unlinked_among l.repository l.syntax (flat_map (λ c. flat_map pushed_by c.patterns) (drop l.context-index l.context-items)))
    ≡ with_texts (map string_bytes l.fn.out.keys) (unlinked_of l.repository l.syntax)
