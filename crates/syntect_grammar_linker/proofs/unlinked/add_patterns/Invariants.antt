use Rattle.std.proofs.Common.{◌≡◌, map, drop}
use Rattle.std.specs.Prelude.{string_bytes}
use Rattle.std.specs.List.{flat_map}
use Rattle.syntect_grammar_linker.specs.Unlinked.{pushed_by, unlinked_among, with_texts}
use Rattle.syntect_grammar_linker.proofs.unlinked.add_patterns.Given as goal

abbrev pub invariant-loop-pattern : goal.invariant-loop-pattern
invariant-loop-pattern l =
    with_texts (map string_bytes l.out.keys) (unlinked_among l.repository l.syntax (flat_map pushed_by (drop l.pattern-index l.patterns)))
    ≡ with_texts (map string_bytes l.fn.out.keys) (unlinked_among l.repository l.syntax (flat_map pushed_by l.patterns))
