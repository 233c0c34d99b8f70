use Rattle.std.proofs.Common.{◌≡◌, map, drop}
use Rattle.std.specs.Prelude.{string_bytes}
use Rattle.syntect_grammar_linker.specs.Unlinked.{unlinked_among, with_texts}
use Rattle.syntect_grammar_linker.proofs.unlinked.add_references.Given as goal

abbrev pub invariant-loop-reference : goal.invariant-loop-reference
invariant-loop-reference l =
    with_texts (map string_bytes l.out.keys) (unlinked_among l.repository l.syntax (drop l.reference-index l.references))
    ≡ with_texts (map string_bytes l.fn.out.keys) (unlinked_among l.repository l.syntax l.references)
