use Rattle.std.proofs.Common.{◌≡◌, map}
use Rattle.syntect_grammar_linker.specs.References.{linked_reference}
use Rattle.syntect_grammar_linker.proofs.link.link_references.Given as goal

abbrev pub invariant-loop-reference : goal.invariant-loop-reference
invariant-loop-reference l = l.linked.items ≡ map (linked_reference l.directory l.index) l.yielded
