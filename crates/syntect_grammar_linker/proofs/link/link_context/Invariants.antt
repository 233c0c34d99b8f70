use Rattle.std.proofs.Common.{◌≡◌, map}
use Rattle.syntect_grammar_linker.specs.LinkedContexts.{linked_pattern}
use Rattle.syntect_grammar_linker.proofs.link.link_context.Given as goal

abbrev pub invariant-loop-pattern : goal.invariant-loop-pattern
invariant-loop-pattern l = l.linked.items ≡ map (linked_pattern l.directory l.index) l.yielded
