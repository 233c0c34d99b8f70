use Rattle.std.proofs.Common.{◌≡◌, ◌++◌, drop}
use Rattle.syntect_grammar_linker.specs.Gifts.{gifts_in}
use Rattle.syntect_grammar_linker.proofs.link.gifts_of.Given as goal

abbrev pub invariant-loop-context_index : goal.invariant-loop-context_index
invariant-loop-context_index l =
    l.gifts.items ++ gifts_in l.directory l.bodies l.syntax_index l.context_index (drop l.context_index l.contexts) ≡ gifts_in l.directory l.bodies l.syntax_index 0 l.contexts
