use Rattle.std.proofs.Common.{◌≡◌, ◌++◌, drop}
use Rattle.syntect_grammar_linker.specs.Gifts.{gifts_from}
use Rattle.syntect_grammar_linker.proofs.link.all_gifts.Given as goal

abbrev pub invariant-loop-index : goal.invariant-loop-index
invariant-loop-index l = l.gifts.items ++ gifts_from l.directory l.bodies l.index (drop l.index l.bodies) ≡ gifts_from l.directory l.bodies 0 l.bodies
