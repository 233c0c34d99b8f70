use Rattle.std.proofs.Common.{◌≡◌, ◌++◌}
use Rattle.syntect_grammar_linker.specs.Gifts.{put_together}
use Rattle.syntect_grammar.proofs.heads.put_together.Given as goal

abbrev pub invariant-loop-head : goal.invariant-loop-head
invariant-loop-head l = l.syntaxes.items ++ put_together l.head-iterator.a.rest.items l.head-iterator.b.rest.items ≡ put_together l.fn.heads.items l.fn.bodies.items
