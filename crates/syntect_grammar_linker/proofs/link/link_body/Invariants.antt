use Rattle.std.proofs.Common.{◌≡◌, ◌++◌}
use Rattle.syntect_grammar_linker.specs.Gifts.{given_all}
use Rattle.syntect_grammar_linker.proofs.link.link_body.Given as goal

abbrev pub invariant-loop-context : goal.invariant-loop-context
invariant-loop-context l = l.linked.items ++ given_all l.directory l.index l.context-iterator.b.rest.items l.context-iterator.a.rest.items ≡ given_all l.directory l.index l.fn.gifts l.fn.body
