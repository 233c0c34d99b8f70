use Rattle.std.proofs.Common.{◌≡◌, ◌++◌, length}
use Rattle.std.specs.List.{zip}
use Rattle.syntect_grammar_linker.specs.Gifts.{given_from, gifts_from}
use Rattle.syntect_grammar_linker.proofs.link.link_bodies.Given as goal

abbrev pub invariant-loop-body : goal.invariant-loop-body
invariant-loop-body l =
    l.linked.items ++ given_from l.heads (length l.linked.items) (zip l.body-iterator.a.rest.items l.body-iterator.b.rest.items)
    ≡ given_from l.heads 0 (zip l.fn.bodies.items (gifts_from l.heads l.fn.bodies.items 0 l.fn.bodies.items))
