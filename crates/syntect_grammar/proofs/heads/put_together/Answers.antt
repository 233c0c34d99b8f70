use Rattle.std.proofs.Common.{arith, ◌≡◌, ◌∙◌, ⊎_elim, length, map, refl}
use Rattle.std.proofs.lemmas.Grind.{common_steps}
use Rattle.syntect_grammar_linker.specs.Gifts.{whole}
use Rattle.syntect_grammar_linker.proofs.LinkLaws.{first_ends, second_ends}
use Rattle.syntect_grammar.proofs.heads.put_together.Goals as goal

pub returns : goal.returns
returns c =
    c.from_vec.ensures ∙ ⊎_elim
    (λ h. let n : length c.loop-head.head-iterator.a.rest.items ≡ 0 = grind (arith, common_steps, h.1.0) in
    first_ends (map whole) c.loop-head.head-iterator.a.rest.items c.loop-head.head-iterator.b.rest.items _ _ refl n c.loop-head.invariant)
    (λ h. let n : length c.loop-head.head-iterator.b.rest.items ≡ 0 = grind (arith, common_steps, h.1.0) in
    second_ends (map whole) c.loop-head.head-iterator.a.rest.items c.loop-head.head-iterator.b.rest.items _ _ refl n c.loop-head.invariant)
    c.in-None.ensures.steps
