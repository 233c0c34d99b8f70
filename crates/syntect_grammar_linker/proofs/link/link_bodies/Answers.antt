use Rattle.std.proofs.Common.{arith, ◌≡◌, ⊎_elim, length, refl}
use Rattle.std.proofs.lemmas.Grind.{common_steps}
use Rattle.syntect_grammar_linker.specs.Gifts.{given_from}
use Rattle.syntect_grammar_linker.proofs.LinkLaws.{first_ends, second_ends}
use Rattle.syntect_grammar_linker.proofs.link.link_bodies.Goals as goal

pub returns : goal.returns
returns c =
    ⊎_elim
    (λ h. let n : length c.loop-body.body-iterator.a.rest.items ≡ 0 = grind (arith, common_steps, h.1.0) in
    first_ends (given_from c.args.heads.now (length c.loop-body.linked.items)) c.loop-body.body-iterator.a.rest.items c.loop-body.body-iterator.b.rest.items _ _ refl n c.loop-body.invariant)
    (λ h. let n : length c.loop-body.body-iterator.b.rest.items ≡ 0 = grind (arith, common_steps, h.1.0) in
    second_ends (given_from c.args.heads.now (length c.loop-body.linked.items)) c.loop-body.body-iterator.a.rest.items c.loop-body.body-iterator.b.rest.items _ _ refl n c.loop-body.invariant)
    c.in-None.ensures.steps
