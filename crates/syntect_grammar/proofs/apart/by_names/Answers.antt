use Rattle.std.proofs.Common.{arith, ◌≡◌, ⊎_elim, length}
use Rattle.std.proofs.lemmas.Grind.{common_steps}
use Rattle.syntect_grammar.specs.Apart.{entered}
use Rattle.syntect_grammar.proofs.ApartLaws.{first_ended, second_ended}
use Rattle.syntect_grammar.proofs.apart.by_names.Goals as goal

pub returns : goal.returns
returns c = ⊎_elim
    (λ h. let n : length c.loop-name.name-iterator.a.rest.items ≡ 0 = grind (arith, common_steps, h.1.0) in
    first_ended entered c.loop-name.name-iterator.a.rest.items c.loop-name.name-iterator.b.rest.items _ _ n c.loop-name.invariant)
    (λ h. let n : length c.loop-name.name-iterator.b.rest.items ≡ 0 = grind (arith, common_steps, h.1.0) in
    second_ended entered c.loop-name.name-iterator.a.rest.items c.loop-name.name-iterator.b.rest.items _ _ n c.loop-name.invariant)
    c.in-None.ensures.steps
