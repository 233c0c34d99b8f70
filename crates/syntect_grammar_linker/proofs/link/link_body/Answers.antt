use Rattle.std.proofs.Common.{arith, ◌≡◌, ◌∙◌, ⊎_elim, length, map, refl}
use Rattle.std.proofs.lemmas.Grind.{common_steps}
use Rattle.syntect_grammar_linker.specs.LinkedContexts.{context_with}
use Rattle.syntect_grammar_linker.proofs.LinkLaws.{first_ends, second_ends}
use Rattle.syntect_grammar_linker.proofs.link.link_body.Goals as goal

pub returns : goal.returns
returns c =
    c.from_vec.ensures ∙ ⊎_elim
    (λ h. let n : length c.loop-context.context-iterator.a.rest.items ≡ 0 = grind (arith, common_steps, h.1.0) in
    first_ends (map (λ given. context_with c.args.directory.now c.args.index given.1.0 given.1.1 given.0)) c.loop-context.context-iterator.a.rest.items c.loop-context.context-iterator.b.rest.items _ _ refl n c.loop-context.invariant)
    (λ h. let n : length c.loop-context.context-iterator.b.rest.items ≡ 0 = grind (arith, common_steps, h.1.0) in
    second_ends (map (λ given. context_with c.args.directory.now c.args.index given.1.0 given.1.1 given.0)) c.loop-context.context-iterator.a.rest.items c.loop-context.context-iterator.b.rest.items _ _ refl n c.loop-context.invariant)
    c.in-None.ensures.steps
