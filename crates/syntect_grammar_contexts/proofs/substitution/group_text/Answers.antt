use Rattle.std.proofs.Common.{sym, ◌∙◌, arith}
use Rattle.syntect_grammar_contexts.proofs.SubstitutionLaws.{group_set, text_unset, text_set, text_falls}
use Rattle.syntect_grammar_contexts.proofs.substitution.group_text.Goals as goal

pub range-requires-clause-start_boundary : goal.range-requires-clause-start_boundary
range-requires-clause-start_boundary c = λ above.
    (c.requires c.args.group (c.in-Some.start, c.in-Some.end) (group_set c.args.region.now c.args.group (c.in-Some.start, c.in-Some.end) (sym c.pos.ensures ∙ c.in-Some.is))).0

pub range-requires-clause-end_boundary : goal.range-requires-clause-end_boundary
range-requires-clause-end_boundary c =
    (c.requires c.args.group (c.in-Some.start, c.in-Some.end) (group_set c.args.region.now c.args.group (c.in-Some.start, c.in-Some.end) (sym c.pos.ensures ∙ c.in-Some.is))).1

pub returns-then-start-end : goal.returns-then-start-end
returns-then-start-end c =
    c.range.ensures.value ∙ sym (text_set c.args.region.now c.args.text.now c.args.group c.in-Some.start c.in-Some.end (sym c.pos.ensures ∙ c.in-Some.is))

pub returns-else-start-end : goal.returns-else-start-end
returns-else-start-end c =
    sym (text_falls c.args.region.now c.args.text.now c.args.group c.in-Some.start c.in-Some.end (sym c.pos.ensures ∙ c.in-Some.is) (omega (arith, c.if-start-end.false)))

pub returns-in-None : goal.returns-in-None
returns-in-None c = sym (text_unset c.args.region.now c.args.text.now c.args.group (sym c.pos.ensures ∙ c.in-None.is))
