use Rattle.std.proofs.Common.{◌≡◌, drop, get_or, refl, sym, ap, ◌∙◌}
use Rattle.syntect_pattern_plan.specs.syntect_pattern.Sets.{none}
use Rattle.syntect_pattern_plan.specs.syntect_pattern.Trees.{Tree, nothing, one_of}
use Rattle.syntect_pattern_plan.specs.syntect_pattern_table.Table.{node_tree}
use Rattle.syntect_pattern_plan.specs.Facts.{facts_of}
use Rattle.syntect_pattern_plan.proofs.FactLaws.{letters-facts}
use Rattle.syntect_pattern_plan.proofs.facts.node_facts.Goals as goal

pub returns-in-Text : goal.returns-in-Text
returns-in-Text c = λ ts facts.
    let l = c.in-Text.letters in
    let t : Tree = get_or ts c.in-Text.rest nothing in
    let rest : c.facts_at.result ≡ facts_of t = c.facts_at.ensures ∙ facts c.in-Text.rest in
    c.in_sequence.ensures (one_of none) t refl rest
    ∙ sym (ap (λ n. facts_of (node_tree ts n)) c.in-Text.is ∙ letters-facts l.fold l.first (drop l.from l.others) none t)

pub returns-in-Repeat : goal.returns-in-Repeat
returns-in-Repeat c = λ ts facts.
    c.in_loop.ensures c.in-Repeat.greedy (get_or ts c.in-Repeat.body nothing) (c.facts_at-in-Repeat.ensures ∙ facts c.in-Repeat.body)
    ∙ sym (ap (λ n. facts_of (node_tree ts n)) c.in-Repeat.is)

pub returns-in-Behind : goal.returns-in-Behind
returns-in-Behind c = λ ts facts.
    c.in_lookbehind.ensures (get_or ts c.in-Behind.body nothing) (c.facts_at-in-Behind.ensures ∙ facts c.in-Behind.body)
    ∙ sym (ap (λ n. facts_of (node_tree ts n)) c.in-Behind.is)
