use Rattle.std.proofs.Common.{ap, sym, ◌∙◌}
use Rattle.syntect_pattern_plan.specs.syntect_pattern.Sets.{range}
use Rattle.syntect_pattern_plan.specs.syntect_pattern_table.Table.{node_tree, set_of}
use Rattle.syntect_pattern_plan.specs.syntect_pattern_table.declared.node.Node.{Node}
use Rattle.syntect_pattern_plan.specs.Sights.{single_end}
use Rattle.syntect_pattern_plan.proofs.SightLaws.{single-nothing, single-char, single-anchor}
use Rattle.syntect_pattern_plan.proofs.sight.step.Goals as goal

pub returns-in-Nothing : goal.returns-in-Nothing
returns-in-Nothing c = λ ts e.
    single-nothing c.args.text.now c.args.place ∙ sym (ap (λ (n : Node). single_end c.args.text.now (node_tree ts n) c.args.place) c.in-Nothing.is)

pub returns-in-Char : goal.returns-in-Char
returns-in-Char c = λ ts e.
    single-char c.args.text.now (range c.in-Char.wanted c.in-Char.wanted) c.args.place c.past_char.result c.past_char.ensures.value
    ∙ sym (ap (λ (n : Node). single_end c.args.text.now (node_tree ts n) c.args.place) c.in-Char.is)

pub returns-in-Class : goal.returns-in-Class
returns-in-Class c = λ ts e.
    single-char c.args.text.now (set_of c.in-Class.class) c.args.place c.past_class.result c.past_class.ensures.value
    ∙ sym (ap (λ (n : Node). single_end c.args.text.now (node_tree ts n) c.args.place) c.in-Class.is)

pub returns-then-anchor_holds : goal.returns-then-anchor_holds
returns-then-anchor_holds c = λ ts e.
    single-anchor c.args.text.now c.in-Anchor.anchor c.args.place _ (sym c.anchor_holds.ensures ∙ c.if-anchor_holds.true)
    ∙ sym (ap (λ (n : Node). single_end c.args.text.now (node_tree ts n) c.args.place) c.in-Anchor.is)

pub returns-else-anchor_holds : goal.returns-else-anchor_holds
returns-else-anchor_holds c = λ ts e.
    single-anchor c.args.text.now c.in-Anchor.anchor c.args.place _ (sym c.anchor_holds.ensures ∙ c.if-anchor_holds.false)
    ∙ sym (ap (λ (n : Node). single_end c.args.text.now (node_tree ts n) c.args.place) c.in-Anchor.is)
