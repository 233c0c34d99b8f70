use Rattle.std.proofs.Common.{sym, ◌∙◌}
use Rattle.syntect_grammar_rewrite.proofs.VariableLaws.{open_none, closed_same, lookup_by_order, copied}
use Rattle.syntect_grammar_rewrite.proofs.expand.value_of.Goals as goal

pub returns-then-is_open : goal.returns-then-is_open
returns-then-is_open c = λ frames o. sym (open_none c.args.name.now c.args.variables.now frames (sym (o.names c.args.name.now) ∙ sym c.is_open.ensures ∙ c.if-is_open.true))

pub returns : goal.returns
returns c = λ frames o.
    copied c.get.result ∙ c.get.ensures ∙ lookup_by_order c.args.name.now c.args.variables.now
    ∙ sym (closed_same c.args.name.now c.args.variables.now frames (sym (o.names c.args.name.now) ∙ sym c.is_open.ensures ∙ c.if-is_open.false))
