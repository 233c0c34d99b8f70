use Rattle.std.proofs.Common.{sym, ap, ◌∙◌}
use Rattle.std.specs.Prelude.{chars}
use Rattle.syntect_pattern_words.specs.QuantifierViews.{capped_all, counted}
use Rattle.syntect_pattern_words.proofs.QuantifierLaws.{is-same, is-other, quantifier-none, quantifier-star, quantifier-plus, quantifier-mark, quantifier-count, quantifier-other}
use Rattle.syntect_pattern_words.proofs.quantifiers.read_quantifier.Goals as goal

pub returns-in_err-c : goal.returns-in_err-c
returns-in_err-c c = ap capped_all (quantifier-none (chars c.args.text.now) (sym c.in_err-c.ensures)) ∙ sym (ap counted c.from_residual.ensures)

pub returns-then-c-eq42 : goal.returns-then-c-eq42
returns-then-c-eq42 c = ap capped_all (quantifier-star (chars c.args.text.now) c.in_ok-c.c (sym c.in_ok-c.ensures) (is-same c.in_ok-c.c 42 c.if-c-eq42.true)) ∙ sym c.sign.ensures

pub returns-then-c-eq43 : goal.returns-then-c-eq43
returns-then-c-eq43 c = ap capped_all (quantifier-plus (chars c.args.text.now) c.in_ok-c.c (sym c.in_ok-c.ensures) (is-other c.in_ok-c.c 42 c.if-c-eq42.false) (is-same c.in_ok-c.c 43 c.if-c-eq43.true)) ∙ sym c.sign-then-c-eq43.ensures

pub returns-then-c-eq63 : goal.returns-then-c-eq63
returns-then-c-eq63 c = ap capped_all (quantifier-mark (chars c.args.text.now) c.in_ok-c.c (sym c.in_ok-c.ensures) (is-other c.in_ok-c.c 42 c.if-c-eq42.false) (is-other c.in_ok-c.c 43 c.if-c-eq43.false) (is-same c.in_ok-c.c 63 c.if-c-eq63.true)) ∙ sym c.sign-then-c-eq63.ensures

pub returns-then-c-eq123 : goal.returns-then-c-eq123
returns-then-c-eq123 c = ap capped_all (quantifier-count (chars c.args.text.now) c.in_ok-c.c (sym c.in_ok-c.ensures) (is-other c.in_ok-c.c 42 c.if-c-eq42.false) (is-other c.in_ok-c.c 43 c.if-c-eq43.false) (is-other c.in_ok-c.c 63 c.if-c-eq63.false)) ∙ c.count.ensures

pub returns-else-c-eq123 : goal.returns-else-c-eq123
returns-else-c-eq123 c = ap capped_all (quantifier-other (chars c.args.text.now) c.in_ok-c.c (sym c.in_ok-c.ensures) (is-other c.in_ok-c.c 42 c.if-c-eq42.false) (is-other c.in_ok-c.c 43 c.if-c-eq43.false) (is-other c.in_ok-c.c 63 c.if-c-eq63.false) (is-other c.in_ok-c.c 123 c.if-c-eq123.false))
