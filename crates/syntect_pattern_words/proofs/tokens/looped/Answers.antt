use Rattle.std.specs.Prelude.{chars}
use Rattle.std.proofs.Common.{◌∙◌, sym, ap, true, false}
use Rattle.syntect_pattern.specs.Trees.{repeat, atomic}
use Rattle.syntect_pattern.specs.Reading.{Text}
use Rattle.syntect_pattern_words.specs.QuantifierViews.{quantifier_as}
use Rattle.syntect_pattern_words.proofs.TokenLaws.{loop-lazy, loop-possessive, loop-greedy}
use Rattle.syntect_pattern_words.proofs.tokens.looped.Goals as goal

pub returns-then-begins : goal.returns-then-begins
returns-then-begins c = λ a.
    loop-lazy (quantifier_as c.args.quantifier) a (chars c.args.text.now) (sym c.begins.ensures.value ∙ c.if-begins.true)
    ∙ ap (λ (t : Text). (repeat false c.args.quantifier.least c.args.quantifier.most a, t)) (sym c.after.ensures)

pub returns-then-gives_nothing_back : goal.returns-then-gives_nothing_back
returns-then-gives_nothing_back c = λ a.
    loop-possessive (quantifier_as c.args.quantifier) a (chars c.args.text.now) (sym c.begins.ensures.value ∙ c.if-begins.false) (sym c.gives_nothing_back.ensures ∙ c.if-gives_nothing_back.true)
    ∙ ap (λ (t : Text). (atomic (repeat true c.args.quantifier.least c.args.quantifier.most a), t)) (sym c.after-then-gives_nothing_back.ensures)

pub returns : goal.returns
returns c = λ a.
    loop-greedy (quantifier_as c.args.quantifier) a (chars c.args.text.now) (sym c.begins.ensures.value ∙ c.if-begins.false) (sym c.gives_nothing_back.ensures ∙ c.if-gives_nothing_back.false)
