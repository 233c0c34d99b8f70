use Rattle.std.specs.Prelude.{chars}
use Rattle.std.proofs.Common.{◌∙◌, sym}
use Rattle.syntect_pattern_words.specs.QuantifierViews.{quantifier_as}
use Rattle.syntect_pattern_words.specs.OpeningViews.{flags_as}
use Rattle.syntect_pattern_words.specs.TokenViews.{looped_tree}
use Rattle.syntect_pattern_words.proofs.TokenLaws.{quantified-stuck, quantified-once, quantified-refused, quantified-loop}
use Rattle.syntect_pattern_words.proofs.tokens.read_looping.Goals as goal

pub returns-in_default : goal.returns-in_default
returns-in_default c = λ names a. quantified-stuck a (flags_as c.args.place.flags) names (chars c.args.place.text.now) c.in_default.ensures

pub returns-in_default-read_quantifier : goal.returns-in_default-read_quantifier
returns-in_default-read_quantifier c = λ names a.
    quantified-once a (flags_as c.args.place.flags) names (chars c.args.place.text.now) (chars c.in-Some.text.now) c.in-Some.ensures c.in_default-read_quantifier.ensures

pub returns-then-not-is_allowed : goal.returns-then-not-is_allowed
returns-then-not-is_allowed c = λ names a.
    quantified-refused a (flags_as c.args.place.flags) names (chars c.args.place.text.now) (chars c.in-Some.text.now) c.in-Some.ensures
    (quantifier_as c.in-Some-read_quantifier.quantifier) (chars c.in-Some-read_quantifier.rest.now) c.in-Some-read_quantifier.ensures (sym c.is_allowed.ensures ∙ c.if-not-is_allowed.true)

pub returns : goal.returns
returns c = λ names a.
    quantified-loop a (flags_as c.args.place.flags) names (chars c.args.place.text.now) (chars c.in-Some.text.now) c.in-Some.ensures
    (quantifier_as c.in-Some-read_quantifier.quantifier) (chars c.in-Some-read_quantifier.rest.now) c.in-Some-read_quantifier.ensures (sym c.is_allowed.ensures ∙ c.if-not-is_allowed.false)
    (looped_tree c.looped-looping.result.0 a) (chars c.looped-looping.result.1.now) (c.looped-looping.ensures a)
