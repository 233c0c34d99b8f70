use Rattle.std.proofs.Common.{◌∙◌, sym, refl}
use Rattle.std.specs.Prelude.{chars}
use Rattle.syntect_pattern.specs.Reading.{first}
use Rattle.syntect_pattern_words.proofs.PlainLaws.{plain-stands}
use Rattle.syntect_pattern_words.proofs.tokens.plain_in.Goals as goal

pub returns-then-is_firm : goal.returns-then-is_firm
returns-then-is_firm c =
    plain-stands (chars c.args.text.now) (chars c.in_ok-c.rest.now) c.in_ok-c.c c.in_ok-c.ensures.letters
    (sym c.is_plain.ensures ∙ c.if-is_plain.true)
    (first (chars c.in_ok-c.rest.now)) refl (sym c.is_firm.ensures ∙ c.if-is_firm.true)
