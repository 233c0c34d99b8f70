use Rattle.std.specs.Prelude.{chars}
use Rattle.std.proofs.Common.{sym, ◌∙◌, ap, ◌&&◌, Bool, drop}
use Rattle.std.specs.List.{list_all}
use Rattle.syntect_pattern.specs.Reading.{is_name_char}
use Rattle.syntect_pattern_words.proofs.EscapeLaws.{name-none, name-some}
use Rattle.syntect_pattern_words.proofs.escapes.is_name.Goals as goal

pub returns-then-is_name_start : goal.returns-then-is_name_start
returns-then-is_name_start c =
    c.are_name_chars.ensures ∙ ap (list_all is_name_char) c.after.ensures
    ∙ sym (name-some (chars c.args.text.now) c.in-Some.c (sym c.in-Some.ensures) ∙ ap (λ (b : Bool). b && list_all is_name_char (drop 1 (chars c.args.text.now))) (sym c.is_name_start.ensures ∙ c.if-is_name_start.true))

pub returns-else-is_name_start : goal.returns-else-is_name_start
returns-else-is_name_start c =
    c.if-is_name_start.false
    ∙ sym (name-some (chars c.args.text.now) c.in-Some.c (sym c.in-Some.ensures) ∙ ap (λ (b : Bool). b && list_all is_name_char (drop 1 (chars c.args.text.now))) (sym c.is_name_start.ensures ∙ c.if-is_name_start.false))

pub returns-in-None : goal.returns-in-None
returns-in-None c = sym (name-none (chars c.args.text.now) (sym c.in-None.ensures))
