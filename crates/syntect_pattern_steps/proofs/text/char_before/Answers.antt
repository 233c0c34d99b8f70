use Rattle.std.proofs.Common.{◌∙◌, ap}
use Rattle.std.specs.Prelude.{chars, slice_get, reverse}
use Rattle.syntect_pattern_steps.proofs.TextLaws.{char_before-some, char_before-none}
use Rattle.syntect_pattern_steps.proofs.text.char_before.Goals as goal

pub returns : goal.returns
returns c =
    char_before-some c.args.text.now c.args.place c.chars-letters.result c.next_back.new.self c.utf8.text c.requires (c.chars-letters.ensures.rest ∙ c.split_at.ensures.front) c.last_char.result
    (c.last_char.ensures ∙ ap (λ t. slice_get (reverse (chars t)) 0) c.split_at.ensures.front)

pub returns-in_err-c : goal.returns-in_err-c
returns-in_err-c c =
    c.from_residual.ensures
    ∙ char_before-none c.args.text.now c.args.place c.chars-letters.result c.next_back.new.self c.utf8.text c.requires (c.chars-letters.ensures.rest ∙ c.split_at.ensures.front)
    c.in_err-c.ensures.steps
