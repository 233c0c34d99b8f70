use Rattle.std.proofs.Common.{◌∙◌}
use Rattle.syntect_pattern_steps.proofs.TextLaws.{char_at-step, boundary-step, inside-step}
use Rattle.syntect_pattern_steps.proofs.text.char_at.Goals as goal

pub returns-clause-value : goal.returns-clause-value
returns-clause-value c =
    char_at-step c.args.text.now c.args.place c.chars.result c.next.new.self c.utf8.text c.requires (c.chars.ensures.rest ∙ c.split_at.ensures.back)
    c.next.result c.next.ensures.steps

pub returns-clause-behind : goal.returns-clause-behind
returns-clause-behind c =
    boundary-step c.args.text.now c.args.place c.chars.result c.next.new.self c.utf8.text c.requires (c.chars.ensures.rest ∙ c.split_at.ensures.back)
    c.next.result c.next.ensures.steps

pub returns-clause-inside : goal.returns-clause-inside
returns-clause-inside c =
    inside-step c.args.text.now c.args.place c.chars.result c.next.new.self c.utf8.text c.requires (c.chars.ensures.rest ∙ c.split_at.ensures.back)
    c.next.result c.next.ensures.steps
