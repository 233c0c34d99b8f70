use Rattle.std.proofs.Common.{sym, ◌∙◌}
use Rattle.syntect_easy.proofs.NewlineLaws.{through_found, through_none}
use Rattle.syntect_easy.proofs.reading.up_to_newline.Goals as goal

pub returns-in-Some : goal.returns-in-Some
returns-in-Some c = c.split_at.ensures.front ∙ sym (through_found c.args.bytes.now c.in-Some.at (sym c.newline_in.ensures ∙ c.in-Some.is))

pub returns-in-None : goal.returns-in-None
returns-in-None c = sym (through_none c.args.bytes.now (sym c.newline_in.ensures ∙ c.in-None.is))
