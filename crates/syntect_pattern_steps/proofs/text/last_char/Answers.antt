use Rattle.syntect_pattern_steps.proofs.TextLaws.{last-char}
use Rattle.syntect_pattern_steps.proofs.text.last_char.Goals as goal

pub returns : goal.returns
returns c = last-char c.args.text.now c.args.front.now c.args.c c.utf8.front c.ranges.c.0 c.requires
