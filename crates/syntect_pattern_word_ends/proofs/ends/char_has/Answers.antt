use Rattle.std.proofs.Common.{◌∙◌, arith}
use Rattle.std.proofs.lemmas.Grind.{common_steps}
use Rattle.syntect_pattern_word_ends.proofs.WordLaws.{far_one}
use Rattle.syntect_pattern_word_ends.proofs.ends.char_has.Goals as goal

pub returns-else-is_ascii : goal.returns-else-is_ascii
returns-else-is_ascii c = c.if-is_ascii.false ∙ far_one c.args.blank c.args.wanted (grind (arith, common_steps))
