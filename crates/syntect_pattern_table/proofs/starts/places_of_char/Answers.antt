use Rattle.std.proofs.Common.{arith}
use Rattle.std.proofs.lemmas.Grind.{common_steps}
use Rattle.syntect_pattern_table.proofs.PlaceLaws.{char_in, wide_in}
use Rattle.syntect_pattern_table.proofs.starts.places_of_char.Goals as goal

pub returns-then-is_ascii : goal.returns-then-is_ascii
returns-then-is_ascii c x l = char_in c.args.wanted (grind (arith, common_steps)) c.put.result c.put.ensures x

pub returns-else-is_ascii : goal.returns-else-is_ascii
returns-else-is_ascii c x l = wide_in c.args.wanted (grind (arith, common_steps)) x
