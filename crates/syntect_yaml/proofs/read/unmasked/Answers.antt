use Rattle.std.proofs.lemmas.Grind.{common_steps}
use Rattle.std.proofs.lemmas.Bool.Decides.{nat_tests}
use Rattle.std.proofs.Common.{arith}
use Rattle.syntect_yaml.proofs.YamlLaws.{mark_boundary}
use Rattle.syntect_yaml.proofs.read.unmasked.Goals as goal

pub split_at-requires : goal.split_at-requires
split_at-requires c = mark_boundary c.args.text.now c.utf8.text (grind (arith, nat_tests, common_steps))
