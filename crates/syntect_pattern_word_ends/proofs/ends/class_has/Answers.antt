use Rattle.std.proofs.Common.{arith}
use Rattle.syntect_pattern_table.specs.Table.{set_of}
use Rattle.std.proofs.lemmas.Nat.{and_le_l}
use Rattle.syntect_pattern_word_ends.proofs.WordLaws.{bits_tell}
use Rattle.syntect_pattern_word_ends.proofs.ends.class_has.Goals as goal

pub returns : goal.returns
returns c = bits_tell c.args.blank (set_of c.args.class.now) c.ascii.result c.run_bits.result c.ascii.ensures c.run_bits.ensures (omega (arith, and_le_l c.ascii.result c.run_bits.result))
