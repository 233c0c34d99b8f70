use Rattle.std.proofs.Common.{refl}
use Rattle.syntect_pattern_table.proofs.LengthLaws.{lengths-any}
use Rattle.syntect_pattern_table.proofs.lengths.any_number.Goals as goal

pub returns : goal.returns
returns c = λ t. lengths-any t _ refl refl
