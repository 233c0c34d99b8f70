use Rattle.std.proofs.Common.{ap, arith, length}
use Rattle.syntect_pattern_table.proofs.AlikeLaws.{enough_pairs}
use Rattle.syntect_pattern_table.proofs.ascii.near_pairs.Goals as goal

pub split_at-requires : goal.split_at-requires
split_at-requires c = omega (arith, ap length c.fold_pairs.ensures.table, enough_pairs)
