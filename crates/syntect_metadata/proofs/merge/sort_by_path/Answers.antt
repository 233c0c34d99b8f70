use Rattle.std.proofs.Common.{rules}
use Rattle.syntect_metadata.proofs.RankLaws.{by_path}
use Rattle.syntect_metadata.proofs.merge.sort_by_path.Goals as goal

pub returns : goal.returns
returns c = by_path _ _ c.in_ok-sort_by.ensures.permutation c.in_ok-sort_by.ensures.sorted c.in_ok-sort_by.ensures.stable (λ a r q k. search rules)
