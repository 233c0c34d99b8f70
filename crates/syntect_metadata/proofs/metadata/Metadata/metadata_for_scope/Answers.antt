use Rattle.syntect_metadata.specs.Ranking.{matching}
use Rattle.syntect_metadata.proofs.RankLaws.{ranked_as}
use Rattle.syntect_metadata.proofs.metadata.Metadata.metadata_for_scope.Goals as goal

pub returns : goal.returns
returns c =
    ranked_as (matching c.args.stack.now c.args.self.now.scoped_metadata) c.in_ok-scored.scored.items c.rank.new.scored.items c.from_vec.result c.in_ok-scored.ensures c.in_ok-rank.ensures
    c.from_vec.ensures
