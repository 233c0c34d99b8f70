use Rattle.syntect_pattern_table.specs.Table.{set_of}
use Rattle.syntect_pattern_table.proofs.PlaceLaws.{holding_in}
use Rattle.syntect_pattern_table.proofs.starts.places_of_class.Goals as goal

pub returns : goal.returns
returns c x l = holding_in c.ascii.result (set_of c.args.class.now) c.is_wide.result c.ascii.ensures c.is_wide.ensures x
