use Rattle.syntect_pattern_table.specs.Table.{trees}
use Rattle.syntect_pattern_table.proofs.LengthLaws.{known-lengths}
use Rattle.syntect_pattern_table.proofs.program.Program.length_of.Goals as goal

pub returns-in-Some : goal.returns-in-Some
returns-in-Some c = known-lengths c.args.self.now.lengths (trees c.args.self.now.nodes) c.args.self.now.measured c.args.node c.in-Some.lengths.now c.in-Some.ensures

pub returns-in-None : goal.returns-in-None
returns-in-None c = c.any_number.ensures _
