use Rattle.syntect_pattern_table.proofs.TableLaws.{node-lookup, node-spelt}
use Rattle.syntect_pattern_table.proofs.program.Program.node.Goals as goal

pub returns-clause-spelt : goal.returns-clause-spelt
returns-clause-spelt c = node-spelt c.args.self.now.nodes c.args.place c.get.result c.get.ensures

pub returns-clause-is : goal.returns-clause-is
returns-clause-is c = node-lookup c.args.self.now.nodes c.args.self.now.ordered c.args.place c.get.result c.get.ensures
