use Rattle.syntect_pattern_table.specs.Table.{trees}
use Rattle.syntect_pattern_table.proofs.BeginLaws.{dead-known}
use Rattle.syntect_pattern_table.proofs.program.Program.none_begins_at.Goals as goal

pub returns-in-Some : goal.returns-in-Some
returns-in-Some c =
    dead-known c.args.text.now c.utf8.text c.args.place c.requires c.args.self.now.firsts (trees c.args.self.now.nodes) c.args.self.now.begun c.args.node
    c.in-Some.places c.in-Some.ensures c.start_at.result c.start_at.ensures.value c.start_at.ensures.bound c.is_in.result c.is_in.ensures
