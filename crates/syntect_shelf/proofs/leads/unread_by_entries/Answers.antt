use Rattle.std.proofs.Common.{rules}
use Rattle.syntect_shelf.specs.Places.{places_of_entry}
use Rattle.syntect_shelf.proofs.UnreadLaws.{found_there, found_behind}
use Rattle.syntect_shelf.proofs.leads.unread_by_entries.Goals as goal

pub returns-then-is_some : goal.returns-then-is_some
returns-then-is_some c = found_there c.args.whole.now (places_of_entry c.args.definitions.now) c.args.entries.now c.loop-entry.entry-index c.entry-item.result c.unread_by_entry-found.result (search rules) c.entry-item.is c.unread_by_entry-found.ensures c.loop-entry.invariant (search rules)

pub loop-entry-preserved : goal.loop-entry-preserved
loop-entry-preserved c = found_behind c.args.whole.now (places_of_entry c.args.definitions.now) c.args.entries.now c.loop-entry.entry-index c.entry-item.result c.unread_by_entry-found.result (search rules) c.entry-item.is c.unread_by_entry-found.ensures c.loop-entry.invariant (search rules)
