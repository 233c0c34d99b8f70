use Rattle.syntect_shelf.proofs.ShelvingLaws.{plain_held}
use Rattle.syntect_shelf.proofs.shelf_builder.ShelfBuilder.add_plain_text_syntax.Goals as goal

pub returns-clause-ok : goal.returns-clause-ok
returns-clause-ok c = plain_held c.args.self.now c.add.new.self c.args.repository.now c.plain_definition.new.repository c.in-Ok.syntax c.in_ok-head.head c.in-Ok.ensures.ok c.in_ok-head.ensures c.in_ok-add.ensures.ok
