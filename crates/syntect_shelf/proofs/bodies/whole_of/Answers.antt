use Rattle.syntect_shelf.proofs.FileLaws.{file_gives, file_refused, plain_gives, plain_refused}
use Rattle.syntect_shelf.proofs.bodies.whole_of.Goals as goal

pub returns-in-File-clause-ok : goal.returns-in-File-clause-ok
returns-in-File-clause-ok g c = file_gives (g.T.Tree.told c.args.tree.now) c.args.loading.now c.in-File.path c.as_str.result.now c.args.repository.now c.definition_in.new.repository c.args.grammar.now.source c.definition_in.result c.as_str.ensures c.in-File.is c.definition_in.ensures.ok

pub returns-in-File-clause-err : goal.returns-in-File-clause-err
returns-in-File-clause-err g c = file_refused (g.T.Tree.told c.args.tree.now) c.args.loading.now c.in-File.path c.as_str.result.now c.args.repository.now c.args.grammar.now.source c.definition_in.result c.as_str.ensures c.in-File.is c.definition_in.ensures.err

pub returns-in-Ok-clause-ok : goal.returns-in-Ok-clause-ok
returns-in-Ok-clause-ok g c = plain_gives (g.T.Tree.told c.args.tree.now) c.args.loading.now c.args.repository.now c.args.grammar.now.source c.plain_definition.new.repository c.in-Ok.definition c.in-PlainText.is c.in-Ok.ensures.ok

pub returns-in-Err-clause-err : goal.returns-in-Err-clause-err
returns-in-Err-clause-err g c = plain_refused (g.T.Tree.told c.args.tree.now) c.args.loading.now c.args.repository.now c.args.grammar.now.source c.refused_plain.result c.in-PlainText.is (c.refused_plain.ensures c.args.repository.now c.in-Err.ensures.err)
