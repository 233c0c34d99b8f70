use Rattle.std.proofs.Common.{◌-◌, ◌^◌, string_bytes}
use Rattle.syntect_grammar_limits.proofs.FileLaws.{no_text_read}
use Rattle.syntect_shelf.proofs.FileLaws.{text_gives, text_refused}
use Rattle.syntect_shelf.proofs.bodies.definition_in.Goals as goal

pub returns-in-Ok-clause-ok : goal.returns-in-Ok-clause-ok
returns-in-Ok-clause-ok g c =
    text_gives (g.T.Tree.told c.args.tree.now) c.args.loading.now c.args.path.now c.args.repository.now (string_bytes c.in-Ok.text) c.as_str.result.now c.load_text.new.repository c.load_text.result c.as_str.ensures.value c.in-Ok.ensures.ok
    c.load_text.ensures.ok

pub returns-in-Ok-clause-err : goal.returns-in-Ok-clause-err
returns-in-Ok-clause-err g c =
    text_refused (g.T.Tree.told c.args.tree.now) c.args.loading.now c.args.path.now c.args.repository.now (string_bytes c.in-Ok.text) c.as_str.result.now c.load_text.result c.as_str.ensures.value c.in-Ok.ensures.ok c.load_text.ensures.err

pub returns-in-Err-clause-err : goal.returns-in-Err-clause-err
returns-in-Err-clause-err g c =
    no_text_read c.args.loading.now.limits c.args.loading.now.lines_include_newline c.args.path.now c.args.repository.now (2 ^ 64 - 1) (g.T.Tree.told c.args.tree.now) c.in-Err.e c.from.result c.in-Err.ensures.err c.from.ensures
