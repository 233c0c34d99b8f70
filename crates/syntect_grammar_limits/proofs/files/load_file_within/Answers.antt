use Rattle.std.proofs.Common.{string_bytes}
use Rattle.syntect_grammar_limits.proofs.FileLaws.{no_text_read, text_refused, text_gives}
use Rattle.syntect_grammar_limits.proofs.files.load_file_within.Goals as goal

pub returns-in-Ok-clause-ok : goal.returns-in-Ok-clause-ok
returns-in-Ok-clause-ok g c =
    text_gives c.args.limits.now c.args.lines_include_newline c.args.path.now c.args.repository.now c.args.room.now (g.T.Tree.told c.args.tree.now) (string_bytes c.in-Ok.text) c.as_str.result.now c.as_str.ensures.value c.in-Ok.ensures.ok
    c.load_counted.new.room c.load_counted.new.repository c.load_counted.result c.load_counted.ensures.room c.load_counted.ensures.ok

pub returns-in-Ok-clause-err : goal.returns-in-Ok-clause-err
returns-in-Ok-clause-err g c =
    text_refused c.args.limits.now c.args.lines_include_newline c.args.path.now c.args.repository.now c.args.room.now (g.T.Tree.told c.args.tree.now) (string_bytes c.in-Ok.text) c.as_str.result.now c.as_str.ensures.value c.in-Ok.ensures.ok
    c.load_counted.result c.load_counted.ensures.err

pub returns-in-Err-clause-err : goal.returns-in-Err-clause-err
returns-in-Err-clause-err g c =
    no_text_read c.args.limits.now c.args.lines_include_newline c.args.path.now c.args.repository.now c.args.room.now (g.T.Tree.told c.args.tree.now) c.in-Err.e c.from.result c.in-Err.ensures.err c.from.ensures
