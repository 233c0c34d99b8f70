use Rattle.std.proofs.Common.{◌≡◌, Some, length, sym, ◌∙◌}
use Rattle.syntect_grammar_limits.specs.FilesWithin.{room_after}
use Rattle.syntect_grammar_limits.proofs.FileLaws.{any_refused, any_left}
use Rattle.syntect_grammar_limits.proofs.files.load_counted.Goals as goal

pub returns : goal.returns
returns c =
    let left : room_after c.args.room.now (length c.args.text.now) ≡ Some c.in-Some.left = sym c.room_after.ensures ∙ c.in-Some.is in
    record {
      room = any_left c.args.limits.now c.args.lines_include_newline c.args.path.now c.args.repository.now c.args.room.now c.load_text.result c.args.text.now c.in-Some.left left;
      ok = c.load_text.ensures.ok;
      err = any_refused c.args.limits.now c.args.lines_include_newline c.args.path.now c.args.repository.now c.args.room.now c.args.text.now c.in-Some.left c.load_text.result left c.load_text.ensures.err;
      kept = c.load_text.ensures.kept;
    }
