use Rattle.std.proofs.Common.{inl, inr, ◌∙◌}
use Rattle.syntect_cat.specs.Notes.{note_line, short_note}
use Rattle.syntect_cat.proofs.WriteLaws.{line_begun}
use Rattle.syntect_cat.proofs.note.tell_of_plain.Goals as goal

pub returns-in-Ok : goal.returns-in-Ok
returns-in-Ok g c =
    inl (line_begun c.put.result (g.E.Write.contents c.args.err.now) (g.E.Write.contents c.put.new.writer) c.as_bytes.result.now (note_line c.args.line) (c.as_bytes.ensures.value ∙ c.in-Ok.ensures) c.put.ensures.ok c.put.ensures.err)

pub returns-in-Err : goal.returns-in-Err
returns-in-Err g c =
    inr (line_begun c.put-in-Err.result (g.E.Write.contents c.args.err.now) (g.E.Write.contents c.put-in-Err.new.writer) c.as_bytes-in-Err.result.now short_note c.as_bytes-in-Err.ensures.value c.put-in-Err.ensures.ok c.put-in-Err.ensures.err)
