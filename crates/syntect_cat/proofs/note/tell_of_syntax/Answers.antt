use Rattle.syntect_cat.specs.Notes.{syntax_note}
use Rattle.syntect_cat.proofs.WriteLaws.{line_begun}
use Rattle.syntect_cat.proofs.note.tell_of_syntax.Goals as goal

pub returns : goal.returns
returns g c =
    line_begun c.put.result (g.E.Write.contents c.args.err.now) (g.E.Write.contents c.put.new.writer) c.as_bytes.result.now syntax_note c.as_bytes.ensures.value c.put.ensures.ok c.put.ensures.err
