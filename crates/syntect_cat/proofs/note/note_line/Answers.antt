use Rattle.syntect_cat.proofs.note.note_line.Goals as goal

pub returns : goal.returns
returns c = rw c.in_ok-reached.ensures at c.format.ensures.ok
