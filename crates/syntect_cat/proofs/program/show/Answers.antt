use Rattle.std.proofs.Common.{subst, string_bytes}
use Rattle.std.specs.Io.KnownBytes.{Appends}
use Rattle.syntect_cat.proofs.WriteLaws.{appends_kept, begins_whole}
use Rattle.syntect_cat.proofs.program.show.Goals as goal

pub returns-in-Ok-flush-clause-shown : goal.returns-in-Ok-flush-clause-shown
returns-in-Ok-flush-clause-shown g c =
    let old = g.W.Write.contents c.args.out.now in
    let mid = g.W.Write.contents c.put.new.writer in
    let new = g.W.Write.contents c.flush.new.self in
    let text = string_bytes c.in-Ok.shown.0 in
    (text, c.in-Ok.ensures.shown, appends_kept old mid new text (subst (Appends old mid) c.as_bytes.ensures.value c.in-Ok-put.ensures.ok) c.in-Ok-flush.ensures.bytes)

pub returns-clause-begun : goal.returns-clause-begun
returns-clause-begun g c = λ _.
    let old = g.W.Write.contents c.args.out.now in
    let mid = g.W.Write.contents c.put.new.writer in
    let new = g.W.Write.contents c.flush.new.self in
    let text = string_bytes c.in-Ok.shown.0 in
    (text, c.in-Ok.shown.1, c.in-Ok.ensures.shown, begins_whole old new text (appends_kept old mid new text (subst (Appends old mid) c.as_bytes.ensures.value c.in-Ok-put.ensures.ok) c.in-Err-flush.ensures.bytes))
