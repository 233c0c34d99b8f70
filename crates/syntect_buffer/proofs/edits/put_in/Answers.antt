use Rattle.std.proofs.Common.{◌≡◌, ap, ◌∙◌, arith, List, String, Global}
use Rattle.std.specs.List.{remove}
use Rattle.syntect_buffer.specs.declared.reading.Reading.{Reading}
use Rattle.syntect_buffer.proofs.EditLaws.{insert_remove}
use Rattle.syntect_buffer.proofs.edits.put_in.Goals as goal

pub returns-in-Err-clause-err : goal.returns-in-Err-clause-err
returns-in-Err-clause-err c =
    let kept = c.args.kept.now in
    let l : c.remove.new.self ≡ kept.lines =
    c.remove.ensures.rest ∙ ap (λ (xs : List (String Global)). remove xs c.args.place) c.in_ok-insert.ensures.ok ∙ insert_remove kept.lines c.args.place c.args.line (omega arith) in
    ap (λ (xs : List (String Global)). record kept { lines = xs; readings = c.insert-2.new.self }) l
    ∙ ap (λ (rs : List Reading). record kept { readings = rs }) c.in-Err.ensures.err
