use Rattle.syntect_easy.proofs.ReaderLaws.{stopped_so}
use Rattle.syntect_easy.proofs.html.page_of_reader.Goals as goal

pub returns-in-Err-clause-refused : goal.returns-in-Err-clause-refused
returns-in-Err-clause-refused g c = λ definitions syntax b l.
    let t = c.in-Err.ensures.refused definitions syntax b l in
    rw c.of.ensures (t.0, t.1, stopped_so (g.R.ReadLines.failed c.args.reader) c.args.ss.now syntax t.0 c.in-Err.e t.2)
