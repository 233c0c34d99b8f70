use Rattle.std.proofs.Common.{List, ℕ}
use Rattle.syntect_easy.specs.Pages.{HasNoPageOfBytes}
use Rattle.syntect_easy.specs.Rows.{IsTextOf, HasStopped}
use Rattle.syntect_easy.proofs.ReaderLaws.{err_on, stopped_page}
use Rattle.syntect_easy.proofs.html.highlighted_html_for_reader.Goals as goal

pub returns-clause-page : goal.returns-clause-page
returns-clause-page g c = λ definitions b.
    c.page_of_lines.ensures.page definitions c.args.syntax.now b (c.in_ok-highlighter.ensures.leads c.args.ss.now)

pub returns-clause-refused : goal.returns-clause-refused
returns-clause-refused g c = λ definitions b.
    let had = g.R.ReadLines.ahead c.args.reader in
    let Failed = g.R.ReadLines.failed c.args.reader in
    err_on c.page_of_lines.result (HasStopped Failed c.args.ss.now c.args.syntax.now had)
    (λ e. (text : List ℕ) × IsTextOf had text × HasNoPageOfBytes Failed c.args.ss.now c.args.syntax.now text e)
    (stopped_page Failed c.args.ss.now c.args.syntax.now had)
    (c.page_of_lines.ensures.refused definitions c.args.syntax.now b (c.in_ok-highlighter.ensures.leads c.args.ss.now))
