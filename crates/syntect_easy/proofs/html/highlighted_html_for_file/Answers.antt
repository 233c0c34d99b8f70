use Rattle.std.proofs.Common.{ℕ, List, inr, subst}
use Rattle.std.specs.Path.{path_bytes}
use Rattle.syntect_easy.specs.syntect_base.Trees.{not_read_on}
use Rattle.syntect_easy.specs.LineErrors.{error_of}
use Rattle.syntect_easy.specs.Pages.{IsStopped}
use Rattle.syntect_easy.proofs.FileLaws.{built_of, text_of_file}
use Rattle.syntect_easy.proofs.html.highlighted_html_for_file.Goals as goal

pub returns-in-Ok-page_of_reader-clause-page : goal.returns-in-Ok-page_of_reader-clause-page
returns-in-Ok-page_of_reader-clause-page g c = λ definitions b.
    let u = c.in-Ok.ensures.unread in
    let path = path_bytes c.args.path in
    let set = c.args.ss.now in
    let h = c.in-Ok-page_of_reader.ensures.page definitions u.1 (built_of set path u.1 definitions b u.3.is_for) u.4 in
    (u.1, h.0, text_of_file (g.T.Tree.told c.args.tree.now) set path u.1 u.0 _ u.5 u.2 u.3 h.0 h.1, h.2)

pub returns-in-Err-page_of_reader-clause-refused : goal.returns-in-Err-page_of_reader-clause-refused
returns-in-Err-page_of_reader-clause-refused g c = λ definitions b.
    let u = c.in-Ok.ensures.unread in
    let Told = g.T.Tree.told c.args.tree.now in
    let path = path_bytes c.args.path in
    let set = c.args.ss.now in
    let e = c.in-Err-page_of_reader.e in
    let h = c.in-Err-page_of_reader.ensures.refused definitions u.1 (built_of set path u.1 definitions b u.3.is_for) u.4 in
    rw c.into_error.ensures (inr (
      u.1,
      h.0,
      text_of_file Told set path u.1 u.0 _ u.5 u.2 u.3 h.0 h.1,
      subst (λ (p : List ℕ). IsStopped (λ x. Told (not_read_on p x)) set u.1 h.0 (error_of e)) c.as_str.ensures h.2,
    ))
