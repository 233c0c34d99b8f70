use Rattle.std.proofs.Common.{rules}
use Rattle.std.proofs.lemmas.Result.{err_from_is_err_and}
use Rattle.syntect_callers.proofs.ClassedSoFar.{so_far_none, so_far_more, page_whole, page_plain, stops, wanting, no_page, no_start}
use Rattle.syntect_callers.proofs.classed.classed_page_of.Goals as goal

pub loop-line-init : goal.loop-line-init
loop-line-init c =
    let g = c.in_ok-generator.ensures in
    so_far_none c.args.set.now c.args.syntax.now c.args.repository.now c.args.style c.args.text.now _ _ g.state g.text g.stack g.set g.repository g.classes (search rules)

pub loop-line-preserved : goal.loop-line-preserved
loop-line-preserved c =
    so_far_more c.args.set.now c.args.syntax.now c.args.repository.now c.args.style c.args.text.now _ _ c.in-Some.line.now _ _ c.loop-line.invariant
    c.in_ok-parse_html_for_line_which_includes_newline.ensures.accepted c.in-Some.ensures.steps

pub returns-clause-any_page : goal.returns-clause-any_page
returns-clause-any_page c =
    page_whole c.args.set.now c.args.syntax.now c.args.repository.now c.args.style c.args.text.now _ _ _ c.closed_texts_are_pages.ensures.pages c.lines_join.ensures.joined c.loop-line.invariant c.in-None.ensures.steps.0 c.in_ok-finalize.ensures

pub returns-clause-page : goal.returns-clause-page
returns-clause-page c = λ definitions b.
    page_plain c.args.set.now c.args.syntax.now c.args.repository.now c.args.style c.args.text.now _ (c.operations_are_never_refused.ensures.built c.args.set.now c.args.syntax.now definitions b)
    (page_whole c.args.set.now c.args.syntax.now c.args.repository.now c.args.style c.args.text.now _ _ _ c.closed_texts_are_pages.ensures.pages c.lines_join.ensures.joined c.loop-line.invariant c.in-None.ensures.steps.0 c.in_ok-finalize.ensures)

pub returns-in_err-parse_html_for_line_which_includes_newline-clause-any_refused : goal.returns-in_err-parse_html_for_line_which_includes_newline-clause-any_refused
returns-in_err-parse_html_for_line_which_includes_newline-clause-any_refused c =
    let r = c.from_residual-in_err-parse_html_for_line_which_includes_newline in
    let e = c.in_err-parse_html_for_line_which_includes_newline in
    let p = err_from_is_err_and r.result r.ensures.1 in
    rw (p.1, p.2) (stops c.args.set.now c.args.syntax.now c.args.repository.now c.args.style c.args.text.now _ c.in-Some.line.now _ _ e.field-0.0 c.closed_texts_are_pages.ensures.stands c.loop-line.invariant c.in-Some.ensures.steps e.ensures.refused)

pub returns-in_err-parse_html_for_line_which_includes_newline-clause-refused : goal.returns-in_err-parse_html_for_line_which_includes_newline-clause-refused
returns-in_err-parse_html_for_line_which_includes_newline-clause-refused c = λ definitions b.
    let r = c.from_residual-in_err-parse_html_for_line_which_includes_newline in
    let e = c.in_err-parse_html_for_line_which_includes_newline in
    let p = err_from_is_err_and r.result r.ensures.1 in
    rw (p.1, p.2) (no_page c.args.set.now c.args.syntax.now c.args.repository.now c.args.style c.args.text.now _ c.in-Some.line.now _ _ e.field-0.0 c.answers_more.ensures c.closed_texts_are_pages.ensures.stands
    (c.operations_are_never_refused.ensures.built c.args.set.now c.args.syntax.now definitions b) c.loop-line.invariant c.in-Some.ensures.steps e.ensures.refused)

pub returns-in_err-generator-clause-refused : goal.returns-in_err-generator-clause-refused
returns-in_err-generator-clause-refused c = λ definitions b.
    let p = err_from_is_err_and c.from_residual.result c.from_residual.ensures.1 in
    rw (p.1, p.2) (no_start c.args.set.now c.args.syntax.now c.args.text.now _ c.in_err-generator.ensures.refused)

pub returns-in_err-finalize-clause-any_refused : goal.returns-in_err-finalize-clause-any_refused
returns-in_err-finalize-clause-any_refused c =
    let r = c.from_residual-in_err-finalize in
    let p = err_from_is_err_and r.result r.ensures.1 in
    rw (p.1, p.2) (wanting c.args.set.now c.args.syntax.now c.args.repository.now c.args.style c.args.text.now _ _ c.closed_texts_are_pages.ensures.stands c.loop-line.invariant)
