use Rattle.std.proofs.Common.{◌++◌, List, ℕ, rules, ap, ◌∙◌, string_bytes, Bor}
use Rattle.std.proofs.lemmas.Result.{err_from_is_err_and}
use Rattle.syntect_easy.specs.syntect_theme.declared.style.Style.{Style}
use Rattle.syntect_writers.specs.Spans.{line_text, background_of}
use Rattle.syntect_writers.specs.declared.html.IncludeBackground.{IncludeBackground}
use Rattle.syntect_writers.specs.declared.html.IncludeBackground.TheVariants.{IfDifferent}
use Rattle.syntect_easy.specs.Pages.{past_of}
use Rattle.syntect_easy.proofs.PageLaws.{so_far_none, so_far_more, page_whole, no_page}
use Rattle.syntect_easy.proofs.html.highlighted_html_for_string.Goals as goal

pub loop-line-init : goal.loop-line-init
loop-line-init c = (
  c.new-writer.ensures ∙ ap IfDifferent c.in_ok-page.ensures.color,
  λ definitions b.
      so_far_none c.args.ss.now c.args.theme.now c.args.syntax.now c.args.s.now _ _ _ (c.in_ok-highlighter.ensures.leads c.args.ss.now) (search rules) c.in_ok-page.ensures.text,
)

pub returns-in_err-pieces-clause-refused : goal.returns-in_err-pieces-clause-refused
returns-in_err-pieces-clause-refused c = λ definitions b.
    let s = c.loop-line.invariant.1 definitions b in
    let p = err_from_is_err_and c.from_residual-in_err-pieces.result c.from_residual-in_err-pieces.ensures.1 in
    let l = c.in_err-pieces.ensures.answered (past_of definitions c.args.theme.now c.args.syntax.now s.rows) (record { built = b; leads = s.leads }) in
    rw (p.1, p.2) (no_page c.args.ss.now definitions c.args.theme.now c.args.syntax.now c.args.s.now _ _ c.in-Some.line _ _ c.highlight_line.new.self c.in_err-pieces.field-0.0 s l c.in-Some.ensures.steps)

pub loop-line-preserved : goal.loop-line-preserved
loop-line-preserved c = (
  c.append.ensures.kept ∙ c.loop-line.invariant.0,
  λ definitions b.
      let s = c.loop-line.invariant.1 definitions b in
      let l = c.in_ok-pieces.ensures.answered (past_of definitions c.args.theme.now c.args.syntax.now s.rows) (record { built = b; leads = s.leads }) in
      so_far_more c.args.ss.now definitions c.args.theme.now c.args.syntax.now c.args.s.now _ _ _ _ c.in-Some.line _ c.highlight_line.new.self c.in_ok-pieces.pieces s l c.in-Some.ensures.steps
      (c.in_ok-append.ensures.ok
      ∙ ap (λ (ground : IncludeBackground). string_bytes c.loop-line.page ++ line_text ground c.as_slice.result.now) c.loop-line.invariant.0
      ∙ ap (λ (ps : List (Style × Bor (List ℕ))). string_bytes c.loop-line.page ++ line_text (IfDifferent (background_of c.args.theme.now)) ps) c.as_slice.ensures.value),
)

pub returns-clause-page : goal.returns-clause-page
returns-clause-page c = λ definitions b.
    page_whole c.args.ss.now c.args.theme.now c.args.syntax.now c.args.s.now _ _ _ _ (c.loop-line.invariant.1 definitions b) c.in-None.ensures.steps.0 c.in_ok-push_str.ensures.bytes
