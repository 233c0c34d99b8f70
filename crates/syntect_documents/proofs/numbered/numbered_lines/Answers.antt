use Rattle.std.proofs.Common.{◌++◌, ◌-◌, List, [], ℕ, refl, sym, ap, ◌∙◌, append-nil, arith, string_bytes, Bor, rules}
use Rattle.syntect_documents.specs.syntect_assets.syntect_theme.declared.style.Style.{Style}
use Rattle.syntect_documents.specs.syntect_writers.Spans.{background_of, opening}
use Rattle.syntect_documents.specs.syntect_writers.declared.html.IncludeBackground.{IncludeBackground}
use Rattle.syntect_documents.specs.syntect_writers.declared.html.IncludeBackground.TheVariants.{IfDifferent}
use Rattle.syntect_documents.specs.syntect_easy.Pages.{past_of}
use Rattle.syntect_documents.specs.syntect_easy.PlainLines.{rows_in}
use Rattle.syntect_documents.specs.Numbered.{numbered_line}
use Rattle.syntect_documents.proofs.NumberedLaws.{line_more, text_whole}
use Rattle.syntect_assets.proofs.syntect_easy_proofs.ReaderLaws.{line_faults, no_faults, no_text_faults}
use Rattle.syntect_assets.proofs.TextLaws.{gives_more, gives_nothing}
use Rattle.syntect_documents.proofs.numbered.numbered_lines.Goals as goal

pub loop-number-init : goal.loop-number-init
loop-number-init g c = (
  c.new-spans.ensures ∙ ap IfDifferent c.in_ok-page.ensures.color,
  λ definitions syntax b l. record {
    lines = [];
    so_far = c.lines_within_limits.ensures.begin c.args.limits.now c.args.set.now c.args.theme.now syntax (g.L.ReadLines.ahead c.args.lines) _ _ l c.new-bytes.ensures.items;
    written = c.in_ok-page.ensures.text ∙ sym (append-nil (opening c.args.theme.now));
    count = omega arith;
    first_is = refl;
  },
  c.lines_of_readers.ensures.begin (g.L.ReadLines.ahead c.args.lines) _ c.new-bytes.ensures.items,
  λ e f. f,
)

pub returns-then-not-branch-clause-text : goal.returns-then-not-branch-clause-text
returns-then-not-branch-clause-text g c = λ definitions syntax b l.
    let left = g.L.ReadLines.ahead c.loop-number.lines in
    let after = g.L.ReadLines.ahead c.next_line.new.lines in
    let last = c.loop-number.bytes.items in
    let bytes = c.next_line.new.line.items in
    text_whole c.lines_within_limits.ensures.all c.args.limits.now c.args.form c.args.set.now c.args.theme.now syntax (g.L.ReadLines.ahead c.args.lines) left after last (string_bytes c.loop-number.page) (string_bytes c.push_str.new.self) bytes
    c.loop-number.number c.loop-number.first c.loop-number.highlighter
    (c.loop-number.invariant.1 definitions syntax b l)
    (gives_nothing left after last bytes _ c.if-not-branch.true c.in_ok-next_line.ensures.next)
    c.in_ok-push_str.ensures.bytes

pub loop-number-preserved : goal.loop-number-preserved
loop-number-preserved g c = (
  c.push_numbered.ensures.kept ∙ c.loop-number.invariant.0,
  λ definitions syntax b l.
      let left = g.L.ReadLines.ahead c.loop-number.lines in
      let after = g.L.ReadLines.ahead c.next_line.new.lines in
      let last = c.loop-number.bytes.items in
      let bytes = c.next_line.new.line.items in
      let s = c.loop-number.invariant.1 definitions syntax b l in
      line_more c.lines_within_limits.ensures.more c.args.limits.now c.args.form c.args.set.now definitions c.args.theme.now syntax (g.L.ReadLines.ahead c.args.lines) left after last (string_bytes c.loop-number.page) (string_bytes c.push_numbered.new.out) bytes
      c.loop-number.number (c.loop-number.number - c.args.form.first) c.loop-number.first c.first_of-first.result c.in_ok-line.line c.loop-number.highlighter c.highlight_line_or_plain.new.self c.in_ok-pieces.pieces c.in_ok-pieces.limit s
      (c.in_ok-pieces.ensures.answered (past_of definitions c.args.theme.now syntax (rows_in s.lines)) (record { built = b; leads = s.so_far.leads }))
      (gives_more left after last bytes _ c.if-not-branch.false c.in_ok-next_line.ensures.next)
      (c.in_ok-line.ensures.ok.0 ∙ c.as_slice.ensures.value) (rw c.as_slice.ensures.value at c.in_ok-line.ensures.ok.1)
      (c.in_ok-push_numbered.ensures.text
      ∙ ap (λ (k : IncludeBackground). string_bytes c.loop-number.page ++ numbered_line c.args.form k c.loop-number.number c.as_slice-in-loop-number.result.now) c.loop-number.invariant.0
      ∙ ap (λ (ps : List (Style × Bor (List ℕ))). string_bytes c.loop-number.page ++ numbered_line c.args.form (IfDifferent (background_of c.args.theme.now)) c.loop-number.number ps) c.as_slice-in-loop-number.ensures.value)
      (omega (arith, c.loop-number.auto.number))
      c.first_of-first.ensures,
  c.lines_of_readers.ensures.more (g.L.ReadLines.ahead c.args.lines) (g.L.ReadLines.ahead c.loop-number.lines) (g.L.ReadLines.ahead c.next_line.new.lines) c.loop-number.bytes.items c.next_line.new.line.items c.loop-number.invariant.2
      (gives_more (g.L.ReadLines.ahead c.loop-number.lines) (g.L.ReadLines.ahead c.next_line.new.lines) c.loop-number.bytes.items c.next_line.new.line.items _ c.if-not-branch.false c.in_ok-next_line.ensures.next),
  λ e f. c.loop-number.invariant.3 e (c.next_line.ensures.same e f),
)

pub returns-in_err-next_line-clause-faults : goal.returns-in_err-next_line-clause-faults
returns-in_err-next_line-clause-faults g c =
    line_faults (g.L.ReadLines.failed c.args.lines) (g.L.ReadLines.ahead c.args.lines) c.from_residual-in_err-next_line.result (g.L.ReadLines.failed c.loop-number.lines) c.loop-number.invariant.3 (search rules)

pub returns-in_err-line-clause-faults : goal.returns-in_err-line-clause-faults
returns-in_err-line-clause-faults g c =
    let had = g.L.ReadLines.ahead c.args.lines in
    let left = g.L.ReadLines.ahead c.loop-number.lines in
    let after = g.L.ReadLines.ahead c.next_line.new.lines in
    let last = c.loop-number.bytes.items in
    let bytes = c.next_line.new.line.items in
    let r = c.from_residual-in_err-line.result in
    no_text_faults (g.L.ReadLines.failed c.args.lines) had r bytes
    (c.lines_of_readers.ensures.no_text had left after last bytes c.loop-number.invariant.2 (gives_more left after last bytes _ c.if-not-branch.false c.in_ok-next_line.ensures.next))
    (rw c.as_slice.ensures.value at c.in_err-line.ensures.not_utf8) (search rules)

pub returns-in_err-pieces-clause-faults : goal.returns-in_err-pieces-clause-faults
returns-in_err-pieces-clause-faults g c =
    no_faults (g.L.ReadLines.failed c.args.lines) (g.L.ReadLines.ahead c.args.lines) c.from_residual-in_err-pieces.result (search rules)
