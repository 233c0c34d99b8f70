use Rattle.std.proofs.Common.{rules, ◌++◌, List, [], ℕ, refl, sym, ap, ◌∙◌, append-nil, string_bytes, Bor}
use Rattle.std.specs.Prelude.{IfErr}
use Rattle.std.proofs.lemmas.Result.{err_from_is_err_and}
use Rattle.syntect_easy.specs.syntect_theme.declared.style.Style.{Style}
use Rattle.syntect_writers.specs.Spans.{line_text, opening, background_of}
use Rattle.syntect_writers.specs.declared.html.IncludeBackground.{IncludeBackground}
use Rattle.syntect_writers.specs.declared.html.IncludeBackground.TheVariants.{IfDifferent}
use Rattle.syntect_easy.specs.Pages.{past_of, IsReadFault}
use Rattle.syntect_easy.proofs.ReaderLaws.{gives_more, gives_nothing, bytes_more, bytes_whole, stopped_at_line, err_on, read_faults, refused_by_line, any_fault, any_no_text}
use Rattle.syntect_easy.proofs.RowLaws.{rows_begin, some_text}
use Rattle.syntect_easy.proofs.html.page_of_lines.Goals as goal

pub loop-init : goal.loop-init
loop-init g c = (
  c.new-spans.ensures ∙ ap IfDifferent c.in_ok-page.ensures.color,
  λ definitions syntax b l. record {
    rows = [];
    read = rows_begin c.args.ss.now c.args.theme.now syntax (g.R.ReadLines.ahead c.args.reader) _ _ l c.new-bytes.ensures.items;
    written = c.in_ok-page.ensures.text ∙ sym (append-nil (opening c.args.theme.now));
  },
  λ e f. f,
)

pub returns-then-not-branch-clause-page : goal.returns-then-not-branch-clause-page
returns-then-not-branch-clause-page g c = λ definitions syntax b l.
    let left = g.R.ReadLines.ahead c.loop.reader in
    let after = g.R.ReadLines.ahead c.next_line.new.lines in
    let last = c.loop.bytes.items in
    let bytes = c.next_line.new.line.items in
    bytes_whole c.args.ss.now c.args.theme.now syntax (g.R.ReadLines.ahead c.args.reader) left after last (string_bytes c.loop.page) (string_bytes c.push_str.new.self) bytes c.loop.highlighter
    (c.loop.invariant.1 definitions syntax b l)
    (gives_nothing left after last bytes _ c.if-not-branch.true c.in_ok-next_line.ensures.next) c.in_ok-push_str.ensures.bytes

pub returns-in_err-pieces-clause-refused : goal.returns-in_err-pieces-clause-refused
returns-in_err-pieces-clause-refused g c = λ definitions syntax b l.
    let left = g.R.ReadLines.ahead c.loop.reader in
    let after = g.R.ReadLines.ahead c.next_line.new.lines in
    let last = c.loop.bytes.items in
    let bytes = c.next_line.new.line.items in
    let p = err_from_is_err_and c.from_residual-in_err-pieces.result c.from_residual-in_err-pieces.ensures.1 in
    let s = c.loop.invariant.1 definitions syntax b l in
    rw (p.1, p.2) (refused_by_line (g.R.ReadLines.failed c.args.reader) c.args.ss.now syntax (g.R.ReadLines.ahead c.args.reader) c.in_err-pieces.field-0.0 (stopped_at_line c.args.ss.now definitions c.args.theme.now syntax (g.R.ReadLines.ahead c.args.reader) left after last bytes s.rows c.in_ok-line.line c.loop.highlighter c.highlight_line.new.self c.in_err-pieces.field-0.0 s.read
    (c.in_err-pieces.ensures.answered (past_of definitions c.args.theme.now syntax s.rows) (record { built = b; leads = s.read.leads }))
    (gives_more left after last bytes _ c.if-not-branch.false c.in_ok-next_line.ensures.next)
    (c.in_ok-line.ensures.ok.0 ∙ c.as_slice.ensures.value) (rw c.as_slice.ensures.value at c.in_ok-line.ensures.ok.1)))

pub loop-preserved : goal.loop-preserved
loop-preserved g c = (
  c.append.ensures.kept ∙ c.loop.invariant.0,
  λ definitions syntax b l.
      let left = g.R.ReadLines.ahead c.loop.reader in
      let after = g.R.ReadLines.ahead c.next_line.new.lines in
      let last = c.loop.bytes.items in
      let bytes = c.next_line.new.line.items in
      let s = c.loop.invariant.1 definitions syntax b l in
      bytes_more c.args.ss.now definitions c.args.theme.now syntax (g.R.ReadLines.ahead c.args.reader) left after last (string_bytes c.loop.page) (string_bytes c.append.new.s) bytes
      c.in_ok-line.line c.loop.highlighter c.highlight_line.new.self c.in_ok-pieces.pieces s
      (c.in_ok-pieces.ensures.answered (past_of definitions c.args.theme.now syntax s.rows) (record { built = b; leads = s.read.leads }))
      (gives_more left after last bytes _ c.if-not-branch.false c.in_ok-next_line.ensures.next)
      (c.in_ok-line.ensures.ok.0 ∙ c.as_slice.ensures.value) (rw c.as_slice.ensures.value at c.in_ok-line.ensures.ok.1)
      (c.in_ok-append.ensures.ok
      ∙ ap (λ (ground : IncludeBackground). string_bytes c.loop.page ++ line_text ground c.as_slice-in-loop.result.now) c.loop.invariant.0
      ∙ ap (λ (ps : List (Style × Bor (List ℕ))). string_bytes c.loop.page ++ line_text (IfDifferent (background_of c.args.theme.now)) ps) c.as_slice-in-loop.ensures.value),
  λ e f. c.loop.invariant.2 e (c.next_line.ensures.same e f),
)

pub returns-in_err-next_line-clause-refused : goal.returns-in_err-next_line-clause-refused
returns-in_err-next_line-clause-refused g c = λ definitions syntax b l.
    let s = c.loop.invariant.1 definitions syntax b l in
    let Failed = g.R.ReadLines.failed c.args.reader in
    let there = g.R.ReadLines.failed c.loop.reader in
    let r = c.from_residual-in_err-next_line.result in
    let f : IfErr r (IsReadFault there) = search rules in
    any_fault Failed c.args.ss.now syntax (g.R.ReadLines.ahead c.args.reader) r c.args.theme.now (g.R.ReadLines.ahead c.loop.reader) c.loop.bytes.items s.rows c.loop.highlighter s.read
    (err_on r (IsReadFault there) (IsReadFault Failed) (read_faults Failed there c.loop.invariant.2) f)

pub returns-in_err-push_str-clause-refused : goal.returns-in_err-push_str-clause-refused
returns-in_err-push_str-clause-refused g c = λ definitions syntax b l.
    let s = c.loop.invariant.1 definitions syntax b l in
    any_fault (g.R.ReadLines.failed c.args.reader) c.args.ss.now syntax (g.R.ReadLines.ahead c.args.reader) c.from_residual-in_err-push_str.result c.args.theme.now (g.R.ReadLines.ahead c.loop.reader) c.loop.bytes.items s.rows c.loop.highlighter s.read (search rules)

pub returns-in_err-line-clause-refused : goal.returns-in_err-line-clause-refused
returns-in_err-line-clause-refused g c = λ definitions syntax b l.
    let s = c.loop.invariant.1 definitions syntax b l in
    let left = g.R.ReadLines.ahead c.loop.reader in
    let after = g.R.ReadLines.ahead c.next_line.new.lines in
    let last = c.loop.bytes.items in
    let bytes = c.next_line.new.line.items in
    let r = c.from_residual-in_err-line.result in
    any_no_text (g.R.ReadLines.failed c.args.reader) c.args.ss.now syntax (g.R.ReadLines.ahead c.args.reader) r c.args.theme.now left after last bytes s.rows c.loop.highlighter s.read
    (gives_more left after last bytes _ c.if-not-branch.false c.in_ok-next_line.ensures.next)
    (rw c.as_slice.ensures.value at c.in_err-line.ensures.not_utf8) (search rules)

pub returns-in_err-append-clause-refused : goal.returns-in_err-append-clause-refused
returns-in_err-append-clause-refused g c = λ definitions syntax b l.
    let s = c.loop.invariant.1 definitions syntax b l in
    any_fault (g.R.ReadLines.failed c.args.reader) c.args.ss.now syntax (g.R.ReadLines.ahead c.args.reader) c.from_residual-in_err-append.result c.args.theme.now (g.R.ReadLines.ahead c.loop.reader) c.loop.bytes.items s.rows c.loop.highlighter s.read (search rules)

pub returns-in_err-page-clause-refused : goal.returns-in_err-page-clause-refused
returns-in_err-page-clause-refused g c = λ definitions syntax b l.
    let had = g.R.ReadLines.ahead c.args.reader in
    any_fault (g.R.ReadLines.failed c.args.reader) c.args.ss.now syntax had c.from_residual.result c.args.theme.now had [] [] c.args.highlighter (rows_begin c.args.ss.now c.args.theme.now syntax had [] c.args.highlighter l refl) (search rules)

pub returns-clause-refused : goal.returns-clause-refused
returns-clause-refused g c = λ definitions syntax b l.
    let t = some_text (g.R.ReadLines.ahead c.args.reader) in (t.0, t.1, tt)
