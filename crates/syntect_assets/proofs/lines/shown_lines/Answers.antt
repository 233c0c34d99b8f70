use Rattle.std.proofs.Common.{◌++◌, List, [], ℕ, refl, sym, ap, ◌∙◌, append-nil, string_bytes, Bor, rules}
use Rattle.std.proofs.lemmas.Result.{err_from_is_err_and}
use Rattle.syntect_assets.specs.syntect_theme.declared.style.Style.{Style}
use Rattle.syntect_assets.specs.declared.writer.Ground.{Ground}
use Rattle.syntect_easy.specs.Pages.{past_of}
use Rattle.syntect_easy.specs.PlainLines.{rows_in}
use Rattle.syntect_assets.specs.Texts.{end_of, front_of, ground_of, line_of}
use Rattle.syntect_easy.proofs.ReaderLaws.{line_faults, no_faults, no_text_faults}
use Rattle.syntect_assets.proofs.TextLaws.{gives_more, gives_nothing, line_more, text_whole}
use Rattle.syntect_assets.proofs.lines.shown_lines.Goals as goal

pub loop-before-init : goal.loop-before-init
loop-before-init g c = (
  c.in_ok-writer.ensures.way,
  λ definitions syntax b l. record {
    lines = [];
    so_far = c.lines_within_limits.ensures.begin c.args.limits.now c.args.set.now c.args.theme.now syntax (g.L.ReadLines.ahead c.args.lines) _ _ l c.new-bytes.ensures.items;
    written = c.in_ok-writer.ensures.front ∙ sym (append-nil (front_of c.args.format c.args.theme.now));
    count = refl;
    first_is = refl;
  },
  c.lines_of_readers.ensures.begin (g.L.ReadLines.ahead c.args.lines) _ c.new-bytes.ensures.items,
  λ e f. f,
)

pub returns-then-not-branch-clause-text : goal.returns-then-not-branch-clause-text
returns-then-not-branch-clause-text g c = λ definitions syntax b l.
    let left = g.L.ReadLines.ahead c.loop-before.lines in
    let after = g.L.ReadLines.ahead c.next_line.new.lines in
    let last = c.loop-before.bytes.items in
    let bytes = c.next_line.new.line.items in
    text_whole c.lines_within_limits.ensures.all c.args.limits.now c.args.format c.args.set.now c.args.theme.now syntax (g.L.ReadLines.ahead c.args.lines) left after last (string_bytes c.loop-before.writer.text) (string_bytes c.in_ok-whole.field-0) bytes
    c.loop-before.before c.loop-before.first c.loop-before.highlighter
    (c.loop-before.invariant.1 definitions syntax b l)
    (gives_nothing left after last bytes _ c.if-not-branch.true c.in_ok-next_line.ensures.next)
    (c.in_ok-whole.ensures ∙ ap (λ (o : Ground). string_bytes c.loop-before.writer.text ++ end_of o) c.loop-before.invariant.0)

pub loop-before-preserved : goal.loop-before-preserved
loop-before-preserved g c = (
  c.in_ok-append.ensures.way ∙ c.loop-before.invariant.0,
  λ definitions syntax b l.
      let left = g.L.ReadLines.ahead c.loop-before.lines in
      let after = g.L.ReadLines.ahead c.next_line.new.lines in
      let last = c.loop-before.bytes.items in
      let bytes = c.next_line.new.line.items in
      let s = c.loop-before.invariant.1 definitions syntax b l in
      line_more c.lines_within_limits.ensures.more c.args.limits.now c.args.format c.args.set.now definitions c.args.theme.now syntax (g.L.ReadLines.ahead c.args.lines) left after last (string_bytes c.loop-before.writer.text) (string_bytes c.append.new.self.text) bytes
      c.loop-before.before c.loop-before.first c.first_of-first.result c.in_ok-line.line c.loop-before.highlighter c.highlight_line_or_plain.new.self c.in_ok-pieces.pieces c.in_ok-pieces.limit s
      (c.in_ok-pieces.ensures.answered (past_of definitions c.args.theme.now syntax (rows_in s.lines)) (record { built = b; leads = s.so_far.leads }))
      (gives_more left after last bytes _ c.if-not-branch.false c.in_ok-next_line.ensures.next)
      (c.in_ok-line.ensures.ok.0 ∙ c.as_slice.ensures.value) (rw c.as_slice.ensures.value at c.in_ok-line.ensures.ok.1)
      (c.in_ok-append.ensures.text
      ∙ ap (λ (o : Ground). string_bytes c.loop-before.writer.text ++ line_of o c.as_slice-in-loop-before.result.now) c.loop-before.invariant.0
      ∙ ap (λ (ps : List (Style × Bor (List ℕ))). string_bytes c.loop-before.writer.text ++ line_of (ground_of c.args.format c.args.theme.now) ps) c.as_slice-in-loop-before.ensures.value)
      c.first_of-first.ensures,
  c.lines_of_readers.ensures.more (g.L.ReadLines.ahead c.args.lines) (g.L.ReadLines.ahead c.loop-before.lines) (g.L.ReadLines.ahead c.next_line.new.lines) c.loop-before.bytes.items c.next_line.new.line.items c.loop-before.invariant.2
      (gives_more (g.L.ReadLines.ahead c.loop-before.lines) (g.L.ReadLines.ahead c.next_line.new.lines) c.loop-before.bytes.items c.next_line.new.line.items _ c.if-not-branch.false c.in_ok-next_line.ensures.next),
  λ e f. c.loop-before.invariant.3 e (c.next_line.ensures.same e f),
)

pub returns-in_err-next_line-clause-faults : goal.returns-in_err-next_line-clause-faults
returns-in_err-next_line-clause-faults g c =
    line_faults (g.L.ReadLines.failed c.args.lines) (g.L.ReadLines.ahead c.args.lines) c.from_residual-in_err-next_line.result (g.L.ReadLines.failed c.loop-before.lines) c.loop-before.invariant.3 (search rules)

pub returns-in_err-line-clause-faults : goal.returns-in_err-line-clause-faults
returns-in_err-line-clause-faults g c =
    let had = g.L.ReadLines.ahead c.args.lines in
    let left = g.L.ReadLines.ahead c.loop-before.lines in
    let after = g.L.ReadLines.ahead c.next_line.new.lines in
    let last = c.loop-before.bytes.items in
    let bytes = c.next_line.new.line.items in
    let r = c.from_residual-in_err-line.result in
    no_text_faults (g.L.ReadLines.failed c.args.lines) had r bytes
    (c.lines_of_readers.ensures.no_text had left after last bytes c.loop-before.invariant.2 (gives_more left after last bytes _ c.if-not-branch.false c.in_ok-next_line.ensures.next))
    (rw c.as_slice.ensures.value at c.in_err-line.ensures.not_utf8) (search rules)

pub returns-in_err-pieces-clause-faults : goal.returns-in_err-pieces-clause-faults
returns-in_err-pieces-clause-faults g c =
    no_faults (g.L.ReadLines.failed c.args.lines) (g.L.ReadLines.ahead c.args.lines) c.from_residual-in_err-pieces.result (search rules)

pub returns-in_err-writer-clause-faults : goal.returns-in_err-writer-clause-faults
returns-in_err-writer-clause-faults g c = let p = err_from_is_err_and c.from_residual.result c.from_residual.ensures.1 in rw (p.1, p.2) tt

pub returns-in_err-whole-clause-faults : goal.returns-in_err-whole-clause-faults
returns-in_err-whole-clause-faults g c = let p = err_from_is_err_and c.from_residual-in_err-whole.result c.from_residual-in_err-whole.ensures.1 in rw (p.1, p.2) tt

pub returns-in_err-append-clause-faults : goal.returns-in_err-append-clause-faults
returns-in_err-append-clause-faults g c = let p = err_from_is_err_and c.from_residual-in_err-append.result c.from_residual-in_err-append.ensures.1 in rw (p.1, p.2) tt
