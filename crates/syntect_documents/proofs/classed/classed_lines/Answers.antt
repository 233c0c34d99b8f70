use Rattle.std.proofs.Common.{◌++◌, ◌-◌, List, ℕ, arith, ap, ◌∙◌, string_bytes}
use Rattle.syntect_documents.specs.syntect_parsing.States.{standing}
use Rattle.syntect_documents.specs.syntect_scope.declared.stack.ScopeStackOp.{ScopeStackOp}
use Rattle.syntect_documents.specs.syntect_writers.Classes.{prefix_of}
use Rattle.syntect_documents.specs.syntect_writers.Lines.{text_left}
use Rattle.syntect_documents.specs.syntect_writers.Marks.{stack_after}
use Rattle.syntect_documents.specs.Classed.{classed_line}
use Rattle.syntect_documents.proofs.ClassedLaws.{all_lines, line_more, no_lines}
use Rattle.syntect_documents.proofs.classed.classed_lines.Goals as goal

pub loop-number-init : goal.loop-number-init
loop-number-init c =
    no_lines c.args.limits.now c.args.form c.args.set.now c.args.syntax.now c.args.classes.repository.now (prefix_of c.args.classes.style) c.args.text.now
    _ _ _ _ c.from-lines.ensures c.in_ok-state.ensures.found c.new-stack.ensures c.in_ok-page.ensures

pub push_classed-requires : goal.push_classed-requires
push_classed-requires c = rw c.as_slice.ensures.value c.in_ok-ops.ensures.order

pub loop-number-preserved : goal.loop-number-preserved
loop-number-preserved c =
    let page : List ℕ = string_bytes c.loop-number.page in
    let prefix : List ℕ = prefix_of c.args.classes.style in
    line_more c.args.limits.now c.args.form c.args.set.now c.args.syntax.now c.args.classes.repository.now prefix c.args.text.now
    (text_left c.loop-number.lines) (text_left c.next.new.self) page (string_bytes c.push_classed.new.out) c.in-Some.line.now c.in_ok-ops.ops.items c.in_ok-ops.limit c.loop-number.number (c.loop-number.number - c.args.form.first) c.loop-number.first c.first_of-first.result
    (standing c.loop-number.state) (standing c.read_line.new.state) c.loop-number.stack c.push_classed.new.stack
    c.loop-number.invariant
    c.in-Some.ensures.steps
    c.in_ok-ops.ensures.read
    (c.in_ok-push_classed.ensures.text ∙ ap (λ (ops : List (ℕ × ScopeStackOp)). page ++ classed_line c.args.form prefix c.args.classes.repository.now c.loop-number.number c.loop-number.stack c.in-Some.line.now ops) c.as_slice.ensures.value)
    (c.in_ok-push_classed.ensures.stack ∙ ap (λ (ops : List (ℕ × ScopeStackOp)). stack_after c.loop-number.stack ops) c.as_slice.ensures.value)
    (omega (arith, c.loop-number.auto.number))
    c.first_of-first.ensures

pub returns-in_default : goal.returns-in_default
returns-in_default c =
    all_lines c.args.limits.now c.args.form c.args.set.now c.args.syntax.now c.args.classes.repository.now (prefix_of c.args.classes.style) c.args.text.now
    (text_left c.loop-number.lines) (string_bytes c.loop-number.page) (string_bytes c.push_str.new.self) c.loop-number.number c.loop-number.first (standing c.loop-number.state) c.loop-number.stack
    c.loop-number.invariant c.in_default.ensures.steps.0 c.in_ok-push_str.ensures.bytes
