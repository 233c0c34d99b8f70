use Rattle.std.proofs.Common.{arith, sym, ap, subst, ◌≡◌, ◌-◌, ◌<◌, ◌≤◌, ◌∙◌, ℕ, List, length, replicate, map, drop}
use Rattle.syntect_writers.specs.Marks.{Mark}
use Rattle.syntect_writers.specs.Marks.Mark.{Begin, End}
use Rattle.syntect_writers.specs.Writing.{Puts}
use Rattle.syntect_writers.specs.syntect_scope.Stack.{applied}
use Rattle.syntect_writers.proofs.PutLaws.{marks_fewer, marks_more}
use Rattle.syntect_writers.proofs.marks.Spans.operate.Goals as goal

pub returns-in_ok-end_all-clause-marks : goal.returns-in_ok-end_all-clause-marks
returns-in_ok-end_all-clause-marks c =
    let prefix = c.args.prefix.now in
    let repo = c.args.repository.now in
    let old = c.args.stack.now in
    let op = c.args.op.now in
    let now : c.len-now.result ≡ length (applied op old).scopes = c.len-now.ensures ∙ ap (λ s. length s.scopes) c.in_ok-apply.ensures.ok in
    let less : length (applied op old).scopes < length old.scopes = omega (arith, now, c.len-before.ensures, c.if-now-before.true) in
    let count : c.len-before.result - c.len-now.result ≡ length old.scopes - length (applied op old).scopes = omega (arith, now, c.len-before.ensures) in
    subst (λ (ms : List Mark). Puts prefix repo c.args.self.now ms c.end_all.new.self) (ap (λ (n : ℕ). replicate n End) count ∙ sym (marks_fewer op old less)) (c.in_ok-end_all.ensures prefix repo)

pub returns-in_ok-begin_all-clause-marks : goal.returns-in_ok-begin_all-clause-marks
returns-in_ok-begin_all-clause-marks c =
    let prefix = c.args.prefix.now in
    let repo = c.args.repository.now in
    let old = c.args.stack.now in
    let op = c.args.op.now in
    let now : c.len-now.result ≡ length (applied op old).scopes = c.len-now.ensures ∙ ap (λ s. length s.scopes) c.in_ok-apply.ensures.ok in
    let more : length old.scopes ≤ length (applied op old).scopes = omega (arith, now, c.len-before.ensures, c.if-now-before.false) in
    let pushed : c.split_at.result.1.now ≡ drop (length old.scopes) (applied op old).scopes =
    c.split_at.ensures.back ∙ ap (drop c.len-before.result) (c.as_slice.ensures ∙ ap (λ s. s.scopes) c.in_ok-apply.ensures.ok) ∙ ap (λ (n : ℕ). drop n (applied op old).scopes) c.len-before.ensures in
    subst (λ (ms : List Mark). Puts prefix repo c.args.self.now ms c.begin_all.new.self) (ap (map Begin) pushed ∙ sym (marks_more op old more)) c.in_ok-begin_all.ensures
