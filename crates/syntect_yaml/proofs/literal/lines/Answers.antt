use Rattle.std.proofs.Common.{◌≡◌, ◌-◌, ◌<◌, ◌++◌, [], Some, append-nil, List, ℕ, true, false, length, sym, ap, ◌∙◌, rules, arith, le_refl}
use Rattle.std.proofs.lemmas.Grind.{common_steps}
use Rattle.syntect_yaml.specs.Scalars.{prepend}
use Rattle.syntect_yaml.specs.Literal.{belongs}
use Rattle.syntect_yaml.proofs.QuotedLaws.{prepend-nil, prepend-prepend}
use Rattle.syntect_yaml.proofs.LiteralLaws.{lines_more, lines_stop, lines_end}
use Rattle.syntect_yaml.proofs.literal.lines.Goals as goal
use Rattle.syntect_yaml.proofs.literal.lines.Goals.{then-lines-test+else-belongs, else-lines-test}

pub lines-init : goal.lines-init
lines-init c = (c.utf8.text, le_refl _, λ n h. (n, h, rw c.new-out.ensures (sym (prepend-nil _))))

pub lines-preserved : goal.lines-preserved
lines-preserved c =
    let l = c.lines in
    let some : 0 < length l.rest.now = grind (arith, common_steps) in
    let less = c.after_line-rest.ensures.shorter some in
    let deep : belongs c.args.column l.rest.now ≡ true = grind (arith, common_steps) in (
      search rules,
      omega (arith, l.invariant.1),
      λ n h.
          let (m, room, same) = l.invariant.2 n h in
          let turn = lines_more c.args.column m l.rest.now (omega arith) some deep in
          (m - 1, omega arith, same ∙ ap (prepend l.out) turn ∙ prepend-prepend l.out _ _ ∙ rw (c.after_line-rest.ensures.rest, c.in_ok-push_line.ensures)),
    )

pub returns-clause-value : goal.returns-clause-value
returns-clause-value c n h =
    let l = c.lines in
    let (m, room, same) = l.invariant.2 n h in
    let whole : (l.out ++ [], l.rest.now) ≡ (l.out, l.rest.now) = ap (λ (xs : List ℕ). (xs, l.rest.now)) (append-nil l.out) in
    elim c.lines-test.branch [
      | then-lines-test+else-belongs w ↦
          let shallow : belongs c.args.column l.rest.now ≡ false = grind (arith, common_steps) in
          same ∙ ap (prepend l.out) (lines_stop c.args.column m l.rest.now (omega arith) shallow) ∙ ap (λ p. Some p) whole
      | else-lines-test w ↦
          let none : length l.rest.now ≡ 0 = grind (arith, common_steps) in
          same ∙ ap (prepend l.out) (lines_end c.args.column m l.rest.now (omega arith) none) ∙ ap (λ p. Some p) whole
    ]
