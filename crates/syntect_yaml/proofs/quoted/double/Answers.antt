use Rattle.std.proofs.Common.{◌≡◌, ◌-◌, ◌==◌, true, false, drop, List, ℕ, None, Some, sym, ap, ◌∙◌, rules, arith, le_refl}
use Rattle.std.proofs.lemmas.Grind.{common_steps}
use Rattle.std.proofs.lemmas.Bool.Decides.{nat_tests}
use Rattle.syntect_yaml.specs.Lines.{first}
use Rattle.syntect_yaml.specs.Scalars.{prepend, double, escape}
use Rattle.syntect_yaml.proofs.QuotedLaws.{prepend-nil, prepend-prepend, double_none, double_bad, double_end, double_more, joined}
use Rattle.syntect_yaml.proofs.quoted.double.Goals as goal

pub pieces-init : goal.pieces-init
pieces-init c = (c.utf8.text, le_refl _, λ n h. (n, h, rw c.new-out.ensures (sym (prepend-nil _))))

pub returns-then-first-eq34-clause-value : goal.returns-then-first-eq34-clause-value
returns-then-first-eq34-clause-value c n h =
    let (m, room, same) = c.pieces.invariant.2 n h in
    let e : (first c.split_run.result.1.now == 34) ≡ true = grind (arith, nat_tests, common_steps) in
    same ∙ ap (prepend c.pieces.out) (double_end m c.pieces.rest.now _ _ (omega arith) c.split_run.ensures.parts e) ∙ grind (arith, common_steps)

pub returns-then-first-ne92-clause-value : goal.returns-then-first-ne92-clause-value
returns-then-first-ne92-clause-value c n h =
    let (m, room, same) = c.pieces.invariant.2 n h in
    let e : (first c.split_run.result.1.now == 34) ≡ false = grind (arith, nat_tests, common_steps) in
    let f : (first c.split_run.result.1.now == 92) ≡ false = grind (arith, nat_tests, common_steps) in
    same ∙ ap (prepend c.pieces.out) (double_none m c.pieces.rest.now _ _ (omega arith) c.split_run.ensures.parts e f)

pub returns-in_default-clause-value : goal.returns-in_default-clause-value
returns-in_default-clause-value c n h =
    let (m, room, same) = c.pieces.invariant.2 n h in
    let e : (first c.split_run.result.1.now == 34) ≡ false = grind (arith, nat_tests, common_steps) in
    let f : (first c.split_run.result.1.now == 92) ≡ true = grind (arith, nat_tests, common_steps) in
    let g : escape (drop 1 c.split_run.result.1.now) ≡ None = grind (arith, common_steps) in
    same ∙ ap (prepend c.pieces.out) (double_bad m c.pieces.rest.now _ _ (omega arith) c.split_run.ensures.parts e f g)

pub pieces-preserved : goal.pieces-preserved
pieces-preserved c =
    let l = c.pieces in
    let lengths = c.split_run.ensures.lengths in
    let shorter = c.skip-in-pieces.ensures.shorter in
    let within = c.in-Some.ensures.within in (
      search rules,
      omega (arith, l.invariant.1),
      λ n h.
          let (m, room, same) = l.invariant.2 n h in
          let e : (first c.split_run.result.1.now == 34) ≡ false = grind (arith, nat_tests, common_steps) in
          let f : (first c.split_run.result.1.now == 92) ≡ true = grind (arith, nat_tests, common_steps) in
          let g : escape (drop 1 c.split_run.result.1.now) ≡ Some (c.in-Some.c, c.in-Some.behind.now) = grind (arith, common_steps) in
          let turn = double_more m l.rest.now c.split_run.result.0.now c.split_run.result.1.now _ _ (omega arith) c.split_run.ensures.parts e f g in
          (m - 1, omega arith, same ∙ ap (prepend l.out) turn ∙ prepend-prepend l.out _ _ ∙ ap (λ (xs : List ℕ). prepend xs (double (m - 1) c.in-Some.behind.now)) (joined l.out _ _ c.push_str.new.self c.push.new.self c.in_ok-push_str.ensures.ok c.in_ok-push.ensures.ok)),
    )
