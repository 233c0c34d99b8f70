use Rattle.std.proofs.Common.{◌≡◌, ◌-◌, ◌==◌, true, false, drop, ℕ, List, sym, ap, ◌∙◌, rules, arith, le_refl}
use Rattle.std.specs.Prelude.{slice_index}
use Rattle.std.proofs.lemmas.Grind.{common_steps}
use Rattle.std.proofs.lemmas.Bool.Decides.{nat_tests}
use Rattle.syntect_yaml.specs.Lines.{first}
use Rattle.syntect_yaml.specs.Scalars.{prepend, single}
use Rattle.syntect_yaml.proofs.QuotedLaws.{prepend-nil, prepend-prepend, single_none, single_end, single_more, joined}
use Rattle.syntect_yaml.proofs.quoted.single.Goals as goal

pub pieces-init : goal.pieces-init
pieces-init c = (c.utf8.text, le_refl _, λ n h. (n, h, rw c.new-out.ensures (sym (prepend-nil _))))

pub returns-then-first-ne39-clause-value : goal.returns-then-first-ne39-clause-value
returns-then-first-ne39-clause-value c n h =
    let (m, room, same) = c.pieces.invariant.2 n h in
    let e : (first c.split_run.result.1.now == 39) ≡ false = grind (arith, nat_tests, common_steps) in
    same ∙ ap (prepend c.pieces.out) (single_none m c.pieces.rest.now _ _ (omega arith) c.split_run.ensures.parts e)

pub returns-then-byte_at-ne39-clause-value : goal.returns-then-byte_at-ne39-clause-value
returns-then-byte_at-ne39-clause-value c n h =
    let (m, room, same) = c.pieces.invariant.2 n h in
    let e : (first c.split_run.result.1.now == 39) ≡ true = grind (arith, nat_tests, common_steps) in
    let f : (slice_index c.split_run.result.1.now 1 == 39) ≡ false = grind (arith, nat_tests, common_steps) in
    same ∙ ap (prepend c.pieces.out) (single_end m c.pieces.rest.now _ _ (omega arith) c.split_run.ensures.parts e f) ∙ grind (arith, common_steps)

pub pieces-preserved : goal.pieces-preserved
pieces-preserved c =
    let l = c.pieces in
    let lengths = c.split_run.ensures.lengths in
    let shorter = c.skip-rest.ensures.shorter in (
      search rules,
      omega (arith, l.invariant.1),
      λ n h.
          let (m, room, same) = l.invariant.2 n h in
          let e : (first c.split_run.result.1.now == 39) ≡ true = grind (arith, nat_tests, common_steps) in
          let f : (slice_index c.split_run.result.1.now 1 == 39) ≡ true = grind (arith, nat_tests, common_steps) in
          let turn = single_more m l.rest.now c.split_run.result.0.now c.split_run.result.1.now (omega arith) c.split_run.ensures.parts e f in
          (m - 1, omega arith, same ∙ ap (prepend l.out) turn ∙ prepend-prepend l.out _ _ ∙ rw c.skip-rest.ensures.rest (ap (λ (xs : List ℕ). prepend xs (single (m - 1) (drop 2 c.split_run.result.1.now))) (joined l.out _ _ c.push_str.new.self c.push_str-in-pieces.new.self c.in_ok-push_str.ensures.ok c.in_ok-push_str-2.ensures.ok))),
    )
