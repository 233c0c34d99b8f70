use Rattle.std.proofs.Common.{◌≡◌, ◌+◌, ◌-◌, [], ℕ, suc, Bool, Some, None, false, List, Option, length, get_or, ap, subst, sym, arith, ◌∙◌, replicate, length-set}
use Rattle.std.proofs.lemmas.List.{length-replicate}
use Rattle.syntect_regex.specs.syntect_pattern.Trees.{Tree}
use Rattle.syntect_regex.specs.syntect_pattern_table.Table.{trees}
use Rattle.syntect_regex.specs.Looks.{NoGroupBefore, joined, marked, met_before, met_in}
use Rattle.syntect_regex.proofs.MarkLaws.{get-none, joined-none, met-whole, first_marked, no_group-whole, unmet, unmet-before}
use Rattle.syntect_regex.proofs.looks.looks_of.Goals as goal

pub loop-place-init : goal.loop-place-init
loop-place-init c =
    let root : ℕ = c.args.root in
    let unmarked : c.in_ok-marks.marks.items ≡ replicate (root + 1) None = c.in_ok-marks.ensures in
    let unknown : c.in_ok-looks.looks.items ≡ replicate c.args.groups None = c.in_ok-looks.ensures in
    let marks : c.mark.new.marks.items ≡ marked (replicate (root + 1) None) root false = c.mark.ensures ∙ ap (λ (ms : List (Option Bool)). marked ms root false) unmarked in
    record {
      later = omega (arith, c.first_group-first.ensures.inside);
      inside = omega arith;
      count = ap length c.mark.ensures ∙ length-set c.in_ok-marks.marks.items root (joined (get_or c.in_ok-marks.marks.items root None) (Some false)) ∙ ap length unmarked ∙ length-replicate (root + 1) unmet;
      met = λ n.
          ap (λ (ls : List (Option Bool)). joined (get_or ls n None) (met_before c.mark.new.marks.items (trees c.args.nodes.now) (root + 1) n)) unknown
          ∙ ap (λ (ms : List (Option Bool)). joined (get_or (replicate c.args.groups None) n None) (met_before ms (trees c.args.nodes.now) (root + 1) n)) marks
          ∙ first_marked (trees c.args.nodes.now) n root c.args.groups;
    }

pub loop-place-preserved : goal.loop-place-preserved
loop-place-preserved c =
    let back : suc (c.loop-place.place - 1) ≡ c.loop-place.place = omega arith in
    record {
      later = omega arith;
      inside = omega arith;
      count = c.in_ok-pass_on.ensures.count ∙ c.loop-place.invariant.count;
      met = λ n.
          c.in_ok-pass_on.ensures.passed n
          ∙ ap (λ (k : ℕ). joined (get_or c.loop-place.looks.items n None) (met_before c.loop-place.marks.items (trees c.args.nodes.now) k n)) back
          ∙ c.loop-place.invariant.met n;
    }

pub returns : goal.returns
returns c = λ n tree is.
    let ts : List Tree = trees c.args.nodes.now in
    let looks : List (Option Bool) = c.loop-place.looks.items in
    let marks : List (Option Bool) = c.loop-place.marks.items in
    let first : ℕ = c.first_group-first.result in
    let last : c.loop-place.place ≡ first = omega (arith, c.loop-place.invariant.later) in
    let none : met_before marks ts first (suc n) ≡ None =
    unmet-before c.args.nodes.now c.requires.ordered (suc n) first (omega (arith, c.first_group-first.ensures.inside, c.requires.inside)) c.first_group-first.ensures.first marks in
    ap (λ (ls : List (Option Bool)). get_or ls (suc n) None) c.from_vec-2.ensures
    ∙ sym (joined-none (get_or looks (suc n) None))
    ∙ ap (joined (get_or looks (suc n) None)) (sym none)
    ∙ ap (λ (k : ℕ). joined (get_or looks (suc n) None) (met_before marks ts k (suc n))) (sym last)
    ∙ c.loop-place.invariant.met (suc n)
    ∙ ap (λ (t : Tree). met_in (Some false) t (suc n)) is
    ∙ met-whole tree n

pub returns-then-first-root : goal.returns-then-first-root
returns-then-first-root c = λ n tree is.
    let nodes = c.args.nodes.now in
    let first = subst (NoGroupBefore nodes) c.if-first-root.true c.first_group-first.ensures.first in
    ap (λ (ls : List (Option Bool)). get_or ls (suc n) None) (c.from_vec.ensures ∙ c.in_ok-looks.ensures)
    ∙ get-none [] 0 c.args.groups (suc n)
    ∙ sym (no_group-whole nodes c.requires.ordered n c.args.root c.requires.inside first tree is)
