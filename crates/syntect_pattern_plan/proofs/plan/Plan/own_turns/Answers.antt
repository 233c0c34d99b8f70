use Rattle.std.proofs.Common.{◌≡◌, List, ap, subst, sym, ◌∙◌, Some, ℕ, Option, false, true, eqb, get_or}
use Rattle.std.specs.Option.{option_eq}
use Rattle.syntect_pattern_plan.specs.syntect_pattern.Trees.{nothing}
use Rattle.syntect_pattern_plan.specs.Facts.{AreFacts}
use Rattle.syntect_pattern_plan.specs.declared.facts.Facts.{Facts}
use Rattle.syntect_pattern_plan.specs.declared.plan.Plan.{Plan}
use Rattle.syntect_pattern_plan.proofs.MakesLaws.{makes-turns}
use Rattle.syntect_pattern_plan.proofs.plan.Plan.own_turns.Goals as goal

pub returns-clause-step : goal.returns-clause-step
returns-clause-step c = λ ts facts b h.
    let old = c.args.self.now in
    let mid = c.push_more.new.self in
    let far = c.push_own.new.self in
    let new = c.push_beside.new.self in
    let same : far.facts ≡ old.facts = ap (λ (p : Plan). p.facts) c.in_ok-turn.ensures.others ∙ ap (λ (p : Plan). p.facts) c.in_ok-more.ensures.others in
    let bs : new.behinds ≡ old.behinds =
    ap (λ (p : Plan). p.behinds) c.in_ok-first.ensures.others ∙ ap (λ (p : Plan). p.behinds) c.in_ok-turn.ensures.others ∙ ap (λ (p : Plan). p.behinds) c.in_ok-more.ensures.others in
    let facts' : AreFacts far.facts ts = subst (λ (fs : List Facts). AreFacts fs ts) (sym same) facts in
    let some : c.args.most ≡ Some 0 → ⊥ = λ e. let z : false ≡ true = c.if-eq.ensures ∙ ap (λ (o : Option ℕ). option_eq eqb o (Some 0)) e in cc in
    rw bs
    (makes-turns ts old.cells old.behinds c.args.number c.args.next b mid.cells far.cells new.cells c.args.greedy c.args.least c.args.most (get_or ts c.args.body nothing)
    c.in_ok-more.more c.in_ok-turn.turn c.in_ok-first.first
    (λ b h. c.in_ok-more.ensures.cell ts b h some)
    (λ b l f. c.in_ok-turn.ensures.cell ts b l f)
    (λ e n b l p. c.in_ok-first.ensures.cell ts e n facts' b l p)
    h)
