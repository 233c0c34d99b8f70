use Rattle.std.proofs.Common.{sym, ◌∙◌, subst}
use Rattle.syntect_pattern_linear.specs.syntect_pattern.Matches.{Groups}
use Rattle.syntect_pattern_linear.specs.Walk.{Walks}
use Rattle.syntect_pattern_linear.proofs.FindLaws.{covers-filled, found_at-between, found-none, found-some, whole-cost}
use Rattle.syntect_pattern_linear.proofs.find.begins_here.Goals as goal

pub returns-then-not-is_boundary-clause-finds : goal.returns-then-not-is_boundary-clause-finds
returns-then-not-is_boundary-clause-finds c = λ tree h.
    found_at-between c.args.ground.now.text.now tree c.args.place (sym c.is_boundary.ensures.value ∙ c.if-not-is_boundary.true)

pub returns-then-not-leads-clause-finds : goal.returns-then-not-leads-clause-finds
returns-then-not-leads-clause-finds c = λ tree h.
    let at = c.if-not-is_boundary.false in
    found-none c.args.ground.now c.args.place ((covers-filled c.args.ground.now c.args.marks.now c.args.begin c.args.place c.requires.covers c.requires.later (c.is_boundary.ensures.boundary at)).ground)
    tree h (sym c.is_boundary.ensures.value ∙ at) (sym c.leads.ensures ∙ c.if-not-leads.true)

pub returns-clause-finds : goal.returns-clause-finds
returns-clause-finds c = λ tree h.
    let at = c.if-not-is_boundary.false in
    found-some c.args.ground.now c.args.place (covers-filled c.args.ground.now c.args.marks.now c.args.begin c.args.place c.requires.covers c.requires.later (c.is_boundary.ensures.boundary at)).ground
    tree h (sym c.is_boundary.ensures.value ∙ at) c.in_ok-walk.field-0 c.walk.new.groups.items
    (subst (λ (g : Groups). Walks c.args.ground.now 1 c.args.place g c.in_ok-walk.field-0 c.walk.new.groups.items) c.in_ok-unset.ensures c.in_ok-walk.ensures.walks)

pub returns-clause-steps : goal.returns-clause-steps
returns-clause-steps c =
    let at = c.if-not-is_boundary.false in
    let filled = covers-filled c.args.ground.now c.args.marks.now c.args.begin c.args.place c.requires.covers c.requires.later (c.is_boundary.ensures.boundary at) in
    whole-cost c.args.ground.now c.args.place filled.ground c.args.meter.now.made c.in_ok-unset.unset.items c.in_ok-walk.field-0 c.walk.new.groups.items c.walk.new.meter.made c.in_ok-walk.ensures.walks c.in_ok-walk.ensures.steps
