use Rattle.std.proofs.Common.{◌≡◌, true, sym, ◌∙◌, ap}
use Rattle.syntect_reading_choice.specs.ChoiceViews.{live_from, choice_view}
use Rattle.syntect_reading_choice.specs.Chain.{last}
use Rattle.syntect_reading_choice.specs.Engine.{dialect}
use Rattle.syntect_reading_choice.specs.Found.{StandsIn}
use Rattle.syntect_reading_choice.specs.Turn.{Live, Take, Skip}
use Rattle.syntect_parsing.specs.MatchViews.{live_with}
use Rattle.syntect_parsing.specs.Line.{step, turn_on}
use Rattle.syntect_parsing.specs.Orderly.{is_orderly}
use Rattle.syntect_parsing.specs.Step.{RefusesStep, RefusesTurn}
use Rattle.syntect_parsing.specs.Turn.{skipped}
use Rattle.syntect_parsing.proofs.ChoiceLaws.{choice_stands, step_chosen, taken_orderly}
use Rattle.syntect_parsing.proofs.TakenLaws.{groups_taken, on_boundaries, seen_with}
use Rattle.syntect_parsing.proofs.WithinLaws.{if_refused}
use Rattle.syntect_parsing.proofs.WholeTurnLaws.{turn_refused, turn_refused_by, turn_makes, turn_ends, skip_makes}
use Rattle.syntect_parsing.proofs.turn.turn.Goals as goal

pub returns-in-Err-clause-refused : goal.returns-in-Err-clause-refused
returns-in-Err-clause-refused c =
    if_refused (RefusesStep (turn_on dialect c.args.set.now c.args.line.now c.trim.new.p (last c.trim.new.p.levels))) (RefusesTurn dialect c.args.set.now c.args.line.now c.args.p.now)
    (turn_refused c.args.set.now c.args.line.now c.args.p.now c.trim.new.p c.trim.ensures) c.in-Err.e c.in-Err.ensures.refused

pub invariant_of-taken : goal.invariant_of-taken
invariant_of-taken c =
    let stands : StandsIn c.args.line.now c.trim.new.p.place c.in-Take.m.now.start c.in-Take.m.now.end = rw c.in-Take.is at
    (choice_stands c.dialect_finds_in_text.ensures c.args.set.now c.args.line.now c.utf8.line c.trim.new.p c.choose.result
    (c.choose.ensures.chosen ∙ c.in-Ok.ensures.wins)) in
    let found : c.best_match.new.regions.best ≡ (live_from c.args.line.now c.trim.new.p.place c.in-Take.m.now).groups =
    groups_taken c.args.line.now c.trim.new.p.place c.in-Ok.found c.in-Take.m.now c.best_match.new.regions.best
    (ap (choice_view c.args.line.now c.trim.new.p.place) (sym c.in-Take.is) ∙ c.choose.ensures.chosen) c.in-Ok.ensures.groups in
    record {
      text = c.utf8.line;
      ordered = stands.ordered;
      within = stands.within;
      on_boundaries = on_boundaries c.dialect_finds_on_boundaries.ensures c.args.line.now c.utf8.line c.trim.new.p.place c.in-Take.m.now c.best_match.new.regions.best found;
    }

pub take-requires-clause-from : goal.take-requires-clause-from
take-requires-clause-from c = record {
  stands = rw c.in-Take.is at
      (choice_stands c.dialect_finds_in_text.ensures c.args.set.now c.args.line.now c.utf8.line c.trim.new.p c.choose.result
      (c.choose.ensures.chosen ∙ c.in-Ok.ensures.wins));
  found = groups_taken c.args.line.now c.trim.new.p.place c.in-Ok.found c.in-Take.m.now c.best_match.new.regions.best
      (ap (choice_view c.args.line.now c.trim.new.p.place) (sym c.in-Take.is) ∙ c.choose.ensures.chosen) c.in-Ok.ensures.groups;
}

pub returns-in-Ok-take-clause-turns : goal.returns-in-Ok-take-clause-turns
returns-in-Ok-take-clause-turns c =
    let found : c.best_match.new.regions.best ≡ (live_from c.args.line.now c.trim.new.p.place c.in-Take.m.now).groups =
    groups_taken c.args.line.now c.trim.new.p.place c.in-Ok.found c.in-Take.m.now c.best_match.new.regions.best
    (ap (choice_view c.args.line.now c.trim.new.p.place) (sym c.in-Take.is) ∙ c.choose.ensures.chosen) c.in-Ok.ensures.groups in
    turn_makes c.args.set.now c.args.line.now c.args.p.now c.trim.new.p c.trim.ensures
    (is_orderly c.args.set.now c.trim.new.p.levels c.in-Take.m.now.pattern.now.operation ≡ true)
    (step dialect c.args.set.now c.args.line.now c.trim.new.p (Take (live_with c.in-Take.m.now c.best_match.new.regions.best)))
    c.take.new.p c.args.ops.now.items c.take.new.ops.items
    (taken_orderly c.args.set.now c.args.line.now c.args.p.now c.trim.new.p c.choose.result (live_from c.args.line.now c.trim.new.p.place c.in-Take.m.now) c.trim.ensures
    (c.choose.ensures.chosen ∙ c.in-Ok.ensures.wins) (ap (choice_view c.args.line.now c.trim.new.p.place) c.in-Take.is))
    (step_chosen c.args.set.now c.args.line.now c.trim.new.p c.in-Ok.found c.choose.result (turn_on dialect c.args.set.now c.args.line.now c.trim.new.p (last c.trim.new.p.levels)) c.in-Ok.ensures.chosen
    c.choose.ensures.chosen
    ∙ ap (λ x. step dialect c.args.set.now c.args.line.now c.trim.new.p (choice_view c.args.line.now c.trim.new.p.place x)) c.in-Take.is
    ∙ ap (λ (m : Live). step dialect c.args.set.now c.args.line.now c.trim.new.p (Take m)) (seen_with c.args.line.now c.trim.new.p.place c.in-Take.m.now c.best_match.new.regions.best found))
    c.in-Ok-take.ensures.makes

pub returns-in-Take-clause-refused : goal.returns-in-Take-clause-refused
returns-in-Take-clause-refused c =
    let found : c.best_match.new.regions.best ≡ (live_from c.args.line.now c.trim.new.p.place c.in-Take.m.now).groups =
    groups_taken c.args.line.now c.trim.new.p.place c.in-Ok.found c.in-Take.m.now c.best_match.new.regions.best
    (ap (choice_view c.args.line.now c.trim.new.p.place) (sym c.in-Take.is) ∙ c.choose.ensures.chosen) c.in-Ok.ensures.groups in
    turn_refused_by c.args.set.now c.args.line.now c.args.p.now c.trim.new.p c.trim.ensures
    (step dialect c.args.set.now c.args.line.now c.trim.new.p (Take (live_with c.in-Take.m.now c.best_match.new.regions.best)))
    c.in-Err-take.e
    (step_chosen c.args.set.now c.args.line.now c.trim.new.p c.in-Ok.found c.choose.result (turn_on dialect c.args.set.now c.args.line.now c.trim.new.p (last c.trim.new.p.levels)) c.in-Ok.ensures.chosen
    c.choose.ensures.chosen
    ∙ ap (λ x. step dialect c.args.set.now c.args.line.now c.trim.new.p (choice_view c.args.line.now c.trim.new.p.place x)) c.in-Take.is
    ∙ ap (λ (m : Live). step dialect c.args.set.now c.args.line.now c.trim.new.p (Take m)) (seen_with c.args.line.now c.trim.new.p.place c.in-Take.m.now c.best_match.new.regions.best found))
    c.in-Err-take.ensures.refused

pub returns-in-Skip-clause-turns : goal.returns-in-Skip-clause-turns
returns-in-Skip-clause-turns c =
    let moved : c.skip.new.p ≡ skipped c.args.line.now c.trim.new.p = c.skip.ensures c.args.line.now (rw c.in-Skip.is at c.choose.ensures.skips) in
    turn_makes c.args.set.now c.args.line.now c.args.p.now c.trim.new.p c.trim.ensures
    (Unit {0})
    (step dialect c.args.set.now c.args.line.now c.trim.new.p Skip)
    c.skip.new.p c.args.ops.now.items c.args.ops.now.items
    (λ o. tt)
    (step_chosen c.args.set.now c.args.line.now c.trim.new.p c.in-Ok.found c.choose.result (turn_on dialect c.args.set.now c.args.line.now c.trim.new.p (last c.trim.new.p.levels)) c.in-Ok.ensures.chosen
    c.choose.ensures.chosen
    ∙ ap (λ x. step dialect c.args.set.now c.args.line.now c.trim.new.p (choice_view c.args.line.now c.trim.new.p.place x)) c.in-Skip.is)
    (rw moved (skip_makes c.args.set.now c.args.line.now c.trim.new.p c.args.ops.now.items c.utf8.line (rw c.trim.ensures c.requires.boundary)
    (rw c.in-Skip.is at
    (choice_stands c.dialect_finds_in_text.ensures c.args.set.now c.args.line.now c.utf8.line c.trim.new.p c.choose.result
    (c.choose.ensures.chosen ∙ c.in-Ok.ensures.wins)))))

pub returns-clause-turns : goal.returns-clause-turns
returns-clause-turns c =
    turn_ends c.args.set.now c.args.line.now c.args.p.now c.trim.new.p c.trim.ensures c.args.ops.now.items c.requires.boundary.0
    (step_chosen c.args.set.now c.args.line.now c.trim.new.p c.in-Ok.found c.choose.result (turn_on dialect c.args.set.now c.args.line.now c.trim.new.p (last c.trim.new.p.levels)) c.in-Ok.ensures.chosen
    c.choose.ensures.chosen
    ∙ ap (λ x. step dialect c.args.set.now c.args.line.now c.trim.new.p (choice_view c.args.line.now c.trim.new.p.place x)) c.in-End.is)
