use Rattle.std.proofs.Common.{arith, length, ◌+◌}
use Rattle.std.specs.List.{flat_map}
use Rattle.syntect_reading_choice.proofs.syntect_count_proofs.MeterLaws.{advances-none, advances-on}
use Rattle.syntect_reading_choice.specs.Ahead.{run_members}
use Rattle.syntect_reading_choice.specs.Steps.{place_steps}
use Rattle.syntect_reading_choice.proofs.SweepLaws.{all_first, chain_ended, chain_won, reaches_on}
use Rattle.syntect_reading_choice.proofs.StepLaws.{places_begin, spent, spent_last}
use Rattle.syntect_reading_choice.proofs.sweep.best_of_runs.Goals as goal

pub places-init : goal.places-init
places-init c = record {
  known = c.requires.known;
  near = omega arith;
  within = c.args.reader.now.boundary.0;
  ahead = all_first c.args.reader.now c.new-losses.result c.args.runs.now c.new-losses.ensures;
  reach = λ l. absurd (omega (arith, l));
  advances = advances-none c.args.regions.now.steps;
  steps = λ w all. places_begin c.args.regions.now.steps.made (length c.args.reader.now.line.now) c.args.reader.now.position.now.place (place_steps (length (flat_map (run_members c.args.reader.now.set.now) c.args.runs.now)) w);
}

pub outlook_of-outlook-requires-clause-reach : goal.outlook_of-outlook-requires-clause-reach
outlook_of-outlook-requires-clause-reach c = reaches_on c.args.reader.now.line.now c.places.place c.next_place-next.result c.places.reach c.next_place-next.ensures.later c.places.invariant.reach

pub best_at-requires-clause-runs : goal.best_at-requires-clause-runs
best_at-requires-clause-runs c = c.requires.runs

pub returns-then-found-clause-groups : goal.returns-then-found-clause-groups
returns-then-found-clause-groups c = c.in_ok-found.ensures.groups (c.next_place-next.ensures.ahead c.places.losses c.args.runs.now c.begins_of-begins.ensures c.requires.runs c.places.invariant.ahead)

pub returns-then-found-clause-best : goal.returns-then-found-clause-best
returns-then-found-clause-best c =
    chain_won c.args.reader.now c.next_place-next.result c.best_at.new.losses c.args.runs.now c.in_ok-found.found
    (c.in_ok-found.ensures.best (c.next_place-next.ensures.ahead c.places.losses c.args.runs.now c.begins_of-begins.ensures c.requires.runs c.places.invariant.ahead)) c.if-found.true

pub returns-then-next-reader-clause-groups : goal.returns-then-next-reader-clause-groups
returns-then-next-reader-clause-groups c = c.in_ok-found.ensures.groups (c.next_place-next.ensures.ahead c.places.losses c.args.runs.now c.begins_of-begins.ensures c.requires.runs c.places.invariant.ahead)

pub returns-then-next-reader-clause-best : goal.returns-then-next-reader-clause-best
returns-then-next-reader-clause-best c =
    chain_ended c.args.reader.now c.next_place-next.result c.best_at.new.losses c.args.runs.now c.in_ok-found.found c.dialect_finds_in_text.ensures c.if-next-reader.true
    (c.in_ok-found.ensures.best (c.next_place-next.ensures.ahead c.places.losses c.args.runs.now c.begins_of-begins.ensures c.requires.runs c.places.invariant.ahead)) c.if-found.false

pub places-preserved-else-next-reader : goal.places-preserved-else-next-reader
places-preserved-else-next-reader c = record {
  known = c.in_ok-found.ensures.known;
  near = omega (arith, c.places.invariant.near, c.next_place-next.ensures.later);
  within = omega (arith, c.if-next-reader.false);
  ahead = (c.in_ok-found.ensures.best (c.next_place-next.ensures.ahead c.places.losses c.args.runs.now c.begins_of-begins.ensures c.requires.runs c.places.invariant.ahead)).ahead c.if-found.false;
  reach = reaches_on c.args.reader.now.line.now c.next_place-next.result (c.next_place-next.result + 1) c.outlook_of-outlook.new.reach (omega arith) c.outlook_of-outlook.ensures.reach;
  advances = advances-on _ _ _ c.places.invariant.advances c.best_at.ensures.advances;
  steps = λ w all.
      spent c.places.regions.steps.made c.best_at.new.regions.steps.made c.args.regions.now.steps.made _ _ _ (place_steps (length (flat_map (run_members c.args.reader.now.set.now) c.args.runs.now)) w) (c.places.invariant.steps w all)
      (c.in_ok-found.ensures.steps w all)
      (omega (arith, c.next_place-next.ensures.later, c.if-next-reader.false));
}

pub places-preserved-else-next-reader-2 : goal.places-preserved-else-next-reader-2
places-preserved-else-next-reader-2 c = record {
  known = c.in_ok-found.ensures.known;
  near = omega (arith, c.places.invariant.near, c.next_place-next.ensures.later);
  within = omega (arith, c.if-next-reader.false);
  ahead = (c.in_ok-found.ensures.best (c.next_place-next.ensures.ahead c.places.losses c.args.runs.now c.begins_of-begins.ensures c.requires.runs c.places.invariant.ahead)).ahead c.if-found.false;
  reach = reaches_on c.args.reader.now.line.now c.next_place-next.result (c.next_place-next.result + 1) c.outlook_of-outlook.new.reach (omega arith) c.outlook_of-outlook.ensures.reach;
  advances = advances-on _ _ _ c.places.invariant.advances c.best_at.ensures.advances;
  steps = λ w all.
      spent c.places.regions.steps.made c.best_at.new.regions.steps.made c.args.regions.now.steps.made _ _ _ (place_steps (length (flat_map (run_members c.args.reader.now.set.now) c.args.runs.now)) w) (c.places.invariant.steps w all)
      (c.in_ok-found.ensures.steps w all)
      (omega (arith, c.next_place-next.ensures.later, c.if-next-reader.false));
}

pub places-preserved : goal.places-preserved
places-preserved c = record {
  known = c.in_ok-found.ensures.known;
  near = omega (arith, c.places.invariant.near, c.next_place-next.ensures.later);
  within = omega (arith, c.if-next-reader.false);
  ahead = (c.in_ok-found.ensures.best (c.next_place-next.ensures.ahead c.places.losses c.args.runs.now c.begins_of-begins.ensures c.requires.runs c.places.invariant.ahead)).ahead c.if-found.false;
  reach = reaches_on c.args.reader.now.line.now c.next_place-next.result (c.next_place-next.result + 1) c.outlook_of-outlook.new.reach (omega arith) c.outlook_of-outlook.ensures.reach;
  advances = advances-on _ _ _ c.places.invariant.advances c.best_at.ensures.advances;
  steps = λ w all.
      spent c.places.regions.steps.made c.best_at.new.regions.steps.made c.args.regions.now.steps.made _ _ _ (place_steps (length (flat_map (run_members c.args.reader.now.set.now) c.args.runs.now)) w) (c.places.invariant.steps w all)
      (c.in_ok-found.ensures.steps w all)
      (omega (arith, c.next_place-next.ensures.later, c.if-next-reader.false));
}

pub returns-then-found-clause-steps : goal.returns-then-found-clause-steps
returns-then-found-clause-steps c = λ w all.
    spent_last c.places.regions.steps.made c.best_at.new.regions.steps.made c.args.regions.now.steps.made _ _ (place_steps (length (flat_map (run_members c.args.reader.now.set.now) c.args.runs.now)) w) (c.places.invariant.steps w all)
    (c.in_ok-found.ensures.steps w all)
    (omega (arith, c.places.invariant.within))

pub returns-then-next-reader-clause-steps : goal.returns-then-next-reader-clause-steps
returns-then-next-reader-clause-steps c = λ w all.
    spent_last c.places.regions.steps.made c.best_at.new.regions.steps.made c.args.regions.now.steps.made _ _ (place_steps (length (flat_map (run_members c.args.reader.now.set.now) c.args.runs.now)) w) (c.places.invariant.steps w all)
    (c.in_ok-found.ensures.steps w all)
    (omega (arith, c.places.invariant.within))
