use Rattle.std.proofs.Common.{◌∙◌, ◌+◌, ◌-◌, ◌++◌, ap, length, take, inl, inr, refl, arith}
use Rattle.syntect_reading_choice.proofs.syntect_count_proofs.MeterLaws.{advances-none, advances-on}
use Rattle.syntect_reading_choice.specs.Ahead.{list_in}
use Rattle.syntect_reading_state.specs.Losses.{marks_of}
use Rattle.syntect_reading_choice.specs.Parts.{flat_members}
use Rattle.syntect_reading_choice.specs.Reader.{matches_of}
use Rattle.syntect_reading_choice.proofs.SweepLaws.{begun, begun_ahead, known_behind, none_held, one_held, run_ended, skipped, skipped_ahead, stepped, stepped_ahead, still_from, still_up_to}
use Rattle.syntect_reading_choice.proofs.StepLaws.{more_room, run_spent, spent}
use Rattle.syntect_reading_choice.proofs.sweep.with_run.Goals.{then-loop-index-test+else-is_none, else-loop-index-test}
use Rattle.syntect_reading_choice.proofs.sweep.with_run.Goals as goal

pub loop-index-init : goal.loop-index-init
loop-index-init c = record {
  known = c.requires.known;
  parts = λ k n. refl;
  marks = λ k l. refl;
  groups = λ a h. h;
  grows = λ h. h;
  best = λ ms a h.
      begun c.dialect_finds_in_text.ensures c.args.reader.now c.args.place c.args.run.now c.requires.run (marks_of c.args.losses.now c.args.part) c.args.best ms c.next_in-index.result
      (c.next_in-index.ensures.passed c.args.reader.now.line.now c.args.place c.requires.sees) a h;
  ahead = λ ms a h is.
      begun_ahead c.dialect_finds_in_text.ensures c.args.reader.now c.args.place c.args.run.now c.requires.run (marks_of c.args.losses.now c.args.part) c.next_in-index.result
      (c.next_in-index.ensures.passed c.args.reader.now.line.now c.args.place c.requires.sees) a;
  advances = advances-none c.args.regions.now.steps;
  steps = λ w all. omega (arith, more_room (c.len-count.result - c.next_in-index.result) (c.len-count.result) w (omega arith));
}

pub loop-index-preserved : goal.loop-index-preserved
loop-index-preserved c = record {
  known = c.in_ok-best.ensures.known;
  parts = λ k n. c.in_ok-best.ensures.losses.parts k n ∙ c.loop-index.invariant.parts k n;
  marks =
      known_behind c.dialect_finds_in_text.ensures c.args.reader.now c.args.place c.args.run.now (marks_of c.args.losses.now c.args.part) (marks_of c.loop-index.losses c.args.part) (marks_of c.with_pattern.new.losses c.args.part) c.loop-index.index c.next_in-index-in-loop-index.result
      c.next_in-index-in-loop-index.ensures.later c.loop-index.invariant.marks c.in_ok-best.ensures.losses.others;
  groups = λ a h.
      c.in_ok-best.ensures.groups
      (still_from c.dialect_finds_in_text.ensures c.args.reader.now c.args.place c.args.run.now (marks_of c.args.losses.now c.args.part) (marks_of c.loop-index.losses c.args.part) c.loop-index.index c.loop-index.invariant.marks a)
      (c.loop-index.invariant.groups a h);
  grows = λ h. c.loop-index.invariant.grows (c.in_ok-best.ensures.grows h);
  best = λ ms a h.
      skipped c.dialect_finds_in_text.ensures c.args.reader.now c.args.place c.args.run.now c.requires.run (marks_of c.with_pattern.new.losses c.args.part) c.in_ok-best.best ms (c.loop-index.index + 1) c.next_in-index-in-loop-index.result
      c.next_in-index-in-loop-index.ensures.later (c.next_in-index-in-loop-index.ensures.passed c.args.reader.now.line.now c.args.place c.requires.sees)
      (still_from c.dialect_finds_in_text.ensures c.args.reader.now c.args.place c.args.run.now (marks_of c.args.losses.now c.args.part) (marks_of c.with_pattern.new.losses c.args.part) (c.loop-index.index + 1)
      (known_behind c.dialect_finds_in_text.ensures c.args.reader.now c.args.place c.args.run.now (marks_of c.args.losses.now c.args.part) (marks_of c.loop-index.losses c.args.part) (marks_of c.with_pattern.new.losses c.args.part) c.loop-index.index (c.loop-index.index + 1)
      (omega arith) c.loop-index.invariant.marks c.in_ok-best.ensures.losses.others) a)
      (stepped c.dialect_finds_in_text.ensures c.args.reader.now c.args.place c.args.run.now (marks_of c.with_pattern.new.losses c.args.part) c.in_ok-best.best ms c.loop-index.index
      (rw (c.len-count.ensures, c.list_in.ensures) at c.loop-index-test.true)
      (c.in_ok-best.ensures.best (ms ++ matches_of c.args.reader.now (flat_members c.args.reader.now.set.now c.args.run.now.part (take c.loop-index.index (list_in c.args.run.now.flats))))
      (still_from c.dialect_finds_in_text.ensures c.args.reader.now c.args.place c.args.run.now (marks_of c.args.losses.now c.args.part) (marks_of c.loop-index.losses c.args.part) c.loop-index.index c.loop-index.invariant.marks a)
      (none_held c.loop-index.best.candidate c.if-is_none.ensures) (c.loop-index.invariant.best ms a h)));
  ahead = λ ms a h is.
      skipped_ahead c.dialect_finds_in_text.ensures c.args.reader.now c.args.place c.args.run.now c.requires.run (marks_of c.with_pattern.new.losses c.args.part) (c.loop-index.index + 1) c.next_in-index-in-loop-index.result
      (c.next_in-index-in-loop-index.ensures.passed c.args.reader.now.line.now c.args.place c.requires.sees)
      (still_from c.dialect_finds_in_text.ensures c.args.reader.now c.args.place c.args.run.now (marks_of c.args.losses.now c.args.part) (marks_of c.with_pattern.new.losses c.args.part) (c.loop-index.index + 1)
      (known_behind c.dialect_finds_in_text.ensures c.args.reader.now c.args.place c.args.run.now (marks_of c.args.losses.now c.args.part) (marks_of c.loop-index.losses c.args.part) (marks_of c.with_pattern.new.losses c.args.part) c.loop-index.index (c.loop-index.index + 1)
      (omega arith) c.loop-index.invariant.marks c.in_ok-best.ensures.losses.others) a)
      (stepped_ahead c.dialect_finds_in_text.ensures c.args.reader.now c.args.place c.args.run.now (marks_of c.with_pattern.new.losses c.args.part) c.in_ok-best.best _ c.loop-index.index
      (c.in_ok-best.ensures.best (ms ++ matches_of c.args.reader.now (flat_members c.args.reader.now.set.now c.args.run.now.part (take c.loop-index.index (list_in c.args.run.now.flats))))
      (still_from c.dialect_finds_in_text.ensures c.args.reader.now c.args.place c.args.run.now (marks_of c.args.losses.now c.args.part) (marks_of c.loop-index.losses c.args.part) c.loop-index.index c.loop-index.invariant.marks a)
      (none_held c.loop-index.best.candidate c.if-is_none.ensures) (c.loop-index.invariant.best ms a h))
      is
      (still_up_to c.dialect_finds_in_text.ensures c.args.reader.now c.args.place c.args.run.now (marks_of c.loop-index.losses c.args.part) (marks_of c.with_pattern.new.losses c.args.part) (c.args.place + 1) c.loop-index.index c.in_ok-best.ensures.losses.others
      (c.loop-index.invariant.ahead ms a h (c.in_ok-best.ensures.grows is))));
  advances = advances-on _ _ _ c.loop-index.invariant.advances c.with_pattern.ensures.advances;
  steps = λ w all.
      spent c.loop-index.regions.steps.made c.with_pattern.new.regions.steps.made c.args.regions.now.steps.made _ _ _ w (c.loop-index.invariant.steps w all) (c.in_ok-best.ensures.steps w all)
      (omega (arith, c.loop-index-test.true, c.next_in-index-in-loop-index.ensures.later));
}

pub returns-clause-best : goal.returns-clause-best
returns-clause-best c = λ ms a h.
    run_ended c.dialect_finds_in_text.ensures c.args.reader.now c.args.place c.args.run.now c.requires.run (marks_of c.loop-index.losses c.args.part) c.loop-index.best ms c.loop-index.index
    (c.loop-index.invariant.best ms a h) (c.loop-index.invariant.ahead ms a h)
    (elim c.loop-index-test.branch [
      | then-loop-index-test+else-is_none w ↦ inr (one_held c.loop-index.best.candidate w.if-is_none.ensures)
      | else-loop-index-test w ↦ inl (rw (c.len-count.ensures, c.list_in.ensures) at w.loop-index-test.false)
    ])
    (still_from c.dialect_finds_in_text.ensures c.args.reader.now c.args.place c.args.run.now (marks_of c.args.losses.now c.args.part) (marks_of c.loop-index.losses c.args.part) c.loop-index.index c.loop-index.invariant.marks a)

pub returns-clause-steps : goal.returns-clause-steps
returns-clause-steps c = λ w all.
    run_spent c.args.reader.now.set.now c.args.run.now w c.args.regions.now.steps.made c.loop-index.regions.steps.made _ (c.len-count.result) c.requires.run (c.len-count.ensures ∙ ap length c.list_in.ensures) (c.loop-index.invariant.steps w all)
