use Rattle.std.proofs.Common.{◌≡◌, ℕ, List, [], ◌∷◌, sym, ◌∙◌, ap, subst, arith, take, drop, length, ◌-◌, length-drop, string_bytes}
use Rattle.std.proofs.lemmas.List.{length_push, length-map}
use Rattle.syntect_buffer.specs.States.{StandSame}
use Rattle.syntect_buffer.specs.Kept.{AllTell, IsReadFrom, ReadsOn, ending, lines_in}
use Rattle.syntect_buffer.specs.declared.states.LineStates.{LineStates}
use Rattle.syntect_buffer.specs.declared.reading.Reading.{Reading}
use Rattle.syntect_buffer.proofs.HeldLaws.{reads_more, ending-add, line_at, not_true, is_true}
use Rattle.syntect_buffer.proofs.ToldLaws.{told_joined}
use Rattle.syntect_buffer.proofs.reading.read_again.Goals as goal
use Rattle.syntect_buffer.proofs.reading.read_again.Goals.{else-loop-at-test, then-loop-at-test+then-stand_same}

pub loop-at-preserved : goal.loop-at-preserved
loop-at-preserved c =
    let set = c.args.set.now in
    let theme = c.args.theme.now in
    let kept = c.args.kept.now in
    let o : LineStates = ending kept.start (take c.args.place kept.readings) in
    let ls : List (List ℕ) = drop c.args.place (lines_in kept) in
    let rs : List Reading = drop c.args.place kept.readings in
    let ns : List Reading = c.loop-at.again.items in
    let p : c.states_at.result.now ≡ ending o (take (length ns) rs) =
    c.states_at.ensures ∙ ap (λ (k : ℕ). ending kept.start (take k kept.readings)) (sym c.loop-at.invariant.count) ∙ ending-add c.args.place (length ns) kept.start kept.readings in
    let q : c.states_after-before.result.now ≡ ending c.args.now.now ns = c.states_after-before.ensures ∙ ap (λ (zs : List Reading). ending c.args.now.now zs) c.as_slice.ensures.value in
    let differs : ¬ (StandSame (ending o (take (length ns) rs)) (ending c.args.now.now ns)) = λ s.
    not_true c.stand_same.result (StandSame c.states_at.result.now c.states_after-before.result.now) c.stand_same.ensures c.if-stand_same.false
    (subst (λ (x : LineStates). StandSame x c.states_after-before.result.now) (sym p) (subst (λ (x : LineStates). StandSame (ending o (take (length ns) rs)) x) (sym q) s)) in
    let read : IsReadFrom set theme (ending c.args.now.now ns) (string_bytes c.get.result.now) c.in_ok-reading.reading =
    subst (λ (x : LineStates). IsReadFrom set theme x (string_bytes c.get.result.now) c.in_ok-reading.reading) q
    (subst (λ (l : List ℕ). IsReadFrom set theme c.states_after-before.result.now l c.in_ok-reading.reading) c.as_str.ensures.value c.in_ok-reading.ensures.read) in
    record {
      count = omega (arith, ap length c.in_ok-push.ensures.items, length_push ns c.in_ok-reading.reading, c.loop-at.invariant.count);
      on = subst (λ (zs : List Reading). ReadsOn set theme c.args.now.now o ls rs zs) (sym c.in_ok-push.ensures.items)
          (reads_more theme set o c.args.now.now ls rs ns (string_bytes c.get.result.now) c.in_ok-reading.reading c.loop-at.invariant.on
          (line_at string_bytes kept.lines c.args.place (length ns) c.loop-at.at c.get.result.now c.loop-at.invariant.count c.get.ensures)
          (omega (arith, c.requires.count, length-drop c.args.place (lines_in kept), length-drop c.args.place kept.readings, length-map kept.lines string_bytes))
          differs read);
      told = subst (λ (zs : List Reading). AllTell kept.limits zs) (sym c.in_ok-push.ensures.items)
          (told_joined kept.limits ns (c.in_ok-reading.reading ∷ []) c.loop-at.invariant.told (c.in_ok-reading.ensures.told, tt));
    }

pub returns : goal.returns
returns c =
    let kept = c.args.kept.now in
    let o : LineStates = ending kept.start (take c.args.place kept.readings) in
    let ls : List (List ℕ) = drop c.args.place (lines_in kept) in
    let rs : List Reading = drop c.args.place kept.readings in
    let ns : List Reading = c.loop-at.again.items in
    let n : length ls ≡ length kept.lines - c.args.place = length-drop c.args.place (lines_in kept) ∙ ap (λ (k : ℕ). k - c.args.place) (length-map kept.lines string_bytes) in
    elim c.loop-at-test.branch [
      | else-loop-at-test w ↦ record {
        within = omega (arith, n, c.loop-at.invariant.count);
        on = c.loop-at.invariant.on;
        told = c.loop-at.invariant.told;
        stops = λ lt. absurd (omega (arith, n, c.loop-at.invariant.count));
      }
      | then-loop-at-test+then-stand_same w ↦
          let p : w.states_at.result.now ≡ ending o (take (length ns) rs) =
          w.states_at.ensures ∙ ap (λ (k : ℕ). ending kept.start (take k kept.readings)) (sym c.loop-at.invariant.count) ∙ ending-add c.args.place (length ns) kept.start kept.readings in
          let q : w.states_after-before.result.now ≡ ending c.args.now.now ns = w.states_after-before.ensures ∙ ap (λ (zs : List Reading). ending c.args.now.now zs) w.as_slice.ensures.value in
          let same : StandSame w.states_at.result.now w.states_after-before.result.now = is_true w.stand_same.result (StandSame w.states_at.result.now w.states_after-before.result.now) w.stand_same.ensures w.if-stand_same.true in
          record {
            within = omega (arith, n, c.loop-at.invariant.count);
            on = c.loop-at.invariant.on;
            told = c.loop-at.invariant.told;
            stops = λ lt. subst (λ (x : LineStates). StandSame (ending o (take (length ns) rs)) x) q (subst (λ (x : LineStates). StandSame x w.states_after-before.result.now) p same);
          }
    ]
