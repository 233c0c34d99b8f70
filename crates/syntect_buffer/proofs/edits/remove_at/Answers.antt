use Rattle.std.proofs.Common.{◌≡◌, ℕ, ◌+◌, List, [], ap, sym, subst, ◌∙◌, arith, refl, length, drop, take, length-drop, string_bytes}
use Rattle.std.proofs.lemmas.List.{length-map}
use Rattle.std.proofs.lemmas.List.Edits.{sets, length-remove}
use Rattle.syntect_buffer.specs.States.{StandSame}
use Rattle.syntect_buffer.specs.Kept.{AreReadAgain, IsEdited, ending, lines_in}
use Rattle.syntect_buffer.specs.declared.states.LineStates.{LineStates}
use Rattle.syntect_buffer.specs.declared.reading.Reading.{Reading}
use Rattle.syntect_buffer.proofs.HeldLaws.{left_alike}
use Rattle.syntect_buffer.proofs.KeptLaws.{removed}
use Rattle.syntect_buffer.proofs.edits.remove_at.Goals as goal

pub returns-clause-ok : goal.returns-clause-ok
returns-clause-ok c =
    let set = c.args.set.now in
    let theme = c.args.theme.now in
    let old = c.args.kept.now in
    let again = c.in_ok-again.again.items in
    let more = subst (λ (s : LineStates). AreReadAgain set theme old.limits s (ending old.start (take (c.args.place + 1) old.readings)) (drop (c.args.place + 1) (lines_in old)) (drop (c.args.place + 1) old.readings) again)
    c.states_at-before.ensures c.in_ok-again.ensures in
    let e = removed set theme old (record old { lines = c.remove.new.self; readings = c.renew.new.readings }) c.args.place again c.requires.count c.requires.within
    more refl refl c.remove.ensures.rest
    (c.renew.ensures ∙ ap (λ (rs : List Reading). sets rs c.args.place again) c.remove-2.ensures.rest) in
    let n : length again ≡ c.len-number.result = omega (arith, c.in_ok-again.again.ok.0, c.len-number.ensures) in
    subst (λ (number : ℕ). IsEdited set theme old (record old { lines = c.remove.new.self; readings = c.renew.new.readings }) c.args.place (c.args.place + 1) [] number) n e

pub renew-requires : goal.renew-requires
renew-requires c =
    let old = c.args.kept.now in
    omega (
      arith,
      ap length c.remove-2.ensures.rest,
      length-remove old.readings c.args.place (omega arith),
      c.in_ok-again.ensures.within,
      length-drop (c.args.place + 1) (lines_in old),
      length-map old.lines string_bytes,
      c.requires.count,
    )

pub read_again-requires-clause-alike : goal.read_again-requires-clause-alike
read_again-requires-clause-alike c = λ marked.
    let old = c.args.kept.now in
    subst (λ (s : LineStates). StandSame (ending old.start (take (c.args.place + 1) old.readings)) s) (sym c.states_at-before.ensures)
    (left_alike old.start old.readings c.args.place c.get.result.now c.requires.marked c.get.ensures marked)
