use Rattle.std.proofs.Common.{◌≡◌, ℕ, ◌+◌, List, ◌∷◌, [], ap, sym, subst, ◌∙◌, arith, refl, length, string_bytes}
use Rattle.std.proofs.lemmas.Bool.{false≢true}
use Rattle.std.proofs.lemmas.List.Edits.{sets}
use Rattle.syntect_buffer.specs.Kept.{IsMarked, IsReadFrom, IsEdited}
use Rattle.syntect_buffer.specs.declared.states.LineStates.{LineStates}
use Rattle.syntect_buffer.specs.declared.reading.Reading.{Reading}
use Rattle.syntect_buffer.proofs.HeldLaws.{both_alike}
use Rattle.syntect_buffer.proofs.KeptLaws.{replaced}
use Rattle.syntect_buffer.proofs.edits.set_at.Goals as goal
use Rattle.syntect_buffer.proofs.edits.set_at.Goals.{then-reading, else-reading}

pub returns-clause-ok : goal.returns-clause-ok
returns-clause-ok c =
    let set = c.args.set.now in
    let theme = c.args.theme.now in
    let old = c.args.kept.now in
    let r = c.in_ok-reading.reading in
    let again = c.in_ok-again.again.items in
    let read : IsReadFrom set theme c.states_at-before.result.now (string_bytes c.args.line) r =
    subst (λ (l : List ℕ). IsReadFrom set theme c.states_at-before.result.now l r) c.as_str.ensures.value c.in_ok-reading.ensures.read in
    let e = replaced set theme old (record old { lines = c.set.new.self; readings = c.renew.new.readings }) c.args.place c.args.line r again c.requires.count c.requires.within
    (subst (λ (s : LineStates). IsReadFrom set theme s (string_bytes c.args.line) r) c.states_at-before.ensures read)
    c.in_ok-reading.ensures.told c.in_ok-again.ensures
    refl refl c.set.ensures
    (c.renew.ensures ∙ ap (λ (rs : List Reading). sets rs (c.args.place + 1) again) c.set-2.ensures) in
    let n : 1 + length again ≡ 1 + c.len-number.result = omega (arith, c.in_ok-again.again.ok.0, c.len-number.ensures) in
    subst (λ (number : ℕ). IsEdited set theme old (record old { lines = c.set.new.self; readings = c.renew.new.readings }) c.args.place (c.args.place + 1) (string_bytes c.args.line ∷ []) number) n e

pub read_again-requires-clause-alike : goal.read_again-requires-clause-alike
read_again-requires-clause-alike c =
    let old = c.args.kept.now in
    let r = c.in_ok-reading.reading in
    let own = subst (λ (s : LineStates). IsMarked s r) c.states_at-before.ensures c.in_ok-reading.ensures.read.marked in
    elim c.if-reading.branch [
      | then-reading w ↦ λ marked. both_alike old.start old.readings c.args.place w.get.result.now r c.requires.marked w.get.ensures (sym w.alike-is ∙ marked) own w.if-reading.true
      | else-reading w ↦ λ marked. absurd (false≢true (sym w.if-reading.false ∙ sym w.alike-is ∙ marked))
    ]
