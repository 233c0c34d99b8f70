use Rattle.std.proofs.Common.{◌≡◌, ℕ, ◌+◌, List, ◌∷◌, [], ap, subst, ◌∙◌, arith, length, string_bytes}
use Rattle.std.proofs.lemmas.List.Edits.{sets}
use Rattle.syntect_buffer.specs.Kept.{IsReadFrom, IsEdited}
use Rattle.syntect_buffer.specs.declared.states.LineStates.{LineStates}
use Rattle.syntect_buffer.specs.declared.reading.Kept.{Kept}
use Rattle.syntect_buffer.proofs.KeptLaws.{inserted}
use Rattle.syntect_buffer.proofs.edits.insert_at.Goals as goal

pub returns-clause-ok : goal.returns-clause-ok
returns-clause-ok c =
    let set = c.args.set.now in
    let theme = c.args.theme.now in
    let old = c.args.kept.now in
    let r = c.in_ok-reading.reading in
    let again = c.in_ok-again.again.items in
    let p = c.in_ok-put_in.ensures.ok in
    let read : IsReadFrom set theme c.states_at-before.result.now (string_bytes c.args.line) r =
    subst (λ (l : List ℕ). IsReadFrom set theme c.states_at-before.result.now l r) c.as_str.ensures.value c.in_ok-reading.ensures.read in
    let e = inserted set theme old (record c.put_in.new.kept { readings = c.renew.new.readings }) c.args.place c.args.line r again c.requires.count c.requires.within
    (subst (λ (s : LineStates). IsReadFrom set theme s (string_bytes c.args.line) r) c.states_at-before.ensures read)
    c.in_ok-reading.ensures.told c.in_ok-again.ensures
    (ap (λ (k : Kept). k.limits) p) (ap (λ (k : Kept). k.start) p) (ap (λ (k : Kept). k.lines) p)
    (c.renew.ensures ∙ ap (λ (k : Kept). sets k.readings (c.args.place + 1) again) p) in
    let n : 1 + length again ≡ 1 + c.len-number.result = omega (arith, c.in_ok-again.again.ok.0, c.len-number.ensures) in
    subst (λ (number : ℕ). IsEdited set theme old (record c.put_in.new.kept { readings = c.renew.new.readings }) c.args.place c.args.place (string_bytes c.args.line ∷ []) number) n e
