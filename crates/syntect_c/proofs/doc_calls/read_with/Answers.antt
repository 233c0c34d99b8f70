use Rattle.std.proofs.Common.{rules, ◌≡◌, ◌∙◌, Some, ap, box_value, option_map, pos, subst, sym, w32}
use Rattle.std.proofs.Math.Facts.{to_z-of_z}
use Rattle.syntect_c.specs.declared.set.SetContent.{SetContent}
use Rattle.syntect_c.specs.declared.set.Stage.{Stage}
use Rattle.syntect_c.proofs.DocLaws.{one_held}
use Rattle.syntect_c.proofs.doc_calls.read_with.Goals as goal

pub returns-in-Some-clause-read : goal.returns-in-Some-clause-read
returns-in-Some-clause-read c = λ past content assets set_is linked stands is.
    let done : c.line_number-number.result ≡ pos 0 = sym (to_z-of_z {w = w32} (search rules)) ∙ is in
    let held : c.args.set.now.handle.held ≡ Some c.deref.result.now =
    ap (λ slot. slot.handle.held) (sym c.replace.ensures.value) ∙ sym c.take.ensures
    ∙ ap (option_map box_value) c.in-Some.is ∙ ap Some (sym c.deref.ensures) in
    let same : content ≡ c.deref.result.now = one_held _ content c.deref.result.now set_is held in
    c.line_number-number.ensures.read past assets
    (subst (λ (s : SetContent). s.stage ≡ Stage.Linked assets) same linked) stands done

pub returns-in-Some-clause-names : goal.returns-in-Some-clause-names
returns-in-Some-clause-names c = c.line_number-number.ensures.names
