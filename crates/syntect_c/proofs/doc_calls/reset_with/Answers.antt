use Rattle.std.proofs.Common.{rules, ◌≡◌, ◌∙◌, Some, ap, box_value, option_map, pos, sym, w32}
use Rattle.std.proofs.Math.Facts.{to_z-of_z}
use Rattle.syntect_c.proofs.DocLaws.{begins_with}
use Rattle.syntect_c.proofs.doc_calls.reset_with.Goals as goal

pub returns-in-Some-clause-begins : goal.returns-in-Some-clause-begins
returns-in-Some-clause-begins c = λ is.
    let done : c.reset_number-number.result ≡ pos 0 = sym (to_z-of_z {w = w32} (search rules)) ∙ is in
    let held : c.args.set.now.handle.held ≡ Some c.deref.result.now =
    ap (λ slot. slot.handle.held) (sym c.replace.ensures.value) ∙ sym c.take.ensures
    ∙ ap (option_map box_value) c.in-Some.is ∙ ap Some (sym c.deref.ensures) in
    begins_with _ _ _ _ held (c.reset_number-number.ensures.begins done)
