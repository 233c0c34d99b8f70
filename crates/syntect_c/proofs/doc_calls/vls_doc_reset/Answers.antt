use Rattle.std.proofs.Common.{rules, ◌≡◌, ◌∙◌, Some, ap, box_value, option_map, pos, sym, w32}
use Rattle.std.proofs.Math.Facts.{to_z-of_z}
use Rattle.syntect_c.proofs.DocLaws.{begins_held, names_held}
use Rattle.syntect_c.proofs.doc_calls.vls_doc_reset.Goals as goal

pub returns-in-Some-clause-begins : goal.returns-in-Some-clause-begins
returns-in-Some-clause-begins c = λ is.
    let done : c.reset_with-number.result ≡ pos 0 = sym (to_z-of_z {w = w32} (search rules)) ∙ is in
    let held : c.args.doc.now.handle.held ≡ Some c.deref_mut.result.now =
    ap (λ slot. slot.handle.held) (sym c.replace.ensures.value) ∙ sym c.take.ensures
    ∙ ap (option_map box_value) c.in-Some.is ∙ ap Some (sym c.deref_mut.ensures.value) in
    begins_held _ _ _ _ _ held c.of.ensures (c.reset_with-number.ensures.begins done)

pub returns-in-Some-clause-names : goal.returns-in-Some-clause-names
returns-in-Some-clause-names c =
    let held : c.args.doc.now.handle.held ≡ Some c.deref_mut.result.now =
    ap (λ slot. slot.handle.held) (sym c.replace.ensures.value) ∙ sym c.take.ensures
    ∙ ap (option_map box_value) c.in-Some.is ∙ ap Some (sym c.deref_mut.ensures.value) in
    names_held c.args.doc.now.handle.held _ _ _ held c.of.ensures c.reset_with-number.ensures.names
