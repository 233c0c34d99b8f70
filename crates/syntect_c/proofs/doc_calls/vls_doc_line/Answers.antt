use Rattle.std.proofs.Common.{rules, ◌≡◌, ◌∙◌, Some, ap, box_value, option_map, pos, sym, w32}
use Rattle.std.proofs.Math.Facts.{to_z-of_z}
use Rattle.syntect_c.proofs.DocLaws.{reads_held, names_held}
use Rattle.syntect_c.proofs.doc_calls.vls_doc_line.Goals as goal

pub returns-in-Some-clause-read : goal.returns-in-Some-clause-read
returns-in-Some-clause-read c = λ past stands is.
    let done : c.read_with-number.result ≡ pos 0 = sym (to_z-of_z {w = w32} (search rules)) ∙ is in
    let held : c.args.doc.now.handle.held ≡ Some c.deref_mut.result.now =
    ap (λ slot. slot.handle.held) (sym c.replace.ensures.value) ∙ sym c.take.ensures
    ∙ ap (option_map box_value) c.in-Some.is ∙ ap Some (sym c.deref_mut.ensures.value) in
    reads_held past c.args.set.now.handle.held c.args.line_bytes.now c.args.doc.now.handle.held
    _ _ _ held c.of.ensures stands
    (λ content assets set_is linked after.
    c.read_with-number.ensures.read past content assets set_is linked after done)

pub returns-in-Some-clause-names : goal.returns-in-Some-clause-names
returns-in-Some-clause-names c =
    let held : c.args.doc.now.handle.held ≡ Some c.deref_mut.result.now =
    ap (λ slot. slot.handle.held) (sym c.replace.ensures.value) ∙ sym c.take.ensures
    ∙ ap (option_map box_value) c.in-Some.is ∙ ap Some (sym c.deref_mut.ensures.value) in
    names_held c.args.doc.now.handle.held _ _ _ held c.of.ensures c.read_with-number.ensures.names
