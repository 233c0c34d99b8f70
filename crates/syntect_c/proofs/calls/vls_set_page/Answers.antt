use Rattle.std.proofs.Common.{rules, ◌≡◌, ◌∙◌, Some, ap, box_value, option_map, pos, sym, w32}
use Rattle.std.proofs.Math.Facts.{to_z-of_z}
use Rattle.syntect_c.proofs.CallLaws.{loaded_in, shows_held}
use Rattle.syntect_c.proofs.calls.vls_set_page.Goals as goal

pub returns-in-Some-clause-shown : goal.returns-in-Some-clause-shown
returns-in-Some-clause-shown c = λ loaded is.
    let done : c.page-number.result ≡ pos 0 = sym (to_z-of_z {w = w32} (search rules)) ∙ is in
    let held : c.args.set.now.handle.held ≡ Some c.deref_mut.result.now =
    ap (λ slot. slot.handle.held) (sym c.replace.ensures.value) ∙ sym c.take.ensures
    ∙ ap (option_map box_value) c.in-Some.is ∙ ap Some (sym c.deref_mut.ensures.value) in
    shows_held _ _ _ _ _ _ c.of.ensures
    (c.page-number.ensures.shown (loaded_in c.args.set.now.handle.held _ held loaded) done)
