use Rattle.std.proofs.Common.{rules, ◌≡◌, ◌∙◌, pos, sym, w32}
use Rattle.std.proofs.Math.Facts.{to_z-of_z}
use Rattle.syntect_c.proofs.CallLaws.{finds_held}
use Rattle.syntect_c.proofs.calls.vls_set_find.Goals as goal

pub returns-in-Some-clause-found : goal.returns-in-Some-clause-found
returns-in-Some-clause-found c = λ is.
    let done : c.language-number.result ≡ pos 0 = sym (to_z-of_z {w = w32} (search rules)) ∙ is in
    finds_held _ _ _ _ c.of.ensures (c.language-number.ensures.found done)
