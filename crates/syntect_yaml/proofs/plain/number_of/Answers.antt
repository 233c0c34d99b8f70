use Rattle.std.proofs.Common.{ℤ, ap, ◌∙◌, Some, sym, subst, SFits, w64}
use Rattle.std.proofs.lemmas.Int.{to_z-of_z}
use Rattle.syntect_yaml.proofs.NumberLaws.{number_some, number_none}
use Rattle.syntect_yaml.proofs.plain.number_of.Goals as goal

pub returns-in-Ok : goal.returns-in-Ok
returns-in-Ok c =
    let parsed = c.in-Ok.ensures.value.0 in
    let fits : SFits w64 c.in-Ok.n = subst (SFits w64) (sym parsed.1) parsed.0.1 in
    ap (λ (z : ℤ). Some z) (to_z-of_z w64 c.in-Ok.n fits) ∙ number_some c.args.text.now c.in-Ok.n parsed.0.0 parsed.0.1 parsed.1

pub returns-in-Err : goal.returns-in-Err
returns-in-Err c = number_none c.args.text.now c.in-Err.ensures.value.0
