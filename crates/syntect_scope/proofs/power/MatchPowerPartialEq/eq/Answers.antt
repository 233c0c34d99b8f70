use Rattle.std.proofs.Common.{◌==◌, ap, sym, ◌∙◌}
use Rattle.std.proofs.lemmas.Slice.Eq.{slice_eq-Decides}
use Rattle.std.proofs.lemmas.Bool.Decides.{same_from_decides, Decides-eqb, Decides-like}
use Rattle.syntect_scope.specs.Digits.{number_of}
use Rattle.syntect_scope.proofs.DigitLaws.{same_number}
use Rattle.syntect_scope.proofs.power.MatchPowerPartialEq.eq.Goals as goal

pub returns : goal.returns
returns c =
    same_from_decides c.eq.result (c.args.self.now == c.args.other.now)
    (slice_eq-Decides Decides-eqb c.self.inside.digits.items c.other.inside.digits.items c.eq.result c.eq.ensures)
    (Decides-like (c.args.self.now == c.args.other.now)
    (λ e. same_number c.self.inside.digits.items c.other.inside.digits.items c.self.invariant c.other.invariant (c.self.view_is ∙ e ∙ sym c.other.view_is))
    (λ e. sym c.self.view_is ∙ ap number_of e ∙ c.other.view_is)
    (Decides-eqb c.args.self.now c.args.other.now))
