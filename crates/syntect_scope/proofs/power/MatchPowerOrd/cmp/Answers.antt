use Rattle.std.proofs.Common.{◌≡◌, ◌∙◌, ℕ, length, ap, nat_cmp}
use Rattle.syntect_scope.specs.Digits.{number_of}
use Rattle.syntect_scope.proofs.DigitLaws.{length_cmp}
use Rattle.syntect_scope.proofs.power.MatchPowerOrd.cmp.Goals as goal

pub returns-in_default : goal.returns-in_default
returns-in_default c =
    let m : c.len.result ≡ length c.self.inside.digits.items = c.len.ensures ∙ c.self.inside.digits.ok.0 in
    let n : c.len-2.result ≡ length c.other.inside.digits.items = c.len-2.ensures ∙ c.other.inside.digits.ok.0 in
    let r : c.cmp.result ≡ nat_cmp (length c.self.inside.digits.items) (length c.other.inside.digits.items) =
    c.cmp.ensures ∙ ap (λ (k : ℕ). nat_cmp k c.len-2.result) m ∙ ap (nat_cmp (length c.self.inside.digits.items)) n in
    r ∙ length_cmp c.self.inside.digits.items c.other.inside.digits.items c.self.invariant c.other.invariant (λ e. c.in_default.not-Equal (r ∙ e))
    ∙ ap (λ (k : ℕ). nat_cmp k (number_of c.other.inside.digits.items)) c.self.view_is ∙ ap (nat_cmp c.args.self.now) c.other.view_is
