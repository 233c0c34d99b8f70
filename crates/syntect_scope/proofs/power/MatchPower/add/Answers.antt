use Rattle.std.proofs.Common.{◌≡◌, ◌^◌, ◌<◌, ◌∙◌, ◌-◌, ℕ, List, length, get_or, ap, sym, subst, arith}
use Rattle.std.specs.Prelude.{vec_capacity}
use Rattle.syntect_scope.specs.Digits.{number_of}
use Rattle.syntect_scope.proofs.DigitLaws.{sum_below, number_below}
use Rattle.syntect_scope.proofs.power.MatchPower.add.Goals as goal

pub add_at-requires-clause-room : goal.add_at-requires-clause-room
add_at-requires-clause-room c =
    let items : length c.reserve-2.new.self.items ≡ length c.self.inside.digits.items = ap length c.in_ok-reserve-2.ensures.items in
    let value : number_of c.pad.new.digits.items ≡ number_of c.self.inside.digits.items = c.pad.ensures.value ∙ ap number_of c.in_ok-reserve-2.ensures.items in
    let below : number_of c.pad.new.digits.items < 8 ^ length c.self.inside.digits.items = omega (arith, value, number_below c.self.inside.digits.items c.self.invariant.0) in
    let len : c.len-len.result ≡ length c.self.inside.digits.items = c.len-len.ensures ∙ c.self.inside.digits.ok.0 in
    sum_below (number_of c.pad.new.digits.items) (length c.self.inside.digits.items) c.args.count c.args.place (vec_capacity c.pad.new.digits) below c.ranges.count.fits
    (omega (arith, items, len, c.in_ok-reserve-2.ensures.ok, c.max.ensures, c.pad.ensures.room, c.reserve-2.new.self.ok.0))
    (omega (arith, items, len, c.in_ok-reserve-2.ensures.ok, c.max.ensures, c.pad.ensures.room, c.reserve-2.new.self.ok.0, c.in-Some.ensures))

pub add_at-requires-clause-highest : goal.add_at-requires-clause-highest
add_at-requires-clause-highest c = λ l.
    let items : c.reserve-2.new.self.items ≡ c.self.inside.digits.items = c.in_ok-reserve-2.ensures.items in
    let long : c.args.place < length c.reserve-2.new.self.items = omega (arith, l, c.pad.ensures.len) in
    let same : c.pad.new.digits.items ≡ c.self.inside.digits.items = c.pad.ensures.kept (omega (arith, long)) ∙ items in
    subst (λ (ds : List ℕ). 0 < get_or ds (length ds - 1) 0) (sym same) (c.self.invariant.1 (omega (arith, long, ap length items)))
