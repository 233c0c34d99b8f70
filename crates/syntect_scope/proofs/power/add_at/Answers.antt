use Rattle.std.proofs.Common.{◌≡◌, ◌<◌, ◌≤◌, ◌+◌, ◌*◌, ◌/◌, ◌%◌, ◌^◌, ◌-◌, ◌++◌, ◌∷◌, [], ◌∙◌, ℕ, List, length, length-set, length-append, arith, subst, sym, get_or, set}
use Rattle.std.proofs.lemmas.Grind.{get_or_default_zero}
use Rattle.syntect_scope.specs.Digits.{number_of, AreDigits}
use Rattle.syntect_scope.proofs.DigitLaws.{add_step, digit_small, push_step, digits_set, digits_push, highest_stays, highest_set, highest_push}
use Rattle.syntect_scope.proofs.power.add_at.Goals as goal
use Rattle.syntect_scope.proofs.power.add_at.Goals.{then-i-len, else-i-len}

-- what stands after one digit of the addition
record Goes (total i : ℕ) (es : List ℕ) (left : ℕ) : Type 0 where
  sum : number_of es + left * 8 ^ (i + 1) ≡ total
  digits : AreDigits es
  small : left ≤ 4294967296
  within : i + 1 ≤ length es
  highest : i + 1 < length es → 0 < get_or es (length es - 1) 0
  ended : left ≡ 0 → 0 < get_or es (length es - 1) 0

changed : (total : ℕ) (ds : List ℕ) (i rest d : ℕ) → d ≡ get_or ds i 0 → i < length ds → 0 < rest → rest ≤ 4294967296 → AreDigits ds
    → (i < length ds → 0 < get_or ds (length ds - 1) 0) → number_of ds + rest * 8 ^ i ≡ total → Goes total i (set ds i ((rest + d) % 8)) ((rest + d) / 8)
changed total ds i rest d e l r s g h t = record {
  sum = subst (λ (x : ℕ). number_of (set ds i ((rest + x) % 8)) + (rest + x) / 8 * 8 ^ (i + 1) ≡ total) (sym e) (add_step total ds i rest l t);
  digits = digits_set ds i ((rest + d) % 8) g (omega arith);
  small = omega (arith, digit_small ds i g, e, s);
  within = omega (arith, length-set {A = ℕ} ds i ((rest + d) % 8), l);
  highest = λ k. highest_stays ds i ((rest + d) % 8) (omega (arith, k, length-set {A = ℕ} ds i ((rest + d) % 8))) (h l);
  ended = λ z. highest_set ds i ((rest + d) % 8) l (λ k. h l) (omega (arith, z, r));
}

added : (total : ℕ) (ds : List ℕ) (i rest : ℕ) → i ≡ length ds → 0 < rest → rest ≤ 4294967296 → AreDigits ds → number_of ds + rest * 8 ^ i ≡ total → Goes total i (ds ++ rest % 8 ∷ []) (rest / 8)
added total ds i rest e r s g t = record {
  sum = push_step total ds i rest e t;
  digits = digits_push ds (rest % 8) g (omega arith);
  small = omega (arith, s);
  within = omega (arith, length-append ds (rest % 8 ∷ []), e);
  highest = λ k. absurd (omega (arith, k, length-append ds (rest % 8 ∷ []), e));
  ended = λ z. omega (arith, highest_push ds (rest % 8), z, r);
}

pub loop-rest-preserved : goal.loop-rest-preserved
loop-rest-preserved c = elim c.if-i-len.branch [
  | then-i-len w ↦
      let within : c.loop-rest.i < length c.loop-rest.digits.items = omega (arith, w.if-i-len.true, c.len.ensures, c.loop-rest.digits.ok.0) in
      let d : w.from.result ≡ get_or c.loop-rest.digits.items c.loop-rest.i 0 =
      w.from.ensures ∙ w.index.ensures ∙ get_or_default_zero c.loop-rest.digits.items c.loop-rest.i w.index.result.now within in
      let n : Goes _ c.loop-rest.i _ _ = changed _ c.loop-rest.digits.items c.loop-rest.i c.loop-rest.rest w.from.result d within c.loop-rest-test.true c.loop-rest.invariant.small c.loop-rest.invariant.digits c.loop-rest.invariant.highest c.loop-rest.invariant.sum in
      rw (w.digits-is, w.rest-is) (record {
        sum = n.sum;
        digits = n.digits;
        room = c.loop-rest.invariant.room;
        small = n.small;
        within = n.within;
        highest = n.highest;
        ended = n.ended;
      })
  | else-i-len w ↦
      let end : c.loop-rest.i ≡ length c.loop-rest.digits.items = omega (arith, w.if-i-len.false, c.len.ensures, c.loop-rest.digits.ok.0, c.loop-rest.invariant.within) in
      let n : Goes _ c.loop-rest.i _ _ = added _ c.loop-rest.digits.items c.loop-rest.i c.loop-rest.rest end c.loop-rest-test.true c.loop-rest.invariant.small c.loop-rest.invariant.digits c.loop-rest.invariant.sum in
      rw (w.digits-is, w.rest-is, w.push_reserved.ensures.items) (record {
        sum = n.sum;
        digits = n.digits;
        room = w.push_reserved.ensures.capacity ∙ c.loop-rest.invariant.room;
        small = n.small;
        within = n.within;
        highest = n.highest;
        ended = n.ended;
      })
]
