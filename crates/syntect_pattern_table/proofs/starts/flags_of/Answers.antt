use Rattle.std.proofs.Common.{◌==◌, ◌/◌, ◌∷◌, [], ℕ, Bool, List, true, length, length-append, get_or, ◌∙◌, ap, arith, bit_and}
use Rattle.std.proofs.lemmas.Nat.{shr-shr}
use Rattle.syntect_pattern_table.proofs.PlaceLaws.{bit_flags-push, flags_in}
use Rattle.syntect_pattern_table.proofs.starts.flags_of.Goals as goal

pub loop-preserved : goal.loop-preserved
loop-preserved c =
    let flags : List Bool = c.loop.flags.items in
    let bits : ℕ = c.args.places.ascii in
    let flag : Bool = bit_and c.loop.rest 1 == 1 in
    record {
      count = ap length c.push_reserved.ensures.items ∙ omega (arith, length-append flags (flag ∷ []), c.loop.invariant.count);
      room = omega (arith, c.push_reserved.ensures.capacity, c.loop.invariant.room);
      rest = ap (λ (n : ℕ). n / 2) c.loop.invariant.rest ∙ shr-shr bits c.loop.counter 1;
      right = λ k l. ap (λ (fs : List Bool). get_or fs k true) c.push_reserved.ensures.items
          ∙ bit_flags-push bits flags c.loop.rest c.loop.counter c.loop.invariant.count c.loop.invariant.rest c.loop.invariant.right k l;
    }

pub returns : goal.returns
returns c = λ x l.
    flags_in c.args.places c.loop.flags.items _ _
    (omega (arith, c.loop.invariant.count, c.loop-test.false))
    (λ k h. c.loop.invariant.right k (omega (arith, h, c.loop-test.false)))
    c.push_reserved-2.ensures.items (c.from_vec.ensures ∙ c.push_reserved-3.ensures.items) x l
