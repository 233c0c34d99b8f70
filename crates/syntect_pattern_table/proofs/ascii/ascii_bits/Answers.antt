use Rattle.std.proofs.Common.{◌≡◌, ◌<◌, ◌∷◌, [], ℕ, List, refl, sym, subst, ◌∙◌, ap, arith, length, length-append}
use Rattle.std.proofs.lemmas.Grind.{common_steps}
use Rattle.syntect_pattern.specs.Sets.{holds}
use Rattle.syntect_pattern_table.specs.SetTable.{AreBits, set_in, sets}
use Rattle.syntect_pattern_table.proofs.SetLaws.{holds-of}
use Rattle.syntect_pattern_table.proofs.PlaceLaws.{past_bits, bits_push}
use Rattle.syntect_pattern_table.proofs.ascii.ascii_bits.Goals as goal

pub returns-then-root-parts : goal.returns-then-root-parts
returns-then-root-parts c x l = past_bits c.args.parts.now c.args.root (grind (arith, common_steps)) x

pub loop-place-preserved : goal.loop-place-preserved
loop-place-preserved c =
    let ps = c.args.parts.now in
    let right : (x : ℕ) → x < 128 → AreBits x c.push_reserved.new.self.items (sets ps) =
    λ x l.
    let before : AreBits x c.as_slice.result.now (sets ps) = subst (λ (bs : List ℕ). AreBits x bs (sets ps)) (sym c.as_slice.ensures.value) (c.loop-place.invariant.right x l) in
    let next = c.bits_of-next.ensures (sets ps) x l before ∙ holds-of ps c.requires c.loop-place.place _ refl x in
    subst (λ (bs : List ℕ). AreBits x bs (sets ps)) (sym c.push_reserved.ensures.items)
    (bits_push x c.loop-place.before.items (sets ps) c.bits_of-next.result c.loop-place.place (c.loop-place.invariant.right x l) c.loop-place.invariant.count next)
    in
    record {
      count = ap length c.push_reserved.ensures.items ∙ omega (arith, length-append c.loop-place.before.items (c.bits_of-next.result ∷ []), c.loop-place.invariant.count);
      room = omega (arith, c.push_reserved.ensures.capacity, c.loop-place.invariant.room);
      right = right;
    }

pub returns-then-root-eq0 : goal.returns-then-root-eq0
returns-then-root-eq0 c x l =
    let ps = c.args.parts.now in
    let first : 0 ≡ c.args.root = omega arith in
    c.bits_of.ensures (sets ps) x l (λ k d h. absurd (omega (arith, h))) ∙ holds-of ps c.requires 0 _ refl x ∙ ap (λ (k : ℕ). holds (set_in ps k) x) first
