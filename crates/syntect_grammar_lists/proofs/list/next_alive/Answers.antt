use Rattle.std.proofs.Common.{◌<◌, ◌+◌, ◌*◌, ◌/◌, ◌%◌, ◌^◌, ℕ, inl, inr, ap, ◌∙◌, arith}
use Rattle.std.specs.Int.{w64, trailing_zeros, bit_at}
use Rattle.std.proofs.lemmas.Bool.{cases_lt}
use Rattle.std.proofs.lemmas.Nat.{shr_le}
use Rattle.std.proofs.lemmas.Nat.Bits.{bit_at-trailing_zeros, bit_at-zero}
use Rattle.syntect_grammar_lists.specs.Packed.{unpacked}
use Rattle.syntect_grammar_lists.proofs.RowLaws.{next_inside, passed_alive}
use Rattle.syntect_grammar_lists.proofs.list.next_alive.Goals as goal

pub alive-requires-clause-within : goal.alive-requires-clause-within
alive-requires-clause-within c = omega (arith, c.loop-next-test.true, c.requires.room)

pub returns-then-rest-ne0-clause-passed : goal.returns-then-rest-ne0-clause-passed
returns-then-rest-ne0-clause-passed c = λ flats k d e r from before inside.
    let next : ℕ = c.loop-next.next in
    let rest : ℕ = c.alive.result / 2 ^ (next % 64) in
    let fits : rest < 2 ^ 64 = omega (arith, c.alive.type_inv, shr_le c.alive.result (next % 64)) in
    let t = bit_at-trailing_zeros w64 rest (omega (arith, c.if-rest-ne0.true)) fits in
    let within : next + trailing_zeros w64 rest < (next / 64 + 1) * 64 = next_inside c.alive.result next (trailing_zeros w64 rest) c.alive.type_inv t.1 in
    elim (cases_lt k next) [
      | inl b ↦ c.loop-next.invariant.passed flats k d e r from b inside
      | inr b ↦ passed_alive (unpacked c.args.words c.args.rows.now) c.args.words c.args.outlook flats next (next + trailing_zeros w64 rest) c.alive.result
          r c.alive.ensures (omega (arith, within)) (λ i j. t.2 i (omega (arith, j))) k d b before (omega (arith, e, inside))
    ]

pub loop-next-preserved : goal.loop-next-preserved
loop-next-preserved c = record {
  later = omega (arith, c.loop-next.invariant.later);
  passed = λ flats k d e r from before inside.
      let next : ℕ = c.loop-next.next in
      elim (cases_lt k next) [
        | inl b ↦ c.loop-next.invariant.passed flats k d e r from b inside
        | inr b ↦ passed_alive (unpacked c.args.words c.args.rows.now) c.args.words c.args.outlook flats next ((next / 64 + 1) * 64) c.alive.result
            r c.alive.ensures (omega arith) (λ i j. ap (λ w. bit_at w i) c.if-rest-ne0.false ∙ bit_at-zero i) k d b before (omega (arith, e, inside))
      ];
}
