use Rattle.std.proofs.Common.{ℕ, ◌-◌, ◌*◌, ◌/◌, ◌%◌, ◌^◌, arith, ap, ◌∙◌}
use Rattle.std.specs.Int.Count.{count_trailing_zeros}
use Rattle.std.specs.Prelude.{bit_or}
use Rattle.syntect_scope.specs.Packing.{places}
use Rattle.syntect_scope.proofs.PackingLaws.{unused_places, atom_put}
use Rattle.syntect_scope.proofs.scope.put_atom.Goals as goal

pub overflow_sub-result : goal.overflow_sub-result
overflow_sub-result c = omega (arith, unused_places c.args.word c.ranges.word.fits c.requires.packed, c.requires.room)

pub returns : goal.returns
returns c =
    ap (λ (n : ℕ). places 4 (bit_or c.args.word (n * 2 ^ (16 * (count_trailing_zeros 64 c.args.word / 16 - 1)) % 2 ^ 64))) c.from.ensures
    ∙ atom_put c.args.word c.args.atom (count_trailing_zeros 64 c.args.word / 16) c.ranges.word.fits c.ranges.atom.fits c.requires.packed c.requires.room
    (unused_places c.args.word c.ranges.word.fits c.requires.packed)
