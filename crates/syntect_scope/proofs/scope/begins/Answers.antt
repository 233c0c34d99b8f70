use Rattle.std.proofs.Common.{ℕ, ◌/◌, ◌*◌, ap}
use Rattle.std.specs.Int.Count.{count_trailing_zeros}
use Rattle.syntect_scope.proofs.PackingLaws.{unused_places, mask_begins}
use Rattle.syntect_scope.proofs.scope.begins.Goals as goal

pub returns : goal.returns
returns c =
    mask_begins c.args.word c.args.other (count_trailing_zeros 64 c.args.word / 16 * 16) c.ranges.word.fits c.ranges.other.fits c.requires
    (ap (λ (n : ℕ). n * 16) (unused_places c.args.word c.ranges.word.fits c.requires))
