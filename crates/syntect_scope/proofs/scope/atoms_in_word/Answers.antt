use Rattle.std.proofs.Common.{◌≤◌, length, arith}
use Rattle.syntect_scope.specs.Atoms.{atoms_in}
use Rattle.syntect_scope.specs.Packing.{places}
use Rattle.syntect_scope.proofs.AtomLaws.{atoms_within}
use Rattle.syntect_scope.proofs.PackingLaws.{unused_places}
use Rattle.syntect_scope.proofs.scope.atoms_in_word.Goals as goal

pub returns : goal.returns
returns c =
    let w : length (atoms_in (places 4 c.args.word)) ≤ 4 = atoms_within (places 4 c.args.word) in
    omega (arith, unused_places c.args.word c.ranges.word.fits c.requires, w)
