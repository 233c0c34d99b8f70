use Rattle.std.proofs.Common.{◌≡◌, rules}
use Rattle.std.proofs.lemmas.Slice.Eq.{slice_eq-Decides}
use Rattle.std.specs.Cmp.{booleans_Decides}
use Rattle.syntect_pattern_linear.proofs.marks.Rows.place_of.Goals as goal

pub returns-then-eq-clause-found : goal.returns-then-eq-clause-found
returns-then-eq-clause-found c =
    let same : c.in-Some.kept.now ≡ c.args.row = (slice_eq-Decides booleans_Decides c.in-Some.kept.now c.args.row c.eq.result c.eq.ensures).0 c.if-eq.true in
    search rules
