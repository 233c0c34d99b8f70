use Rattle.std.proofs.Common.{◌≡◌, ◌++◌, length}
use Rattle.syntect_base.specs.Names.{entries_in, lost_in}
use Rattle.syntect_base.proofs.utils.entries_among.Given as goal

abbrev pub invariant-names : goal.invariant-names
invariant-names l = record {
  rest : l.names.items ++ entries_in l.rest ≡ entries_in l.bytes;
  lost : lost_in l.sought l.rest ≡ lost_in l.sought l.bytes;
}

abbrev pub decreases-names : goal.decreases-names
decreases-names l = length l.rest
