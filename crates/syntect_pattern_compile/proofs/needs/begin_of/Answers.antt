use Rattle.std.specs.Prelude.{slice_index_or}
use Rattle.syntect_pattern.specs.Trees.{nothing}
use Rattle.syntect_pattern_table.specs.Starts.{is_in}
use Rattle.syntect_pattern_compile.proofs.NeedLaws.{need-begin}
use Rattle.syntect_pattern_compile.proofs.needs.begin_of.Goals as goal

pub returns : goal.returns
returns c = λ ts known.
    rw c.weighed.ensures.here (rw c.weighed.ensures.next
    (need-begin c.places_at.result (is_in c.anywhere.result) c.anywhere.ensures (slice_index_or ts c.args.place nothing) (c.places_at.ensures ts known)))
