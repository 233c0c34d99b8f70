use Rattle.std.proofs.Common.{refl}
use Rattle.syntect_pattern.specs.Trees.{one_of}
use Rattle.syntect_pattern_table.specs.Starts.{is_in}
use Rattle.syntect_pattern_compile.proofs.NeedLaws.{need-begin, need-first, need-pair}
use Rattle.syntect_pattern_compile.proofs.needs.pair_at.Goals as goal

pub returns-then-here : goal.returns-then-here
returns-then-here c = λ a u first second.
    rw c.weighed.ensures.here (rw c.weighed.ensures.next
    (need-first (is_in c.args.here) (is_in c.anywhere.result) (one_of a) u
    (need-begin c.args.here (is_in c.anywhere.result) c.anywhere.ensures (one_of a) first)))

pub returns : goal.returns
returns c = λ a u first second.
    rw c.weighed-2.ensures.here (rw c.weighed-2.ensures.next
    (need-pair c.args.here c.args.next (one_of a) u refl c.if-here.false first second))
