use Rattle.std.proofs.Common.{◌≢◌, ℕ, List, [], subst}
use Rattle.syntect_base.specs.Names.{lost_in}
use Rattle.syntect_base.specs.Walks.{refused, one_lost}
use Rattle.syntect_base.proofs.utils.enter.Goals as goal

pub returns-in-Err-clause-unlisted : goal.returns-in-Err-clause-unlisted
returns-in-Err-clause-unlisted g c = λ other. refused {e = c.in-Err.e} c.in-Err.ensures.err (λ k. other (c.walk_fault.ensures.memory k))

pub returns-in-Err-entries_among-clause-unlisted : goal.returns-in-Err-entries_among-clause-unlisted
returns-in-Err-entries_among-clause-unlisted g c = λ other.
    one_lost {bytes = c.in-Ok.bytes.items} c.in-Ok.ensures.ok (subst (λ (b : List ℕ). lost_in c.args.sought b ≢ []) c.as_slice.ensures.value (c.in-Err-entries_among.ensures.one_lost other))
