use Rattle.std.proofs.Common.{◌≡◌, subst, ℕ, List, Bool, Option, None, Some, false, get_or, length, ◌<◌}
use Rattle.std.specs.Prelude.{IfSome}
use Rattle.syntect_pattern_linear.proofs.LeadLaws.{row-leads}
use Rattle.syntect_pattern_linear.proofs.marking.marked.Goals as goal

pub returns-clause-leads : goal.returns-clause-leads
returns-clause-leads c =
    let here = c.in_ok-here.here.items in
    let row = c.in_ok-row.row in
    row-leads c.args.ground.now c.args.place here row c.in_ok-here.ensures.knows c.in_ok-here.ensures.long
    (subst (λ (l : List (Option Bool)). IfSome row (λ row. (k : ℕ) → k < length l → get_or l k None ≡ Some (get_or row k false))) c.as_slice.ensures.value c.in_ok-row.ensures)
