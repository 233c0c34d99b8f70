use Rattle.std.proofs.Common.{◌≡◌, ◌-◌, ◌∙◌, ℕ, suc, Bool, List, Option, Some, None, get_or, ap, subst, arith}
use Rattle.std.specs.Prelude.{option_and_then}
use Rattle.syntect_regex.specs.syntect_pattern.Trees.{group_in_look}
use Rattle.syntect_regex.specs.syntect_pattern.Pattern.{pattern_tree}
use Rattle.syntect_regex.specs.Details.{KnowsGroups}
use Rattle.syntect_regex.proofs.details.group_among.Goals as goal

pub returns-then-number-eq0 : goal.returns-then-number-eq0
returns-then-number-eq0 c = λ pattern is.
    let known : KnowsGroups pattern (Some c.in-Some.looks) = subst (λ (o : Option (List (Option Bool))). KnowsGroups pattern o) c.in-Some.is is in
    rw c.if-number-eq0.true (known 0)

pub returns : goal.returns
returns c = λ pattern is.
    let known : KnowsGroups pattern (Some c.in-Some.looks) = subst (λ (o : Option (List (Option Bool))). KnowsGroups pattern o) c.in-Some.is is in
    let more : suc (c.args.number - 1) ≡ c.args.number = omega (arith, c.if-number-eq0.false) in
    c.look_at.ensures
    ∙ ap (λ (looks : List (Option Bool)). get_or looks c.args.number None) c.as_slice.ensures
    ∙ subst (λ (k : ℕ). get_or c.in-Some.looks k None ≡ option_and_then (λ tree. group_in_look tree k) (pattern_tree pattern)) more (known (suc (c.args.number - 1)))
