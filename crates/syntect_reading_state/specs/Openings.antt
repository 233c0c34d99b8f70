-- Equal opening matches.
use Rattle.std.specs.Prelude.{Bool, ◌==◌}
use Rattle.std.specs.Ordering.{on, eq_of_both}
use Rattle.std.specs.Cmp.{IsEquivalence, and_equiv, on_equiv, nat_eq_equiv}
use Rattle.std.specs.Cmp.Lexicographic.{pointwise, lists_equiv}
use Rattle.syntect_reading_state.specs.syntect_regex.Region.{same_groups, same_groups-equiv}
use Rattle.syntect_reading_state.specs.syntect_grammar_contexts.Substitution.{Opening}

-- the same groups in the same line
abbrev pub same_opening : Opening → Opening → Bool
same_opening = eq_of_both (on (λ o. o.region) same_groups) (on (λ o. o.line) (pointwise ◌==◌))

pub same_opening-equiv : IsEquivalence same_opening
same_opening-equiv =
    and_equiv (on_equiv (λ o. o.region) same_groups-equiv)
    (on_equiv (λ o. o.line) (lists_equiv nat_eq_equiv))
