use Rattle.std.proofs.Common.{List, ℕ, sym, subst}
use Rattle.syntect_pattern.specs.Letters.{letters_tree}
use Rattle.syntect_pattern_table.specs.Lengths.{HasLengths}
use Rattle.syntect_pattern_table.proofs.lengths.+before_rest.Goals as goal

pub returns-in-Some : goal.returns-in-Some
returns-in-Some k c = λ t h.
    subst (λ (cs : List ℕ). HasLengths (letters_tree c.args.fold cs t) c.in_sequence.result) (sym c.in-Some.ensures.cases.0)
    (c.in_sequence.ensures _ _ c.lengths_of_letter.ensures (c.before_rest.ensures t h))
