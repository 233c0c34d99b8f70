use Rattle.std.proofs.Common.{◌∷◌, ℕ, List, sym, subst}
use Rattle.syntect_pattern.specs.Sets.{from_to}
use Rattle.syntect_pattern.specs.Letters.{letters_tree}
use Rattle.syntect_pattern_compile.specs.NeedViews.{IsNeeded}
use Rattle.syntect_pattern_compile.proofs.NeedLaws.{letter-begins, need-letters, none_left}
use Rattle.syntect_pattern_compile.proofs.needs.pair_of_letters.Goals as goal

pub returns-in-Some : goal.returns-in-Some
returns-in-Some c = λ u begins.
    let first = from_to c.args.fold c.args.first c.args.first in
    need-letters c.pair_at.result c.places_of_letter.result c.args.fold c.args.first c.in-Some.second.now c.args.others.now _ u c.in-Some.ensures.cases.0
    (λ t b. c.pair_at.ensures first t (letter-begins c.places_of_letter-here.result first c.places_of_letter-here.ensures) b) c.places_of_letter.ensures

pub returns-in-None : goal.returns-in-None
returns-in-None c = λ u begins.
    let first = from_to c.args.fold c.args.first c.args.first in
    subst (λ (cs : List ℕ). IsNeeded c.pair_at-in-None.result (letters_tree c.args.fold (c.args.first ∷ cs) u)) (sym (none_left c.args.others.now c.in-None.ensures.cases))
    (c.pair_at-in-None.ensures first u (letter-begins c.places_of_letter-here.result first c.places_of_letter-here.ensures) begins)
