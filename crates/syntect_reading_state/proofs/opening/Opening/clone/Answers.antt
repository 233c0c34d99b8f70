use Rattle.syntect_reading_state.proofs.syntect_grammar_contexts_proofs.SubstitutionLaws.{boundaries_of_same}
use Rattle.syntect_reading_state.proofs.opening.Opening.clone.Goals as goal

pub invariant_of-result : goal.invariant_of-result
invariant_of-result c = boundaries_of_same c.self.inside.line c.in_ok-clone-2.field-0 c.self.inside.region c.in_ok-clone.field-0 c.in_ok-clone-2.ensures.cases c.in_ok-clone.ensures c.self.invariant
