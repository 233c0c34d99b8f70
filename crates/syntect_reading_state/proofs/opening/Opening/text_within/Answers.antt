use Rattle.std.proofs.Common.{refl}
use Rattle.syntect_reading_state.proofs.syntect_grammar_contexts_proofs.SubstitutionLaws.{boundaries_of_same}
use Rattle.syntect_reading_state.proofs.opening.Opening.text_within.Goals as goal

pub text_with_refs-requires : goal.text_with_refs-requires
text_with_refs-requires c = boundaries_of_same c.self.inside.line c.as_str.result.now c.self.inside.region c.self.inside.region c.as_str.ensures refl c.self.invariant
