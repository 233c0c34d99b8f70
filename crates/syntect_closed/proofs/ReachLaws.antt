-- As many steps as there are contexts are enough.
use Rattle.syntect_closed.specs.syntect_grammar_contexts.Contexts.{is_same}
use Rattle.syntect_closed.specs.syntect_grammar_contexts.Contexts.{count_contexts}
use Rattle.syntect_closed.specs.syntect_grammar_linker.Reached.{prototype_steps, names_at, includes_of, is_marked, PrototypesReach, MarksReach}
use Rattle.syntect_closed.proofs.syntect_grammar_linker_proofs.LeadsLaws.{leads_so}
use Rattle.syntect_closed.proofs.syntect_grammar_linker_proofs.ReachedLaws.{prototype_leads, marks_lead}

pub prototypes_reach : PrototypesReach
prototypes_reach heads bodies prototype id = (
  leads_so (prototype_steps bodies id.syntax_index (names_at heads id.syntax_index)) (is_same id) (count_contexts bodies) prototype,
  prototype_leads bodies id.syntax_index (names_at heads id.syntax_index) prototype id,
)

pub marks_reach : MarksReach
marks_reach heads bodies id = (leads_so (includes_of heads bodies) (is_marked bodies) (count_contexts bodies) id, marks_lead heads bodies id)
