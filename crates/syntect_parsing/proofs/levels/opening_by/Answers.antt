use Rattle.syntect_parsing.proofs.syntect_grammar_contexts_proofs.SubstitutionLaws.{boundaries_of_same}
use Rattle.syntect_parsing.proofs.levels.opening_by.Goals as goal

pub new-requires : goal.new-requires
new-requires c =
    boundaries_of_same c.args.taken.now.line.now c.in_ok-line.line c.args.taken.now.region.now c.in_ok-region.region c.in_ok-line.ensures c.in_ok-region.ensures c.args.taken.now.on_boundaries
