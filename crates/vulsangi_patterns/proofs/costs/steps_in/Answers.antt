use Rattle.std.proofs.lemmas.Str.{IsCharBoundary-start}
use Rattle.vulsangi_patterns.proofs.costs.steps_in.Goals as goal

pub search_by_meter-requires-clause-begin_boundary : goal.search_by_meter-requires-clause-begin_boundary
search_by_meter-requires-clause-begin_boundary c = IsCharBoundary-start c.args.text.now c.utf8.text
