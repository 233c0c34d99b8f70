use Rattle.std.proofs.lemmas.Str.{IsCharBoundary-start}
use Rattle.syntect_check_queries.proofs.searches.timed.Goals as goal

pub search_into-requires-clause-begin_boundary : goal.search_into-requires-clause-begin_boundary
search_into-requires-clause-begin_boundary g c = IsCharBoundary-start c.args.text.now c.utf8.text
