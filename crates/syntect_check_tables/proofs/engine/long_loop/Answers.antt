use Rattle.std.proofs.lemmas.Str.{IsCharBoundary-start}
use Rattle.syntect_check_tables.proofs.engine.long_loop.Goals as goal

pub search_into-requires-clause-begin_boundary : goal.search_into-requires-clause-begin_boundary
search_into-requires-clause-begin_boundary c = IsCharBoundary-start c.as_str-line.result.now c.as_str-line.utf8
