use Rattle.std.proofs.lemmas.Str.{IsCharBoundary-start}
use Rattle.syntect_grammar.proofs.finders.fits_line.Goals as goal

pub search_into-requires-clause-begin_boundary : goal.search_into-requires-clause-begin_boundary
search_into-requires-clause-begin_boundary c = IsCharBoundary-start c.args.line.now c.utf8.line
