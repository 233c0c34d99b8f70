use Rattle.std.proofs.lemmas.Str.{IsCharBoundary-start}
use Rattle.syntect_grammar_limits.proofs.first_lines.fits_line.Goals as goal

pub search_by_meter-requires-clause-begin_boundary : goal.search_by_meter-requires-clause-begin_boundary
search_by_meter-requires-clause-begin_boundary c = IsCharBoundary-start c.args.line.now c.utf8.line
