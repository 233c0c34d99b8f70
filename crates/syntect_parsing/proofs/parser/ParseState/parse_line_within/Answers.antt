use Rattle.std.proofs.Common.{refl}
use Rattle.syntect_parsing.specs.Line.{no_level}
use Rattle.syntect_parsing.proofs.parser.ParseState.parse_line_within.Goals as goal

pub returns-then-is_empty-clause-refused : goal.returns-then-is_empty-clause-refused
returns-then-is_empty-clause-refused c = (0, no_level (c.if-is_empty.ensures.0 refl))
