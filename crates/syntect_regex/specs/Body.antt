-- What a pattern keeps in a place of its own.
use Rattle.syntect_regex.specs.declared.outline.Outline.{Outline}
use Rattle.syntect_regex.specs.declared.body.RegexBody.{RegexBody}

-- ---- What invariants alone rest on ----

-- what it keeps for one that was not searched yet
abbrev pub outline_in : RegexBody → Outline
outline_in body = record {
  begins = record { ascii = body.ascii; wide = body.wide; end = body.end };
  at_edges = body.at_edges;
  at_lines = body.at_lines;
  details = body.details;
}
