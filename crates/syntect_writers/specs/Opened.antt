-- A line while it is written: what is still to be written after the spans so far.
use Rattle.std.specs.Prelude.{ℕ, List, [], ◌∷◌, ◌++◌, codes, Option, Some, None, if◌then◌else◌}
use Rattle.std.specs.List.{flat_map}
use Rattle.syntect_theme.specs.declared.style.Style.{Style}
use Rattle.syntect_writers.specs.Entities.{escaped}
use Rattle.syntect_writers.specs.Spans.{open_tag, span_text, spans, joins_span}
use Rattle.syntect_writers.specs.declared.html.IncludeBackground.{IncludeBackground}

-- ---- For proofs and private functions alone ----

-- the rest of a line whose span of this style is open
unfoldable pub behind_open : IncludeBackground → Style → List (Style × List ℕ) → List ℕ
behind_open bg style [] = codes "</span>"
behind_open bg style (p ∷ ps) =
    if joins_span style p then escaped p.1 ++ behind_open bg style ps
    else codes "</span>" ++ (open_tag bg p.0 ++ (escaped p.1 ++ behind_open bg p.0 ps))

-- the rest of a line
abbrev pub line_behind : IncludeBackground → Option Style → List (Style × List ℕ) → List ℕ
line_behind bg None ps = flat_map (span_text bg) (spans ps)
line_behind bg (Some style) ps = behind_open bg style ps

-- what ends the span that is open
abbrev pub close_of : Option Style → List ℕ
close_of None = []
close_of (Some style) = codes "</span>"

-- the style of the open span, if the piece goes into it
abbrev pub continued : Option Style → Style × List ℕ → Option Style
continued None p = None
continued (Some style) p = if joins_span style p then Some style else None
