-- Pieces of a line as C gets them.
use Rattle.std.specs.Prelude.{ℕ, ◌+◌, ◌*◌, List, [], ◌∷◌, length}
use Rattle.std.specs.Borrow.{Bor}
use Rattle.std.specs.List.{flat_map}
use Rattle.syntect_assets.specs.syntect_theme.Modifying.{bits_of}
use Rattle.syntect_assets.specs.syntect_theme.declared.style.Color.{Color}
use Rattle.syntect_assets.specs.syntect_theme.declared.style.Style.{Style}
use Rattle.syntect_c.specs.declared.span.Span.{Span}

-- a colour in one number
abbrev pub color_number : Color → ℕ
color_number color = color.r * 16777216 + color.g * 65536 + color.b * 256 + color.a

-- the span of so many bytes from a place on
abbrev pub span_at : Style → ℕ → ℕ → Span
span_at style offset length = record {
  offset = offset;
  length = length;
  foreground = color_number style.foreground;
  background = color_number style.background;
  flags = bits_of style.font_style;
}

-- the spans of pieces, the first of which begins at this place
abbrev pub spans_from : ℕ → List (Style × Bor (List ℕ)) → List Span
spans_from from [] = []
spans_from from (p ∷ ps) =
    span_at p.0 from (length p.1.now) ∷ spans_from (from + length p.1.now) ps

-- how many bytes pieces have together
abbrev pub all_bytes : List (Style × Bor (List ℕ)) → ℕ
all_bytes pieces = length (flat_map (λ p. p.1.now) pieces)
