-- Spans of HTML with inline styles.
use Rattle.std.specs.Prelude.{ℕ, ◌+◌, ◌/◌, ◌%◌, ◌==◌, nat_lt, Bool, true, false, not, ◌&&◌, ◌||◌, List, [], ◌∷◌, ◌++◌, map, codes, bit_and, chars, unwrap_or, if◌then◌else◌}
use Rattle.std.specs.List.{flat_map, list_all}
use Rattle.std.specs.Borrow.{Bor}
use Rattle.std.specs.Char.{is_whitespace}
use Rattle.syntect_theme.specs.declared.style.Color.{Color}
use Rattle.syntect_theme.specs.declared.style.Style.{Style}
use Rattle.syntect_theme.specs.declared.theme.Theme.{Theme}
use Rattle.syntect_theme.specs.Modifying.{bits_of}
use Rattle.syntect_writers.specs.Entities.{escaped}
use Rattle.syntect_writers.specs.declared.html.IncludeBackground.{IncludeBackground}
use Rattle.syntect_writers.specs.declared.html.IncludeBackground.TheVariants.{No, Yes, IfDifferent}

-- ---- colours ----

-- the character of a hexadecimal digit, a letter in lower case from 10 on
abbrev pub hex_digit : ℕ → ℕ
hex_digit d = if nat_lt d 10 then 48 + d else 87 + d

-- a byte in two hexadecimal digits
abbrev pub hex_pair : ℕ → List ℕ
hex_pair b = hex_digit (b / 16) ∷ hex_digit (b % 16) ∷ []

-- the digits of a colour without how opaque it is
abbrev pub rgb_digits : Color → List ℕ
rgb_digits c = hex_pair c.r ++ (hex_pair c.g ++ hex_pair c.b)

-- a colour without how opaque it is
abbrev pub rgb_text : Color → List ℕ
rgb_text c = 35 ∷ rgb_digits c

-- the digits of a colour
abbrev pub color_digits : Color → List ℕ
color_digits c = rgb_digits c ++ (if c.a == 255 then [] else hex_pair c.a)

-- a colour as CSS has it
abbrev pub color_text : Color → List ℕ
color_text c = 35 ∷ color_digits c

-- the two colours are equal, and equally opaque
abbrev pub same_color : Color → Color → Bool
same_color c d = ((c.r == d.r && c.g == d.g) && c.b == d.b) && c.a == d.a

-- ---- styles ----

-- a text, if it is asked for
unfoldable pub asked_for : Bool → List ℕ → List ℕ
asked_for asked text = if asked then text else []

-- the flags of a font as CSS has them
unfoldable pub flags_text : ℕ → List ℕ
flags_text bits =
    asked_for (bit_and bits 2 == 2) (codes "text-decoration:underline;")
    ++ (asked_for (bit_and bits 1 == 1) (codes "font-weight:bold;")
    ++ asked_for (bit_and bits 4 == 4) (codes "font-style:italic;"))

-- the two styles have equal colours and flags
abbrev pub same_style : Style → Style → Bool
same_style s t =
    (same_color s.foreground t.foreground && same_color s.background t.background)
    && bits_of s.font_style == bits_of t.font_style

-- the spans give the colour behind their text
abbrev pub tells_background : IncludeBackground → Style → Bool
tells_background No style = false
tells_background Yes style = true
tells_background (IfDifferent c) style = not (same_color style.background c)

-- a property whose value is a colour
unfoldable pub color_property : List ℕ → Color → List ℕ
color_property name c = name ++ (color_text c ++ codes ";")

-- the colour behind a span's text as CSS has it, where the spans give it
unfoldable pub background_text : IncludeBackground → Style → List ℕ
background_text bg style =
    asked_for (tells_background bg style)
    (color_property (codes "background-color:") style.background)

-- a style as CSS has it
unfoldable pub css : IncludeBackground → Style → List ℕ
css bg style =
    background_text bg style
    ++ (flags_text (bits_of style.font_style) ++ color_property (codes "color:") style.foreground)

-- ---- spans ----

-- a text of white space alone
abbrev pub is_blank : List ℕ → Bool
is_blank text = list_all is_whitespace (chars text)

-- a piece continues a span: it has its style, or it is white space on the same background
abbrev pub joins_span : Style → Style × List ℕ → Bool
joins_span style p =
    same_style p.0 style || (same_color p.0.background style.background && is_blank p.1)

-- a line's spans: each has the style of its first piece, and its text
unfoldable pub spans_from : Style → List ℕ → List (Style × List ℕ) → List (Style × List ℕ)
spans_from style text [] = (style, text) ∷ []
spans_from style text (p ∷ ps) =
    if joins_span style p then spans_from style (text ++ p.1) ps
    else (style, text) ∷ spans_from p.0 p.1 ps

-- the spans of a line's pieces, none where there are no pieces
abbrev pub spans : List (Style × List ℕ) → List (Style × List ℕ)
spans [] = []
spans (p ∷ ps) = spans_from p.0 p.1 ps

-- what begins a span
unfoldable pub open_tag : IncludeBackground → Style → List ℕ
open_tag bg style = codes "<span style=\"" ++ (css bg style ++ codes "\">")

-- a span as HTML writes it
abbrev pub span_text : IncludeBackground → Style × List ℕ → List ℕ
span_text bg s = open_tag bg s.0 ++ (escaped s.1 ++ codes "</span>")

-- pieces without where they lie
abbrev pub plain_pieces : List (Style × Bor (List ℕ)) → List (Style × List ℕ)
plain_pieces pieces = map (λ p. (p.0, p.1.now)) pieces

-- a line of pieces as HTML writes it
abbrev pub line_text : IncludeBackground → List (Style × Bor (List ℕ)) → List ℕ
line_text bg pieces = flat_map (span_text bg) (spans (plain_pieces pieces))

-- ---- the frame ----

-- the colour behind a theme's text
abbrev pub background_of : Theme → Color
background_of theme =
    unwrap_or theme.settings.background (record { r = 255; g = 255; b = 255; a = 255 })

-- what stands before the lines
abbrev pub opening : Theme → List ℕ
opening theme =
    codes "<pre style=\"background-color:" ++ (rgb_text (background_of theme) ++ codes ";\">\n")

-- and after them
abbrev pub closing : List ℕ
closing = codes "</pre>\n"
