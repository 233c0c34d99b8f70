-- Styled pieces for LaTeX.
use Rattle.std.specs.Prelude.{ℕ, ◌==◌, Bool, ◌||◌, List, [], ◌∷◌, ◌++◌, codes, chars, decimal, encode_utf8_all, Option, Some, None, if◌then◌else◌}
use Rattle.std.specs.Borrow.{Bor}
use Rattle.std.specs.List.{flat_map}
use Rattle.std.specs.Str.{bytes_eq}
use Rattle.syntect_theme.specs.declared.style.Style.{Style}
use Rattle.syntect_writers.specs.Spans.{same_style}

-- a character that LaTeX would read as its own gets a backslash before it
abbrev pub latex_char : ℕ → List ℕ
latex_char c = if (c == 92) || ((c == 123) || (c == 125)) then 92 ∷ c ∷ [] else c ∷ []

abbrev pub latex_text : List ℕ → List ℕ
latex_text text = encode_utf8_all (flat_map latex_char (chars text))

-- what opens a group in the colour of a style
abbrev pub latex_color : Style → List ℕ
latex_color style =
    codes "\\textcolor[RGB]{"
    ++ (decimal style.foreground.r
    ++ (codes "," ++ (decimal style.foreground.g
    ++ (codes "," ++ (decimal style.foreground.b ++ codes "}{")))))

abbrev pub is_space : List ℕ → Bool
is_space text = bytes_eq text (32 ∷ [])

abbrev pub is_newline : List ℕ → Bool
is_newline text = bytes_eq text (10 ∷ [])

-- a piece after a group of this style: a space stays in the group, a newline is left out, and a
-- piece of another style ends the group and opens its own
abbrev pub latex_piece : Option Style → Style × Bor (List ℕ) → List ℕ
latex_piece None p = latex_color p.0 ++ latex_text p.1.now
latex_piece (Some style) p =
    if is_space p.1.now then 32 ∷ []
    else if is_newline p.1.now then []
    else if same_style p.0 style then latex_text p.1.now
    else 125 ∷ (latex_color p.0 ++ latex_text p.1.now)

-- the style of the group that is open after the piece
abbrev pub latex_style : Option Style → Style × Bor (List ℕ) → Style
latex_style None p = p.0
latex_style (Some style) p =
    if is_space p.1.now then style else if is_newline p.1.now then style else p.0

-- the rest of the pieces after a group, and the end of the last group
abbrev pub latex_behind : Option Style → List (Style × Bor (List ℕ)) → List ℕ
latex_behind last [] = 125 ∷ []
latex_behind last (p ∷ ps) = latex_piece last p ++ latex_behind (Some (latex_style last p)) ps
