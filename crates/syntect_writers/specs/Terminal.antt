-- Styled pieces for a terminal of 24 bit colours.
use Rattle.std.specs.Prelude.{ℕ, ◌+◌, ◌-◌, ◌*◌, ◌/◌, ◌==◌, Bool, List, [], ◌∷◌, ◌++◌, codes, decimal, if◌then◌else◌}
use Rattle.std.specs.List.{flat_map}
use Rattle.std.specs.Borrow.{Bor}
use Rattle.syntect_theme.specs.declared.style.Color.{Color}
use Rattle.syntect_theme.specs.declared.style.Style.{Style}

-- a part of a colour over that of another, as opaque as this number says
abbrev pub blended_part : ℕ → ℕ → ℕ → ℕ
blended_part a over under = (over * a + under * (255 - a)) / 255

-- a colour over another
abbrev pub blended : Color → Color → Color
blended over under =
    if over.a == 255 then over
    else record {
      r = blended_part over.a over.r under.r;
      g = blended_part over.a over.g under.g;
      b = blended_part over.a over.b under.b;
      a = 255;
    }

-- the escape sequence of a colour; the number is 38 for the colour of the text and 48 for the one
-- behind it
abbrev pub sequence : List ℕ → Color → List ℕ
sequence number c =
    27 ∷ (codes "[" ++ (number ++ (codes ";2;"
    ++ (decimal c.r ++ (codes ";" ++ (decimal c.g
    ++ (codes ";" ++ (decimal c.b ++ codes "m"))))))))

-- a piece
abbrev pub piece_text : Bool → Style × Bor (List ℕ) → List ℕ
piece_text bg p =
    (if bg then sequence (codes "48") p.0.background else [])
    ++ (sequence (codes "38") (blended p.0.foreground p.0.background) ++ p.1.now)

abbrev pub terminal_text : Bool → List (Style × Bor (List ℕ)) → List ℕ
terminal_text bg pieces = flat_map (piece_text bg) pieces
