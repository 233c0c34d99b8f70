-- Styled pieces for a screen that has colours of its own behind the text: with the flags of their
-- fonts, and in 24 bit colours or those of a palette of 256.
use Rattle.std.specs.Prelude.{ℕ, ◌+◌, ◌-◌, ◌*◌, ◌/◌, ◌==◌, nat_lt, nat_le, List, [], ◌∷◌, ◌++◌, codes, decimal, if◌then◌else◌, bit_and}
use Rattle.std.specs.List.{flat_map}
use Rattle.std.specs.Borrow.{Bor}
use Rattle.syntect_assets.specs.syntect_theme.Modifying.{bits_of}
use Rattle.syntect_assets.specs.syntect_theme.declared.style.Color.{Color}
use Rattle.syntect_assets.specs.syntect_theme.declared.style.FontStyle.{FontStyle}
use Rattle.syntect_assets.specs.syntect_theme.declared.style.Style.{Style}
use Rattle.syntect_assets.specs.syntect_writers.Terminal.{blended}
use Rattle.syntect_assets.specs.declared.format.Colors.{Colors}
use Rattle.syntect_assets.specs.declared.format.Colors.TheVariants.{Bits24, Palette256}

-- ---- the palette ----

-- Six levels of red, green and blue make the cube of the palette: the level nearest to a part of a
-- colour, and the part of a level.
abbrev pub level : ℕ → ℕ
level part = if nat_lt part 48 then 0 else if nat_lt part 115 then 1 else (part - 35) / 40

abbrev pub part_of : ℕ → ℕ
part_of level = if level == 0 then 0 else 55 + 40 * level

-- the gray of 24, which have the parts 8, 18 and so on up to 238, that is nearest to such a part
abbrev pub gray : ℕ → ℕ
gray part = if nat_lt part 8 then 0 else if nat_lt 238 part then 23 else (part - 3) / 10

-- the square of how far two parts are from each other
abbrev pub square : ℕ → ℕ → ℕ
square a b = if nat_le a b then (b - a) * (b - a) else (a - b) * (a - b)

-- how far a colour is from the one with these parts
abbrev pub distance : Color → ℕ → ℕ → ℕ → ℕ
distance c r g b = square c.r r + square c.g g + square c.b b

-- the gray nearest to the mean of a colour's parts
abbrev pub gray_of : Color → ℕ
gray_of c = gray ((c.r + c.g + c.b) / 3)

-- the colour's number in the palette: that gray where it is nearer than the colour of the cube
abbrev pub number_of : Color → ℕ
number_of c =
    if nat_lt
    (distance c (8 + 10 * gray_of c) (8 + 10 * gray_of c) (8 + 10 * gray_of c))
    (distance c (part_of (level c.r)) (part_of (level c.g)) (part_of (level c.b)))
    then 232 + gray_of c
    else 16 + 36 * level c.r + 6 * level c.g + level c.b

-- ---- pieces ----

-- the parameter of a flag, where the font has it
abbrev pub flag : FontStyle → ℕ → List ℕ → List ℕ
flag font bit parameter = if bit_and (bits_of font) bit == bit then parameter else []

-- bold, italic and underlined
abbrev pub flags : FontStyle → List ℕ
flags font = flag font 1 (codes ";1") ++ (flag font 4 (codes ";3") ++ flag font 2 (codes ";4"))

-- the parameters of a colour
abbrev pub colour : Colors → Color → List ℕ
colour Bits24 c =
    codes ";38;2;" ++ (decimal c.r ++ (codes ";" ++ (decimal c.g ++ (codes ";" ++ decimal c.b))))
colour Palette256 c = codes ";38;5;" ++ decimal (number_of c)

-- a piece: all attributes are put back, then come the font's and the colour
abbrev pub screen_piece : Colors → Style × Bor (List ℕ) → List ℕ
screen_piece colors p =
    27 ∷ (codes "[0" ++ (flags p.0.font_style
    ++ (colour colors (blended p.0.foreground p.0.background) ++ (codes "m" ++ p.1.now))))

abbrev pub screen_text : Colors → List (Style × Bor (List ℕ)) → List ℕ
screen_text colors pieces = flat_map (screen_piece colors) pieces
