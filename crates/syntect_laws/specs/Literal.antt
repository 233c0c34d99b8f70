-- Texts over lines, as literal scalars.
use Rattle.std.specs.Prelude.{ℕ, Bool, true, false, not, ◌&&◌, ◌||◌, ◌==◌, nat_lt, if◌then◌else◌}
use Rattle.std.specs.Prelude.{List, [], ◌∷◌, ◌++◌, replicate, slice_index, codes}
use Rattle.std.specs.List.{list_all}
use Rattle.syntect_laws.specs.YamlTexts.{is_control}

-- so many spaces
abbrev pub indent : ℕ → List ℕ
indent n = replicate n 32

-- the text can stand over lines: it begins with a visible character and has no control character
-- but line feeds
abbrev pub is_literal : List ℕ → Bool
is_literal s = nat_lt 32 (slice_index s 0) && list_all (λ c. not (is_control c) || c == 10) s

-- the last byte is a line feed
abbrev pub ends_in_feed : List ℕ → Bool
ends_in_feed [] = false
ends_in_feed (c ∷ []) = c == 10
ends_in_feed (c ∷ d ∷ s) = ends_in_feed (d ∷ s)

-- the text ends with one line feed alone, after something else
abbrev pub ends_in_one_feed : List ℕ → Bool
ends_in_one_feed [] = false
ends_in_one_feed (c ∷ []) = false
ends_in_one_feed (c ∷ d ∷ []) = not (c == 10) && d == 10
ends_in_one_feed (c ∷ d ∷ e ∷ s) = ends_in_one_feed (d ∷ e ∷ s)

-- the text with so many spaces before each line that is not empty; the flag says that a line
-- begins here
abbrev pub indented_text : ℕ → Bool → List ℕ → List ℕ
indented_text column begins [] = []
indented_text column begins (c ∷ s) =
    (if begins && not (c == 10) then indent column else [])
    ++ (c ∷ indented_text column (c == 10) s)

-- A bar, a mark that says how the text ends, and its lines: no mark for one line feed at the end,
-- `+` for more of them, and `-` for none; there the last line has one that is not the text's.
abbrev pub literal_text : ℕ → List ℕ → List ℕ
literal_text column s =
    if ends_in_one_feed s then codes "|\n" ++ indented_text column true s
    else if ends_in_feed s then codes "|+\n" ++ indented_text column true s
    else codes "|-\n" ++ (indented_text column true s ++ codes "\n")
