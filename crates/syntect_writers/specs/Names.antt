-- What a text of HTML shows.
use Rattle.std.specs.Prelude.{ℕ, zero, suc, ◌==◌, Bool, not, ◌&&◌, List, [], ◌∷◌, codes, Option, Some, None, if◌then◌else◌}
use Rattle.std.specs.List.{starts_with}
use Rattle.std.specs.Option.{option_map_or}

-- the character whose name goes on so after its `&`, and how many bytes of the name are there
abbrev pub named : List ℕ → Option (ℕ × ℕ)
named rest =
    if starts_with ◌==◌ rest (codes "lt;") then Some (60, 3)
    else if starts_with ◌==◌ rest (codes "gt;") then Some (62, 3)
    else if starts_with ◌==◌ rest (codes "amp;") then Some (38, 4)
    else if starts_with ◌==◌ rest (codes "#39;") then Some (39, 4)
    else if starts_with ◌==◌ rest (codes "quot;") then Some (34, 5)
    else None

-- the text with the five names read, from left to right; so many bytes are passed over first
unfoldable pub shown_behind : ℕ → List ℕ → List ℕ
shown_behind n [] = []
shown_behind (suc n) (b ∷ rest) = shown_behind n rest
shown_behind zero (b ∷ rest) =
    if b == 38 then option_map_or (λ p. p.0 ∷ shown_behind p.1 rest) (named rest)
    (b ∷ shown_behind 0 rest) else b ∷ shown_behind 0 rest

-- what a text of HTML shows
abbrev pub shown_text : List ℕ → List ℕ
shown_text = shown_behind 0

-- the byte is no `<`, `>` or quote of either kind
abbrev pub is_harmless : ℕ → Bool
is_harmless b = not (b == 60) && (not (b == 62) && (not (b == 39) && not (b == 34)))
