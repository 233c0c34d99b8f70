-- Texts of HTML.
use Rattle.std.specs.Prelude.{ℕ, ◌==◌, List, [], ◌∷◌, codes, if◌then◌else◌}
use Rattle.std.specs.List.{flat_map}

-- a byte as HTML writes it: five that have a meaning there by their names, every other one as it is
unfoldable pub entity : ℕ → List ℕ
entity b =
    if b == 60 then codes "&lt;"
    else if b == 62 then codes "&gt;"
    else if b == 38 then codes "&amp;"
    else if b == 39 then codes "&#39;"
    else if b == 34 then codes "&quot;"
    else b ∷ []

-- a text as HTML writes it
abbrev pub escaped : List ℕ → List ℕ
escaped text = flat_map entity text
