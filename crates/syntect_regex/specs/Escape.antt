-- Texts as patterns.
use Rattle.std.specs.Prelude.{ℕ, Bool, List, [], ◌∷◌, chars, encode_utf8_all, if◌then◌else◌}
use Rattle.std.specs.List.{flat_map}
use Rattle.syntect_regex.specs.syntect_pattern.Reading.{◌∈◌}

-- the character can have a meaning of its own
unfoldable pub is_special : ℕ → Bool
is_special c = c ∈ "\\.+*?()|[]{}^$#&-~"

-- after a backslash, if it can
abbrev pub escaped_char : ℕ → List ℕ
escaped_char c = if is_special c then 0x5C ∷ c ∷ [] else c ∷ []

-- `escape`: the text with each character escaped that can have a meaning of its own
abbrev pub escaped : List ℕ → List ℕ
escaped text = encode_utf8_all (flat_map escaped_char (chars text))
