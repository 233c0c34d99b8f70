-- The words of a text.
use Rattle.std.specs.Prelude.{ℕ, nat_lt, List, length, map, filter, encode_utf8_all}
use Rattle.std.specs.List.{slice_split}
use Rattle.std.specs.Char.{is_whitespace}
use Rattle.std.specs.Str.{chars}

-- the words of a list of characters: what stands between white space, where that is something
abbrev pub char_words : List ℕ → List (List ℕ)
char_words cs = filter (λ w. nat_lt 0 (length w)) (slice_split is_whitespace cs)

-- the words of a text
abbrev pub words : List ℕ → List (List ℕ)
words text = map encode_utf8_all (char_words (chars text))
