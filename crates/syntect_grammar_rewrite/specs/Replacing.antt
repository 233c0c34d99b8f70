-- Words of a text, each replaced by another.
use Rattle.std.specs.Prelude.{ℕ, if◌then◌else◌, List, [], ◌∷◌, length, take, flat_map, ◌==◌, codes}
use Rattle.std.specs.List.{starts_with}
use Rattle.syntect_grammar_rewrite.specs.Cutting.{parts, char_len}

-- words, each with what replaces it
abbrev pub Words : Type 0
Words = List (List ℕ × List ℕ)

-- how long the word at the front is, or else the first character
abbrev pub word_len : Words → List ℕ → ℕ
word_len [] t = char_len t
word_len (w ∷ ws) t = if starts_with ◌==◌ t w.0 then length w.0 else word_len ws t

-- what replaces the word at the front, or else the first character
abbrev pub replacement : Words → List ℕ → List ℕ
replacement [] t = take (char_len t) t
replacement (w ∷ ws) t = if starts_with ◌==◌ t w.0 then w.1 else replacement ws t

-- the text with each of the words replaced
unfoldable pub with_replacements : Words → List ℕ → List ℕ
with_replacements words t = flat_map (λ written. written) (parts (word_len words) (replacement words) t)

-- a bracket's name by the categories that it stands for
abbrev pub brackets : Words
brackets =
    (codes "[:alpha:]", codes "\\p{L}") ∷ (codes "[:alnum:]", codes "\\p{L}\\p{N}")
    ∷ (codes "[:lower:]", codes "\\p{Ll}")
    ∷ (codes "[:upper:]", codes "\\p{Lu}") ∷ (codes "[:digit:]", codes "\\p{Nd}") ∷ []
