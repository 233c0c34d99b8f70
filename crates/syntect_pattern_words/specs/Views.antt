-- What the reader's values stand for.
use Rattle.std.specs.Prelude.{ℕ, Bool, not}
use Rattle.std.specs.Char.{is_digit, is_ascii_digit, is_ascii_alphabetic}
use Rattle.syntect_pattern.specs.Reading.{◌∈◌, is_name_char}
use Rattle.syntect_pattern_words.specs.declared.text.Test.{Test}

-- what the characters of a run have in common
abbrev pub passes : Test → ℕ → Bool
passes Test.Decimal = λ c. is_ascii_digit c
passes Test.Hexadecimal = λ c. is_digit c 16
passes Test.Letter = λ c. is_ascii_alphabetic c
passes Test.Name = λ c. is_name_char c
passes Test.Flag = λ c. c ∈ "imx"
passes Test.NoBrace = λ c. not (c ∈ "}")
