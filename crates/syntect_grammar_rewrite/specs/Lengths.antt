-- How long a text is, counted no further than a limit.
use Rattle.std.specs.Prelude.{ℕ, nat_le, if◌then◌else◌, List, length, replicate, Option, Some, None}
use Rattle.syntect_grammar_rewrite.specs.Variables.{Variables}
use Rattle.syntect_grammar_rewrite.specs.Marking.{marked}

-- what the use of a variable counts as: 64 bytes, since to look for a name takes longer than to
-- write a character
unfoldable pub use_mark : List ℕ
use_mark = replicate 64 0

-- a text with its variables expanded, and with those bytes more for each use of a variable that is
-- come to for that
abbrev pub with_uses : Variables → List ℕ → List ℕ
with_uses variables t = marked use_mark variables t

-- the length of a text that has at most so many bytes
abbrev pub length_within : ℕ → List ℕ → Option ℕ
length_within most t = if nat_le (length t) most then Some (length t) else None
