-- The lines of a text.
use Rattle.std.specs.Prelude.{◌≡◌, ℕ, ◌==◌, Bool, true, false, not, ◌&&◌, ◌||◌, List, [], ◌∷◌, Option, Some, None, if◌then◌else◌}
use Rattle.std.specs.List.{list_all}
use Rattle.std.specs.Borrow.{Bor}
use Rattle.syntect_writers.specs.declared.lines.LinesWithEndings.{LinesWithEndings}

-- a byte before the first of these lines
abbrev pub before_lines : ℕ → List (List ℕ) → List (List ℕ)
before_lines b [] = (b ∷ []) ∷ []
before_lines b (line ∷ lines) = (b ∷ line) ∷ lines

-- a text's lines, each with the newline that ends it
unfoldable pub lines_of : List ℕ → List (List ℕ)
lines_of [] = []
lines_of (b ∷ rest) = if b == 10 then (10 ∷ []) ∷ lines_of rest else before_lines b (lines_of rest)

-- a line ends with a newline, and has no other one
abbrev pub is_ended : List ℕ → Bool
is_ended [] = false
is_ended (b ∷ []) = b == 10
is_ended (b ∷ (c ∷ rest)) = not (b == 10) && is_ended (c ∷ rest)

-- it has no newline, and is not empty
abbrev pub is_open : List ℕ → Bool
is_open [] = false
is_open (b ∷ rest) = list_all (λ c. not (c == 10)) (b ∷ rest)

-- each line is ended, the last one perhaps open
abbrev pub are_lines : List (List ℕ) → Bool
are_lines [] = true
are_lines (line ∷ []) = is_ended line || is_open line
are_lines (line ∷ (next ∷ lines)) = is_ended line && are_lines (next ∷ lines)

-- the text that is still to be given
abbrev pub text_left : LinesWithEndings → List ℕ
text_left s = s.input.now

-- a call gives the next line and leaves those after it, or nothing at the end
abbrev pub GivesLine : LinesWithEndings → Option (Bor (List ℕ)) → LinesWithEndings → Type 0
GivesLine s None t = (lines_of (text_left s) ≡ []) × (lines_of (text_left t) ≡ [])
GivesLine s (Some line) t = lines_of (text_left s) ≡ line.now ∷ lines_of (text_left t)
