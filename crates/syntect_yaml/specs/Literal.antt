-- Literal scalars: lines that stand as they are.
use Rattle.std.specs.Prelude.{ℕ, zero, suc, ◌-◌, Bool, false, not, ◌&&◌, ◌||◌, ◌==◌, nat_le, min, if◌then◌else◌, List, [], ◌∷◌, ◌++◌, length, take, drop, slice_index, Option, Some, None, option_map}
use Rattle.std.specs.List.{prefix_len}
use Rattle.syntect_yaml.specs.Lines.{Rest, Read, ◌>>=◌, ◌∈◌, line_feed, carriage_return, is_space, is_in_line, ends_line, after_line, line_tail, is_marker}
use Rattle.syntect_yaml.specs.Scalars.{prepend}

-- the column of the first line that isn't blank, among fewer than n lines, if there is one
unfoldable pub text_column : ℕ → Rest → Option ℕ
text_column zero t = None
text_column (suc n) [] = None
text_column (suc n) (c ∷ t) =
    let k = prefix_len is_space (c ∷ t) in
    if ends_line (drop k (c ∷ t)) then text_column n (after_line (c ∷ t)) else Some k

-- A line belongs to the text from this column on where it reaches the column, or is blank. A marker
-- in the first column belongs to no text.
unfoldable pub belongs : ℕ → Rest → Bool
belongs column t =
    let k = prefix_len is_space t in
    ends_line (drop k t) || (nat_le column k && not (column == 0 && is_marker t))

-- how long the line is, without its line feed and a carriage return before that
unfoldable pub line_len : Rest → ℕ
line_len t =
    let n = prefix_len is_in_line t in
    if slice_index t n == line_feed && slice_index t (n - 1) == carriage_return then n - 1 else n

-- the line feed that the line has, unless it ends with the text
abbrev pub feed : Rest → List ℕ
feed t = if slice_index t (prefix_len is_in_line t) == line_feed then line_feed ∷ [] else []

-- a line without its indentation, with its line feed
unfoldable pub line_text : ℕ → Rest → List ℕ
line_text column t =
    let u = drop (min (prefix_len is_space t) column) t in
    take (line_len u) u ++ feed u

-- the lines of the text, and what follows them
unfoldable pub lines : ℕ → ℕ → Rest → Read (List ℕ)
lines column zero t = None
lines column (suc n) [] = Some ([], [])
lines column (suc n) (c ∷ t) =
    if belongs column (c ∷ t)
    then prepend (line_text column (c ∷ t)) (lines column n (after_line (c ∷ t)))
    else Some ([], c ∷ t)

-- the character before the text, but for a line feed that nothing follows
abbrev pub onto : ℕ → List ℕ → List ℕ
onto c [] = if c == line_feed then [] else c ∷ []
onto c (d ∷ text) = c ∷ d ∷ text

-- the text without line feeds at its end
abbrev pub stripped : List ℕ → List ℕ
stripped [] = []
stripped (c ∷ text) = onto c (stripped text)

-- one line feed at the end, if there is any text
abbrev pub closed : List ℕ → List ℕ
closed [] = []
closed (c ∷ text) = (c ∷ text) ++ line_feed ∷ []

-- the text with the end that the header asks for: with `+` as it is, with `-` without a line feed,
-- else with one
abbrev pub chomped : ℕ → List ℕ → List ℕ
chomped mark text =
    if mark ∈ "+" then text else if mark ∈ "-" then stripped text else closed (stripped text)

-- the text from the column on, where it reaches the least one, else no text; and what follows
abbrev pub text_from : ℕ → ℕ → Rest → Option ℕ → Read (List ℕ)
text_from mark least t None = Some ([], t)
text_from mark least t (Some column) =
    if nat_le least column
    then option_map (λ p. (chomped mark p.0, p.1)) (lines column (suc (length t)) t)
    else Some ([], t)

-- the text from the line below the header on, whose lines reach the least column; none of them is
-- no text
abbrev pub text : ℕ → ℕ → Rest → Read (List ℕ)
text mark least t = text_from mark least t (text_column (suc (length t)) t)

-- a literal scalar from its `|` on, and what follows its lines
unfoldable pub literal : ℕ → Rest → Read (List ℕ)
literal least t =
    let mark = slice_index t 1 in
    line_tail false (drop (if mark ∈ "+-" then 2 else 1) t) >>= text mark least
