-- Lines: where one ends, what is passed over, and where the next visible character stands.
use Rattle.std.specs.Prelude.{ℕ, zero, suc, ◌-◌, Bool, true, false, not, ◌&&◌, ◌||◌, ◌==◌, if◌then◌else◌, List, [], ◌∷◌, length, take, drop, slice_index, codes, Option, Some, None, is_some, option_and_then}
use Rattle.std.specs.List.{prefix_len}
use Prim.Native.String.{String}

-- what is still to read of a text, from a place in a line on
abbrev pub Rest : Type 0
Rest = List ℕ

-- a value and what follows it
abbrev pub Read : Type 0 → Type 0
Read A = Option (A × Rest)

-- one step after another, where each may find that the text has no value
infixl 10 ◌>>=◌
-- what f makes of the value of o, or None where there is none
abbrev pub ◌>>=◌ : {A B : Type 0} → Option A → (A → Option B) → Option B
o >>= f = option_and_then f o

-- c is one of the numbers in this list
abbrev pub is_among : ℕ → List ℕ → Bool
is_among c [] = false
is_among c (d ∷ []) = c == d
is_among c (d ∷ e ∷ rest) = c == d || is_among c (e ∷ rest)

-- the character is one of these
infix 60 ◌∈◌
-- c is one of the characters of s
abbrev pub ◌∈◌ : ℕ → String → Bool
c ∈ s = is_among c (codes s)

-- the tab, U+0009
abbrev pub tab : ℕ
tab = 9

-- the line feed, U+000A, which ends a line
abbrev pub line_feed : ℕ
line_feed = 10

-- the carriage return, U+000D, which may stand before a line feed
abbrev pub carriage_return : ℕ
carriage_return = 13

-- the space, U+0020
abbrev pub space : ℕ
space = 32

-- the next character, of which a byte from 128 on is a part
abbrev pub first : Rest → ℕ
first t = slice_index t 0

-- the character is a space
abbrev pub is_space : ℕ → Bool
is_space c = c == space

-- the character is white space: a space or a tab
abbrev pub is_white : ℕ → Bool
is_white c = c == space || c == tab

-- the character is no line feed
abbrev pub is_in_line : ℕ → Bool
is_in_line c = not (c == line_feed)

-- the characters at the front that pass the test, and what follows them
abbrev pub split_run : (ℕ → Bool) → Rest → List ℕ × Rest
split_run test t = (take (prefix_len test t) t, drop (prefix_len test t) t)

-- what follows the characters at the front that pass the test
abbrev pub after_run : (ℕ → Bool) → Rest → Rest
after_run test t = drop (prefix_len test t) t

-- the line is over: at a line feed, which a carriage return may come before, or at the text's end
abbrev pub ends_line : Rest → Bool
ends_line t =
    (length t == 0 || first t == line_feed)
    || (first t == carriage_return && slice_index t 1 == line_feed)

-- the next line
abbrev pub after_line : Rest → Rest
after_line t = drop 1 (after_run is_in_line t)

-- A comment begins after n characters of white space, of which the last is a space. The flag says
-- that it may begin with the first visible character.
abbrev pub opens_comment : Bool → ℕ → Rest → Bool
opens_comment at_once n t = slice_index t n ∈ "#" && (at_once || slice_index t (n - 1) == space)

-- the next line, where nothing is left on this one but white space and a comment
unfoldable pub line_tail : Bool → Rest → Option Rest
line_tail at_once t =
    let n = prefix_len is_white t in
    if ends_line (drop n t) || opens_comment at_once n t then Some (after_line (drop n t)) else None

-- a place in a line: how many characters stand before it, and what is still to read
pub record Cursor : Type 0 where
  pub column : ℕ
  pub rest : Rest

-- the first character of a line that is no space; a tab is no indentation
unfoldable pub indented : Rest → Option Cursor
indented t =
    let n = prefix_len is_space t in
    if slice_index t n == tab then None else Some (record { column = n; rest = drop n t })

-- what `more` finds from the next line on, where this one is passed over, else its place
abbrev pub seek_on : (Rest → Option Cursor) → Rest → Option Rest → Option Cursor
seek_on more t (Some after) = more after
seek_on more t None = indented t

-- The first visible character from a line's start on, in one of fewer than n lines. Blank lines are
-- passed over, and lines whose first visible character begins a comment. At the text's end nothing
-- is left to read.
unfoldable pub seek : ℕ → Rest → Option Cursor
seek zero t = None
seek (suc n) [] = Some (record { column = 0; rest = [] })
seek (suc n) (c ∷ t) = seek_on (seek n) (c ∷ t) (line_tail true (c ∷ t))

-- the text goes on with three of the character
abbrev pub is_thrice : ℕ → Rest → Bool
is_thrice c t = (first t == c && slice_index t 1 == c) && slice_index t 2 == c

-- a line of three of the character
abbrev pub is_line_of : ℕ → Rest → Bool
is_line_of c t = is_thrice c t && is_some (line_tail false (drop 3 t))

-- a line that ends a document or begins one
unfoldable pub is_marker : Rest → Bool
is_marker t = is_line_of 45 t || is_line_of 46 t

-- such a line is refused
unfoldable pub unmarked : Cursor → Option Cursor
unmarked p = if p.column == 0 && is_marker p.rest then None else Some p

-- the first visible character from a line's start on
unfoldable pub next : Rest → Option Cursor
next t = seek (suc (length t)) t >>= unmarked

-- the first visible character after something that ends on this line
unfoldable pub next_line : Rest → Option Cursor
next_line t = line_tail false t >>= next
