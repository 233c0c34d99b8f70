-- The tokens of a pattern's text.
use Rattle.std.specs.Prelude.{ℕ, ◌+◌, ◌-◌, Bool, false, not, ◌&&◌, ◌||◌, ◌==◌, if◌then◌else◌, List, [], ◌∷◌, length, take, drop, slice_index}
use Rattle.syntect_grammar_rewrite.specs.Cutting.{◌∈◌, first, parts, sign_len, sign, signs}

-- a token of a pattern's text: a sign, or a class in brackets
pub data Token : Type 0 where
  -- a backslash with its next character, or one character
  plain : List ℕ → Token
  -- a class, and whether it takes a newline: `\n` is one of its own members, and it isn't negated
  class : Bool → List ℕ → Token

-- how many bytes open a class: `[`, perhaps `^`, perhaps `]`
abbrev pub opening_len : List ℕ → ℕ
opening_len t =
    let n = if slice_index t 1 ∈ "^" then 2 else 1 in
    if slice_index t n ∈ "]" then n + 1 else n

-- the sign closes the class, within which so many others are open
abbrev pub closes : ℕ → List ℕ → Bool
closes depth s = depth == 0 && first s ∈ "]"

-- how many classes within the class are open after a sign
abbrev pub open_after : ℕ → List ℕ → ℕ
open_after depth s = if first s ∈ "[" then depth + 1 else if first s ∈ "]" then depth - 1 else depth

-- how many bytes of the signs belong to the class: those to its closing bracket, or all
abbrev pub rest_len : ℕ → List (List ℕ) → ℕ
rest_len depth [] = 0
rest_len depth (s ∷ ss) =
    length s + (if closes depth s then 0 else rest_len (open_after depth s) ss)

-- the sign is `\n`
abbrev pub is_newline : List ℕ → Bool
is_newline s = first s ∈ "\\" && slice_index s 1 ∈ "n"

-- among the signs of the class `\n` is one of its own
abbrev pub has_newline : ℕ → List (List ℕ) → Bool
has_newline depth [] = false
has_newline depth (s ∷ ss) =
    (depth == 0 && is_newline s) || (not (closes depth s) && has_newline (open_after depth s) ss)

-- how many bytes the class at the front has
unfoldable pub class_len : List ℕ → ℕ
class_len t = opening_len t + rest_len 0 (signs (drop (opening_len t) t))

-- the class at the front takes a newline: no `^` negates it, and `\n` is one of its own members
unfoldable pub takes_newline : List ℕ → Bool
takes_newline t = not (slice_index t 1 ∈ "^") && has_newline 0 (signs (drop (opening_len t) t))

-- how many bytes the first token has
unfoldable pub token_len : List ℕ → ℕ
token_len t = if first t ∈ "[" then class_len t else sign_len t

-- the first token
unfoldable pub token : List ℕ → Token
token t = if first t ∈ "[" then class (takes_newline t) (take (class_len t) t) else plain (sign t)

-- the tokens of a text
abbrev pub tokens : List ℕ → List Token
tokens t = parts token_len token t

-- the text of a token
abbrev pub token_text : Token → List ℕ
token_text (plain s) = s
token_text (class newline s) = s

-- ---- For proofs and private functions alone ----

-- the first token is a class that takes a newline
abbrev pub class_takes_newline : List ℕ → Bool
class_takes_newline t = first t ∈ "[" && takes_newline t
