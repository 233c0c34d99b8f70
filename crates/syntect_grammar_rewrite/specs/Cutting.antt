-- A text cut into parts from its front on.
use Rattle.std.specs.Prelude.{ℕ, zero, suc, ◌+◌, ◌-◌, Bool, false, ◌&&◌, ◌||◌, nat_le, nat_lt, ◌==◌, if◌then◌else◌, List, [], ◌∷◌, take, drop, slice_index, codes}
use Rattle.std.specs.List.{prefix_len}
use Prim.Native.String.{String}

-- c is one of the numbers in this list
abbrev pub is_among : ℕ → List ℕ → Bool
is_among c [] = false
is_among c (d ∷ []) = c == d
is_among c (d ∷ e ∷ rest) = c == d || is_among c (e ∷ rest)

-- the byte is one of these characters
infix 60 ◌∈◌
-- c is one of the characters of s
abbrev pub ◌∈◌ : ℕ → String → Bool
c ∈ s = is_among c (codes s)

-- the first byte, and 0 at the end
abbrev pub first : List ℕ → ℕ
first t = slice_index t 0

-- The parts of a text, where the first k bytes belong to a part before them. Of what is left, `len`
-- says how many bytes are its first part, at least one, and `part` says what that part is.
abbrev pub parts_behind : {A : Type 0} → (List ℕ → ℕ) → (List ℕ → A) → ℕ → List ℕ → List A
parts_behind len part k [] = []
parts_behind len part (suc k) (c ∷ t) = parts_behind len part k t
parts_behind len part zero (c ∷ t) = part (c ∷ t) ∷ parts_behind len part (len (c ∷ t) - 1) t

-- the parts of a text, one after another
unfoldable pub parts : {A : Type 0} → (List ℕ → ℕ) → (List ℕ → A) → List ℕ → List A
parts len part t = parts_behind len part 0 t

-- the byte goes on with a character that began before it
abbrev pub goes_on : ℕ → Bool
goes_on c = nat_le 128 c && nat_lt c 192

-- how many bytes the first character has
abbrev pub char_len : List ℕ → ℕ
char_len [] = 0
char_len (c ∷ t) = 1 + prefix_len goes_on t

-- how many bytes the first sign has: a sign is a backslash with its next character,
-- or one character
unfoldable pub sign_len : List ℕ → ℕ
sign_len t = if first t ∈ "\\" then 1 + char_len (drop 1 t) else char_len t

-- the first sign
unfoldable pub sign : List ℕ → List ℕ
sign t = take (sign_len t) t

-- the signs of a text
abbrev pub signs : List ℕ → List (List ℕ)
signs t = parts sign_len sign t
