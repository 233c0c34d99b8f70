-- What the comment of a style sheet tells of a name.
use Rattle.std.specs.Prelude.{ℕ, ◌==◌, nat_lt, nat_le, Bool, true, false, not, ◌&&◌, ◌||◌, List, [], ◌∷◌, chars, encode_utf8_all, if◌then◌else◌}

-- a character that isn't told: `<`, which could end the element that holds the sheet,
-- or a control character
abbrev pub is_left_out : ℕ → Bool
is_left_out c = (c == 60) || (nat_lt c 32 || (nat_le 127 c && nat_lt c 160))

-- a star before this text would end the comment
abbrev pub ends_comment : ℕ → List ℕ → Bool
ends_comment c [] = false
ends_comment c (d ∷ ds) = (c == 42) && (d == 47)

-- a character before what is kept: where the two would end the comment, neither is kept
abbrev pub told_before : ℕ → List ℕ → List ℕ
told_before c [] = c ∷ []
told_before c (d ∷ ds) = if (c == 42) && (d == 47) then ds else c ∷ (d ∷ ds)

-- the characters that are kept
abbrev pub told_chars : List ℕ → List ℕ
told_chars [] = []
told_chars (c ∷ cs) = if is_left_out c then told_chars cs else told_before c (told_chars cs)

-- a name as the comment tells it: without `<`, control characters and what would end the comment
abbrev pub told_name : List ℕ → List ℕ
told_name name = encode_utf8_all (told_chars (chars name))

-- a text of which all can be kept: nothing in it is left out, and no star stands before a slash
abbrev pub can_be_told : List ℕ → Bool
can_be_told [] = true
can_be_told (c ∷ cs) = not (is_left_out c) && (not (ends_comment c cs) && can_be_told cs)

-- what stands after the first end of a comment
abbrev pub after_comment : List ℕ → List ℕ
after_comment [] = []
after_comment (a ∷ []) = []
after_comment (a ∷ (b ∷ bs)) = if (a == 42) && (b == 47) then bs else after_comment (b ∷ bs)

-- the byte is no `<`, without which a sheet can't end the element that holds it
abbrev pub stays_inside : ℕ → Bool
stays_inside b = not (b == 60)

-- ---- For proofs and private functions alone ----

-- the last character is a star
abbrev pub ends_with_star : List ℕ → Bool
ends_with_star [] = false
ends_with_star (c ∷ []) = c == 42
ends_with_star (c ∷ (d ∷ ds)) = ends_with_star (d ∷ ds)
