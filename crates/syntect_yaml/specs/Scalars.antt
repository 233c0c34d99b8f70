-- Scalars on one line: plain ones and quoted ones.
use Rattle.std.specs.Prelude.{ℕ, zero, suc, ◌^◌, Bool, true, false, not, ◌&&◌, ◌||◌, ◌==◌, nat_lt, nat_le, if◌then◌else◌, ℤ, pos, neg_ℤ, List, [], ◌∷◌, ◌++◌, length, take, drop, slice_index, codes, encode_utf8, Option, Some, None, option_map}
use Rattle.std.specs.Char.{is_ascii_digit, is_digit}
use Rattle.std.specs.List.{prefix_len, list_all}
use Rattle.std.specs.Str.{bytes_eq}
use Rattle.std.specs.Str.Parse.{digits_value}
use Rattle.syntect_yaml.specs.Lines.{Rest, Read, ◌>>=◌, ◌∈◌, line_feed, space, first, is_white, split_run, ends_line}
use Rattle.syntect_yaml.specs.declared.value.Scalar.{Scalar}
use Rattle.syntect_yaml.specs.declared.value.Scalar.TheVariants.{Text, Number, Truth, Null}

-- ---- plain scalars

-- something stands here that is no white space
abbrev pub is_visible : Rest → Bool
is_visible t = not (ends_line t || is_white (first t))

-- the marks of flow maps and lists
abbrev pub is_flow_mark : ℕ → Bool
is_flow_mark c = c ∈ ",[]{}"

-- characters that mean something else where a scalar could begin
abbrev pub is_sign : ℕ → Bool
is_sign c = c ∈ "[]{},#&*!|>'\"%@`"

-- a plain scalar may begin here: `-`, `?` and `:` begin one before a visible character alone
unfoldable pub begins_plain : Rest → Bool
begins_plain t =
    (is_visible t && not (is_sign (first t))) && (not (first t ∈ "-?:") || is_visible (drop 1 t))

-- a `:` before this ends a key; the flag says that a flow map or list is open
abbrev pub ends_key : Bool → Rest → Bool
ends_key flow t = (ends_line t || first t == space) || (flow && is_flow_mark (first t))

-- A plain scalar ends before this: at the line's end, before a comment, in flow before a mark, and
-- before a `:` that ends a key. The second flag says that a space stands before.
unfoldable pub ends_plain : Bool → Bool → Rest → Bool
ends_plain flow spaced t =
    ends_line t || ((spaced && first t ∈ "#")
    || ((flow && is_flow_mark (first t)) || (first t ∈ ":" && ends_key flow (drop 1 t))))

-- how long the plain scalar is: white space belongs to it where more of it follows
unfoldable pub plain_len : Bool → Bool → Rest → ℕ
plain_len flow spaced [] = 0
plain_len flow spaced (c ∷ t) =
    if ends_plain flow spaced (c ∷ t) || (is_white c && plain_len flow (c == space) t == 0) then 0
    else suc (plain_len flow (c == space) t)

-- ---- kinds of plain scalars

-- the text is of digits alone, and not empty
abbrev pub is_whole : List ℕ → Bool
is_whole s = nat_lt 0 (length s) && list_all is_ascii_digit s

-- the text without a sign in front, if it has one
abbrev pub unsigned : List ℕ → List ℕ
unsigned s = if first s ∈ "+-" then drop 1 s else s

-- a number of these digits that fits 64 bits with a sign
abbrev pub fitting : Bool → ℕ → Option ℤ
fitting negative n =
    if negative then (if nat_le n (2 ^ 63) then Some (neg_ℤ (pos n)) else None)
    else if nat_lt n (2 ^ 63) then Some (pos n)
    else None

-- the number that a text writes: digits, perhaps with a sign
unfoldable pub number_of : List ℕ → Option ℤ
number_of s =
    if is_whole (unsigned s) then fitting (first s ∈ "-") (digits_value 10 (unsigned s)) else None

-- the number, if there is one, and else the text
abbrev pub number_or_text : List ℕ → Option ℤ → Scalar
number_or_text s (Some z) = Number z
number_or_text s None = Text s

-- what a plain scalar of this text is
unfoldable pub kind : List ℕ → Scalar
kind s =
    if bytes_eq s (codes "true") then Truth true
    else if bytes_eq s (codes "false") then Truth false
    else if bytes_eq s (codes "null") || bytes_eq s (codes "~") then Null
    else number_or_text s (number_of s)

-- a plain scalar and what follows it
unfoldable pub plain : Bool → Rest → Read Scalar
plain flow t =
    let n = plain_len flow false t in
    if begins_plain t && nat_lt 0 n then Some (kind (take n t), drop n t) else None

-- ---- quoted scalars

-- these bytes before what is read
abbrev pub prepend : List ℕ → Read (List ℕ) → Read (List ℕ)
prepend front r = option_map (λ p. (front ++ p.0, p.1)) r

-- what stands for itself in single quotes, and in double ones
abbrev pub is_single : ℕ → Bool
is_single c = not (c == line_feed) && not (c ∈ "'")

-- what stands for itself in double quotes
abbrev pub is_double : ℕ → Bool
is_double c = not (c == line_feed) && not (c ∈ "\"\\")

-- The text from inside single quotes on, in fewer than n pieces. Two quotes stand for one.
unfoldable pub single : ℕ → Rest → Read (List ℕ)
single zero t = None
single (suc n) t =
    let (front, u) = split_run is_single t in
    if not (first u ∈ "'") then None
    else if slice_index u 1 ∈ "'" then prepend (front ++ codes "'") (single n (drop 2 u))
    else Some (front, drop 1 u)

-- the character that one after a backslash stands for
abbrev pub escaped : ℕ → Option ℕ
escaped c =
    if c ∈ "\\\"/ " then Some c
    else if c ∈ "n" then Some 0x0A
    else if c ∈ "t" then Some 0x09
    else if c ∈ "r" then Some 0x0D
    else if c ∈ "0" then Some 0x00
    else if c ∈ "a" then Some 0x07
    else if c ∈ "b" then Some 0x08
    else if c ∈ "e" then Some 0x1B
    else if c ∈ "f" then Some 0x0C
    else if c ∈ "v" then Some 0x0B
    else None

-- how many digits follow `\x`, `\u` and `\U`
abbrev pub digit_count : ℕ → ℕ
digit_count c = if c ∈ "x" then 2 else if c ∈ "u" then 4 else if c ∈ "U" then 8 else 0

-- the character is a hexadecimal digit
abbrev pub is_hex : ℕ → Bool
is_hex c = is_digit c 16

-- the number is that of a character
abbrev pub is_scalar : ℕ → Bool
is_scalar c = nat_lt c 0xD800 || (nat_le 0xE000 c && nat_le c 0x10_FFFF)

-- the character of a number of n hexadecimal digits
unfoldable pub hex_character : ℕ → Rest → Read ℕ
hex_character n t =
    let c = digits_value 16 (take n t) in
    if nat_le n (prefix_len is_hex t) && is_scalar c then Some (c, drop n t) else None

-- the character that comes after a backslash
unfoldable pub escape : Rest → Read ℕ
escape t =
    if nat_lt 0 (digit_count (first t)) then hex_character (digit_count (first t)) (drop 1 t)
    else option_map (λ c. (c, drop 1 t)) (escaped (first t))

-- the text from inside double quotes on, in fewer than n pieces
unfoldable pub double : ℕ → Rest → Read (List ℕ)
double zero t = None
double (suc n) t =
    let (front, u) = split_run is_double t in
    if first u ∈ "\"" then Some (front, drop 1 u)
    else if first u ∈ "\\" then
    escape (drop 1 u) >>= (λ e. prepend (front ++ encode_utf8 e.0) (double n e.1))
    else None

-- ---- both

-- a scalar on one line, and what follows it
unfoldable pub scalar : Bool → Rest → Read Scalar
scalar flow t =
    if first t ∈ "'" then option_map (λ p. (Text p.0, p.1)) (single (length t) (drop 1 t))
    else if first t ∈ "\"" then option_map (λ p. (Text p.0, p.1)) (double (length t) (drop 1 t))
    else plain flow t

-- what follows the `:` after a key, where one stands
unfoldable pub after_colon : Bool → Rest → Option Rest
after_colon flow t =
    let u = drop (prefix_len is_white t) t in
    if first u ∈ ":" && ends_key flow (drop 1 u) then Some (drop 1 u) else None

-- a key and its `:`
unfoldable pub key : Bool → Rest → Read Scalar
key flow t = scalar flow t >>= (λ s. option_map (λ u. (s.0, u)) (after_colon flow s.1))
