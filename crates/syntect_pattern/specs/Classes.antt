-- Classes in brackets.
use Rattle.std.specs.Prelude.{ℕ, zero, suc, ◌+◌, Bool, true, false, not, ◌||◌, nat_le, nat_lt, List, [], ◌∷◌, length, drop, Option, Some, None, if◌then◌else◌, is_some}
use Rattle.std.specs.Char.{is_ascii_alphabetic}
use Rattle.ucd_category.specs.declared.GeneralCategory.TheVariants.{UppercaseLetter, LowercaseLetter, Control}
use Rattle.ucd_category.specs.declared.GeneralCategoryGroup.TheVariants.{Letter, Number, Punctuation}
use Rattle.syntect_pattern.specs.Sets.{Set, none, range, category, categories, word, space, either, both, digit, hex_digit, from_to, negate_if}
use Rattle.syntect_pattern.specs.Reading.{Text, ◌>>=◌, ◌>>◌, ◌∈◌, first, begins, is_empty, run}
use Rattle.syntect_pattern.specs.Escapes.{Escape, char, set, named_set, escape}
use Prim.Native.String.{String}

-- groups and classes nest at most this deep
abbrev pub deepest : ℕ
deepest = 200

-- the POSIX brackets by their names
abbrev pub posix_names : List (String × Set)
posix_names =
    ("alpha", categories Letter) ∷ ("alnum", either (categories Letter) (categories Number))
    ∷ ("lower", category LowercaseLetter) ∷ ("upper", category UppercaseLetter)
    ∷ ("digit", digit) ∷ ("space", space) ∷ ("word", word) ∷ ("xdigit", hex_digit)
    ∷ ("blank", either (range 0x20 0x20) (range 0x09 0x09)) ∷ ("cntrl", category Control)
    ∷ ("punct", categories Punctuation) ∷ ("ascii", range 0x00 0x7F) ∷ []

-- the name and what follows, where the text is of the form `[:name:]`, or `[:^name:]` with the flag
unfoldable pub posix_form : Text → Option (Bool × Text × Text)
posix_form t = do
  begins "[:" t
  let caret = begins "[:^" t
  let (inside, after) = run is_ascii_alphabetic (drop (if caret then 3 else 2) t)
  not (is_empty inside)
  begins ":]" after
  Some (caret, inside, drop 2 after)

-- what stands in a class, other than a nested one
pub data Member : Type 0 where
  one : ℕ → Member
  many : Set → Member

-- `\b` is U+0008 in a class; other anchors and back references are no pattern there
abbrev pub member_of : Escape → Option Member
member_of (char c) = Some (one c)
member_of (set a) = Some (many a)
member_of _ = None

-- a member of a class from just after its backslash on, where `\b` is U+0008, and what follows it
unfoldable pub class_escape : Text → Option (Member × Text)
class_escape t = if begins "b" t then Some (one 0x08, drop 1 t) else (do
  (e, rest) ← escape t
  m ← member_of e
  Some (m, rest))

-- a character or an escape
unfoldable pub member : Text → Option (Member × Text)
member t = do
  c ← first t
  if c ∈ "\\" then class_escape (drop 1 t) else Some (one c, drop 1 t)

-- the text ends a side of `&&`
abbrev pub ends_side : Text → Bool
ends_side t = begins "]" t || begins "&&" t

-- a single character with what follows it, if the member is one
abbrev pub one_only : Member × Text → Option (ℕ × Text)
one_only (one c, rest) = Some (c, rest)
one_only (many a, rest) = None

-- The character after the `-` at the front, which makes a range of it, and what follows. There is
-- none where the `-` is last, or stands before a nested class, a POSIX bracket or an escape that is
-- no character.
unfoldable pub range_end : Text → Option (ℕ × Text)
range_end t = do
  begins "-" t
  let after = drop 1 t
  not (ends_side after || begins "[" after)
  found ← member after
  one_only found

-- a class that is being read: the sides of `&&` before this one, and what this one has so far
pub record Class : Type 0 where
  pub sides : Option Set
  pub side : Set

-- the class with this set added to the side that is being read
abbrev pub with_set : Class → Set → Class
with_set c a = record c { side = either c.side a }

-- what the sides have in common
abbrev pub common : Option Set → Set → Set
common None a = a
common (Some b) a = both b a

-- what stands in the class all in all
abbrev pub all_of : Class → Set
all_of c = common c.sides c.side

-- `&&` ends a side, and an empty side is empty
abbrev pub next_side : Class → Class
next_side c = record { sides = Some (all_of c); side = none }

-- How a class starts, after its `[`: whether `^` follows, whether a `]` comes first, and the rest.
pub record Start : Type 0 where
  pub caret : Bool
  -- the first `]` is still to be read, as itself
  pub bracket : Bool
  pub rest : Text

-- how a class starts, from just after its `[` on: perhaps `^`, and then perhaps a first `]`
unfoldable pub start_of : Text → Start
start_of t =
    let after = if begins "^" t then drop 1 t else t in
    record { caret = begins "^" t; bracket = begins "]" after; rest = after }

-- a class of which nothing has been read yet
abbrev pub empty_class : Class
empty_class = record { sides = None; side = none }

-- what stands next in a class
pub data Next : Type 0 where
  closing intersecting nested posix plain : Next

-- what stands next in a class: its end, `&&`, a POSIX bracket, a nested class, or anything else
unfoldable pub next_in : Text → Next
next_in t =
    if begins "]" t then closing
    else if begins "&&" t then intersecting
    else if is_some (posix_form t) then posix
    else if begins "[" t then nested
    else plain

-- what one step of reading makes: the class is over, with what follows it, or goes on
pub data Step : Type 0 where
  over : Text → Step
  on : Class → Text → Step

-- `fold` is the flag i
module _ (fold : Bool) where
  -- a character, or a range where an end follows; the end may not lie below the start
  abbrev pub up_to : ℕ → Text → Option (ℕ × Text) → Option (Set × Text)
  up_to low rest None = Some (from_to fold low low, rest)
  up_to low rest (Some (high, after)) = nat_le low high >> Some (from_to fold low high, after)

  -- the set of a member, or of the range that it begins, and what follows
  abbrev pub ranged : Member × Text → Option (Set × Text)
  ranged (many a, rest) = Some (a, rest)
  ranged (one c, rest) = up_to c rest (range_end rest)

  -- a range, a character or an escape
  unfoldable pub plain_item : Text → Option (Set × Text)
  plain_item t = member t >>= ranged

  -- a POSIX bracket; only the known names are read
  unfoldable pub posix_item : Text → Option (Set × Text)
  posix_item t = do
    (caret, inside, rest) ← posix_form t
    found ← named_set posix_names inside
    Some (negate_if caret found, rest)

  -- a step that adds the set found to the class, and goes on with what follows it
  abbrev pub adds : Class → Option (Set × Text) → Option Step
  adds c found = found >>= λ (a, rest). Some (on (with_set c a) rest)

  -- `inner` reads a nested class, from just after its bracket on
  abbrev pub step : (Text → Option (Set × Text)) → Class → Text → Next → Option Step
  step inner c t closing = Some (over (drop 1 t))
  step inner c t intersecting = Some (on (next_side c) (drop 2 t))
  step inner c t nested = adds c (inner (drop 1 t))
  step inner c t posix = adds c (posix_item t)
  step inner c t plain = adds c (plain_item t)

  -- after a step: the class, where it is over, and else what `more` reads from there
  abbrev pub after_step : (Class → Text → Option (Set × Text)) → Class → Step → Option (Set × Text)
  after_step more c (over rest) = Some (all_of c, rest)
  after_step more c (on c' rest) = more c' rest

  -- a first `]` is a character
  abbrev pub first_item : Bool → Text → Option Step
  first_item true t = adds empty_class (plain_item t)
  first_item false t = Some (on empty_class t)

  -- the set found, negated where the class begins with `^`, and what follows it
  abbrev pub negates : Bool → Option (Set × Text) → Option (Set × Text)
  negates caret found = found >>= λ (a, rest). Some (negate_if caret a, rest)

  -- a class that stands in `depth` groups and classes, from just after its bracket on; `more` reads
  -- the rest of one
  abbrev pub opened : (ℕ → Class → Text → Option (Set × Text)) → ℕ → Text → Option (Set × Text)
  opened more depth t = do
    nat_lt depth deepest
    let start = start_of t
    s ← first_item start.bracket start.rest
    negates start.caret (after_step (more (depth + 1)) empty_class s)

  -- the rest of a class that stands `depth` deep; the number bounds the calls, each of which reads
  -- a character
  unfoldable pub class_rest : ℕ → ℕ → Class → Text → Option (Set × Text)
  class_rest zero depth c t = None
  class_rest (suc n) depth c t = step (opened (class_rest n) depth) c t (next_in t) >>= after_step (class_rest n depth) c

  -- a class from just after its bracket on
  unfoldable pub class : ℕ → Text → Option (Set × Text)
  class depth t = opened (class_rest (suc (length t))) depth t
