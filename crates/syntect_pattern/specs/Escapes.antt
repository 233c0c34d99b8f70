-- What follows a backslash.
use Rattle.std.specs.Prelude.{ℕ, ◌-◌, Bool, not, ◌&&◌, ◌||◌, ◌==◌, nat_le, List, [], ◌∷◌, length, take, drop, Option, Some, None, option_map, if◌then◌else◌, find}
use Rattle.std.specs.List.{list_all}
use Rattle.std.specs.Char.{is_digit, is_ascii_uppercase}
use Rattle.unicode.specs.GeneralCategory.{general_category, general_category_eq}
use Rattle.unicode.specs.GeneralCategoryGroup.{in_group}
use Rattle.ucd_category.specs.declared.GeneralCategory.TheVariants.{UppercaseLetter, LowercaseLetter, TitlecaseLetter, ModifierLetter, OtherLetter, NonspacingMark, SpacingMark, EnclosingMark, DecimalNumber, LetterNumber, OtherNumber, ConnectorPunctuation, DashPunctuation, OpenPunctuation, ClosePunctuation, InitialPunctuation, FinalPunctuation, OtherPunctuation, MathSymbol, CurrencySymbol, ModifierSymbol, OtherSymbol, SpaceSeparator, LineSeparator, ParagraphSeparator, Control, Format, Surrogate, PrivateUse, Unassigned}
use Rattle.ucd_category.specs.declared.GeneralCategoryGroup.TheVariants.{Other, Letter, Mark, Number, Punctuation, Symbol, Separator}
use Rattle.syntect_pattern.specs.Sets.{Set, category, categories, word, space, digit, hex_digit, negate_if}
use Rattle.syntect_pattern.specs.declared.anchor.Anchor.{Anchor}
use Rattle.syntect_pattern.specs.Reading.{Text, ◌>>=◌, ◌>>◌, ◌∈◌, first, begins, spells, run, value, char_of, name_in}
use Prim.Native.String.{String}

-- what an escape stands for
pub data Escape : Type 0 where
  char : ℕ → Escape
  set : Set → Escape
  edge : Anchor → Escape
  -- a back reference
  number : ℕ → Escape
  name : Text → Escape

-- the categories by their names
abbrev pub category_names : List (String × Set)
category_names =
    ("L", categories Letter) ∷ ("M", categories Mark) ∷ ("N", categories Number) ∷ ("P", categories Punctuation)
    ∷ ("S", categories Symbol) ∷ ("Z", categories Separator) ∷ ("C", categories Other)
    ∷ ("Lu", category UppercaseLetter) ∷ ("Ll", category LowercaseLetter) ∷ ("Lt", category TitlecaseLetter)
    ∷ ("Lm", category ModifierLetter) ∷ ("Lo", category OtherLetter)
    ∷ ("Mn", category NonspacingMark) ∷ ("Mc", category SpacingMark) ∷ ("Me", category EnclosingMark)
    ∷ ("Nd", category DecimalNumber) ∷ ("Nl", category LetterNumber) ∷ ("No", category OtherNumber)
    ∷ ("Pc", category ConnectorPunctuation) ∷ ("Pd", category DashPunctuation) ∷ ("Ps", category OpenPunctuation)
    ∷ ("Pe", category ClosePunctuation) ∷ ("Pi", category InitialPunctuation) ∷ ("Pf", category FinalPunctuation)
    ∷ ("Po", category OtherPunctuation)
    ∷ ("Sm", category MathSymbol) ∷ ("Sc", category CurrencySymbol) ∷ ("Sk", category ModifierSymbol) ∷ ("So", category OtherSymbol)
    ∷ ("Zs", category SpaceSeparator) ∷ ("Zl", category LineSeparator) ∷ ("Zp", category ParagraphSeparator)
    ∷ ("Cc", category Control) ∷ ("Cf", category Format) ∷ ("Cs", category Surrogate) ∷ ("Co", category PrivateUse)
    ∷ ("Cn", category Unassigned) ∷ []

-- the set that the list has for the name
unfoldable pub named_set : List (String × Set) → Text → Option Set
named_set names t = option_map (λ entry. entry.1) (find (λ entry. spells entry.0 t) names)

-- After `\p` or `\P`: `{C}`, or `{^C}` after `\p`, which negates. The flag says that it's `\P`.
unfoldable pub category_escape : Bool → Text → Option (Escape × Text)
category_escape upper t = do
  begins "{" t
  let caret = begins "{^" t
  not (upper && caret)
  let (inside, after) = run (λ c. not (c ∈ "}")) (drop (if caret then 2 else 1) t)
  begins "}" after
  found ← named_set category_names inside
  Some (set (negate_if (upper || caret) found), drop 1 after)

-- exactly n digits of a hexadecimal number
unfoldable pub hex_fixed : ℕ → Text → Option (Escape × Text)
hex_fixed n t = do
  length (take n t) == n && list_all (λ c. is_digit c 16) (take n t)
  c ← char_of (value 16 (take n t))
  Some (char c, drop n t)

-- after `\x`: two digits, or one to eight in braces
unfoldable pub hex_escape : Text → Option (Escape × Text)
hex_escape t = if not (begins "{" t) then hex_fixed 2 t else (do
  let (digits, after) = run (λ c. is_digit c 16) (drop 1 t)
  nat_le 1 (length digits) && nat_le (length digits) 8
  begins "}" after
  c ← char_of (value 16 digits)
  Some (char c, drop 1 after))

-- after `\k`: the name of a group in `<` and `>`
abbrev pub name_escape : Text → Option (Escape × Text)
name_escape t = do
  begins "<" t
  (found, after) ← name_in (drop 1 t)
  Some (name found, after)

-- a set, negated by a letter in upper case
abbrev pub set_letter : ℕ → Set → Option Escape
set_letter c found = Some (set (negate_if (is_ascii_uppercase c) found))

-- a letter or digit of any script: the categories L and Nd
abbrev pub is_letter_or_digit : ℕ → Bool
is_letter_or_digit c = in_group Letter (general_category c) || general_category_eq (general_category c) DecimalNumber

-- an escape of one character: but for these a letter or digit has none,
-- and any other character is itself
unfoldable pub one_letter : ℕ → Option Escape
one_letter c =
    if c ∈ "wW" then set_letter c word
    else if c ∈ "dD" then set_letter c digit
    else if c ∈ "sS" then set_letter c space
    else if c ∈ "hH" then set_letter c hex_digit
    else if c ∈ "A" then Some (edge Anchor.TextStart)
    else if c ∈ "z" then Some (edge Anchor.TextEnd)
    else if c ∈ "Z" then Some (edge Anchor.LastLineEnd)
    else if c ∈ "b" then Some (edge Anchor.WordEdge)
    else if c ∈ "B" then Some (edge Anchor.NoWordEdge)
    else if c ∈ "n" then Some (char 0x0A)
    else if c ∈ "t" then Some (char 0x09)
    else if c ∈ "r" then Some (char 0x0D)
    else if c ∈ "f" then Some (char 0x0C)
    else if c ∈ "v" then Some (char 0x0B)
    else if c ∈ "a" then Some (char 0x07)
    else if c ∈ "e" then Some (char 0x1B)
    else if c ∈ "123456789" then Some (number (c - 0x30))
    else if is_letter_or_digit c then None
    else Some (char c)

-- from the character after the backslash on
unfoldable pub escape : Text → Option (Escape × Text)
escape t = do
  c ← first t
  let rest = drop 1 t
  if c ∈ "x" then hex_escape rest
      else if c ∈ "u" then hex_fixed 4 rest
      else if c ∈ "pP" then category_escape (c ∈ "P") rest
      else if c ∈ "k" then name_escape rest
      else one_letter c >>= λ e. Some (e, rest)
