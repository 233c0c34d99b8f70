-- What can come after a word, or after white space, in which a match begins.
use Rattle.std.specs.Prelude.{◌≡◌, ◌<◌, ◌≤◌, ℕ, Bool, true, false, ◌&&◌, ◌||◌, ◌==◌, List, ◌++◌, length, slice_index, slice_index_or}
use Rattle.std.specs.List.{list_any}
use Rattle.syntect_pattern_word_ends.specs.syntect_pattern.Sets.{Set, holds, is_within, numbers_from}
use Rattle.syntect_pattern_word_ends.specs.syntect_pattern.Trees.{Tree, nothing, one_of, anchor, same, seq, alt, repeat, group, atomic, ahead, behind}
use Rattle.syntect_pattern_table.specs.Starts.{Begins, begins_at, can_hold, is_in}
use Rattle.syntect_pattern_table.specs.declared.starts.Places.{Places}

-- the ASCII characters of words
abbrev pub is_word_char : ℕ → Bool
is_word_char c =
    is_within 0x30 0x39 c || (is_within 0x41 0x5A c
    || (is_within 0x5F 0x5F c || is_within 0x61 0x7A c))

abbrev pub word_chars : List ℕ
word_chars =
    numbers_from 0x30 10 ++ (numbers_from 0x41 26 ++ (numbers_from 0x5F 1 ++ numbers_from 0x61 26))

-- white space: what stands from a tab to a carriage return, and a space
abbrev pub is_blank : ℕ → Bool
is_blank c = is_within 0x09 0x0D c || is_within 0x20 0x20 c

abbrev pub blanks : List ℕ
blanks = numbers_from 0x09 5 ++ numbers_from 0x20 1

-- a character of white space, or else one of words
abbrev pub is_of : Bool → ℕ → Bool
is_of true c = is_blank c
is_of false c = is_word_char c

abbrev pub chars_of : Bool → List ℕ
chars_of true = blanks
chars_of false = word_chars

-- a run: white space, or else characters of words, from the one place up to the other
pub record IsRunUpTo (blank : Bool) (s : List ℕ) (i e : ℕ) : Type 0 where
  pub order : i ≤ e
  pub within : e ≤ length s
  pub chars : (j : ℕ) → i ≤ j → j < e → is_of blank (slice_index s j) ≡ true

-- one of them is in the set
unfoldable pub has_one : Bool → Set → Bool
has_one blank a = list_any (holds a) (chars_of blank)

-- Of a match that begins in a run, after which this stands: whether it can go on past the run's
-- end, and whether it can end in the run or where that ends.
abbrev mutual
  pub passes : Bool → Tree → ℕ → Bool
  passes blank nothing x = false
  passes blank (one_of a) x = can_hold a x
  passes blank (anchor a) x = false
  passes blank (same fold n) x = true
  passes blank (seq a b) x = passes blank a x || (ends blank a x && passes blank b x)
  passes blank (alt a b) x = passes blank a x || passes blank b x
  passes blank (repeat greedy least most a) x = passes blank a x
  passes blank (group n a) x = passes blank a x
  passes blank (atomic a) x = passes blank a x
  passes blank (ahead negated a) x = false
  passes blank (behind negated a) x = false

  pub ends : Bool → Tree → ℕ → Bool
  ends blank nothing x = true
  ends blank (one_of a) x = has_one blank a
  ends blank (anchor a) x = true
  ends blank (same fold n) x = true
  ends blank (seq a b) x = ends blank a x && ends blank b x
  ends blank (alt a b) x = ends blank a x || ends blank b x
  ends blank (repeat greedy least most a) x = least == 0 || ends blank a x
  ends blank (group n a) x = ends blank a x
  ends blank (atomic a) x = ends blank a x
  ends blank (ahead negated a) x = negated || (passes blank a x || ends blank a x)
  ends blank (behind negated a) x = true

-- what comes after a run in which a match of the tree begins is one of these
abbrev pub StandsBehind : Bool → Places → Tree → Type 0
StandsBehind blank places tree =
    (x : ℕ) → x < 130 → is_in places x ≡ false → (passes blank tree x || ends blank tree x) ≡ false

-- ---- For proofs and private functions alone ----

-- both of them
abbrev pub spans : Bool → ℕ → Tree → Begins
spans blank x t = record { read = passes blank t x; stay = ends blank t x }

-- so it is with these trees: where matches of each go past the run, and where they end in it
abbrev pub Span : Bool → ℕ → List Places → List Places → List Tree → Type 0
Span blank x rs ss ts = (k : ℕ) (d : Places) → k < length rs
    → begins_at x (record { read = slice_index_or rs k d; stay = slice_index_or ss k d })
    ≡ spans blank x (slice_index_or ts k nothing)
