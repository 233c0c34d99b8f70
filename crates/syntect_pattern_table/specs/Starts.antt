-- Where a match can begin, as far as the byte there tells.
use Rattle.std.specs.Prelude.{◌≡◌, ◌<◌, ◌≤◌, ℕ, zero, suc, Bool, true, false, not, ◌&&◌, ◌||◌, ◌==◌, nat_lt, List, length, if◌then◌else◌, slice_index, slice_index_or}
use Rattle.syntect_pattern.specs.Sets.{Set, holds}
use Rattle.syntect_pattern_table.specs.SetTable.{is_wide}
use Rattle.syntect_pattern_table.specs.declared.starts.Firsts.{Firsts}
use Rattle.syntect_pattern_table.specs.declared.starts.Places.{Places}
use Rattle.std.specs.Int.{bit_at}
use Rattle.syntect_pattern.specs.Trees.{Tree, nothing, one_of, anchor, same, seq, alt, repeat, group, atomic, ahead, behind}
use Rattle.syntect_pattern.specs.declared.anchor.Anchor.{Anchor}

-- what stands at a place: an ASCII character, 128 for any other one, and 129 for the text's end
unfoldable pub start_at : List ℕ → ℕ → ℕ
start_at s i =
    if nat_lt i (length s) then (if nat_lt (slice_index s i) 128 then slice_index s i else 128)
    else 129

-- a character of the set can stand there
abbrev pub can_hold : Set → ℕ → Bool
can_hold a x = if nat_lt x 128 then holds a x else (x == 128 && is_wide a)

-- the anchor can hold there
abbrev pub can_stand : Anchor → ℕ → Bool
can_stand Anchor.LineEnd x = not (nat_lt x 128) || x == 0x0A
can_stand Anchor.TextEnd x = x == 129
can_stand Anchor.LastLineEnd x = not (nat_lt x 128) || x == 0x0A
can_stand _ x = true

-- whether a match can read something where this stands, and whether one can read nothing
abbrev mutual
  pub reads : Tree → ℕ → Bool
  reads nothing x = false
  reads (one_of a) x = can_hold a x
  reads (anchor a) x = false
  reads (same fold n) x = true
  reads (seq a b) x = reads a x || (stays a x && reads b x)
  reads (alt a b) x = reads a x || reads b x
  reads (repeat greedy least most a) x = reads a x
  reads (group n a) x = reads a x
  reads (atomic a) x = reads a x
  reads (ahead negated a) x = false
  reads (behind negated a) x = false

  -- whether a match can be empty where this stands
  pub stays : Tree → ℕ → Bool
  stays nothing x = true
  stays (one_of a) x = false
  stays (anchor a) x = can_stand a x
  stays (same fold n) x = true
  stays (seq a b) x = stays a x && stays b x
  stays (alt a b) x = stays a x || stays b x
  stays (repeat greedy least most a) x = least == 0 || stays a x
  stays (group n a) x = stays a x
  stays (atomic a) x = stays a x
  stays (ahead negated a) x = negated || (reads a x || stays a x)
  stays (behind negated a) x = true

-- whether a match can read something, and whether one can read nothing
pub record Begins : Type 0 where
  pub read : Bool
  pub stay : Bool

-- a part after another, one of two parts, a loop, a lookahead
abbrev pub sequence_begins : Begins → Begins → Begins
sequence_begins a b = record { read = a.read || (a.stay && b.read); stay = a.stay && b.stay }

abbrev pub either_begins : Begins → Begins → Begins
either_begins a b = record { read = a.read || b.read; stay = a.stay || b.stay }

abbrev pub looped_begins : Bool → Begins → Begins
looped_begins none a = record { read = a.read; stay = none || a.stay }

abbrev pub looked_begins : Bool → Begins → Begins
looked_begins negated a = record { read = false; stay = negated || (a.read || a.stay) }

-- it is among what can stand there
unfoldable pub is_in : Places → ℕ → Bool
is_in p x = if nat_lt x 128 then bit_at p.ascii x == 1 else (if x == 128 then p.wide else p.end)

-- how the parts with these firsts begin
abbrev pub begins_at : ℕ → Firsts → Begins
begins_at x f = record { read = is_in f.read x; stay = is_in f.stay x }

-- what can stand nowhere
abbrev pub none_there : Places
none_there = record { ascii = 0; wide = false; end = false }

-- for all that can stand there whether a match can begin
abbrev pub AreStarts : List Bool → Tree → Type 0
AreStarts flags tree = (x : ℕ) → x < 130
    → slice_index_or flags x true ≡ (reads tree x || stays tree x)

-- where matches of each of these trees can begin
abbrev pub AreFirsts : List Places → List Tree → Type 0
AreFirsts ps ts = (k x : ℕ) (d : Places) → k < length ps → x < 130
    → is_in (slice_index_or ps k d) x
    ≡ (reads (slice_index_or ts k nothing) x || stays (slice_index_or ts k nothing) x)

-- ---- For proofs and private functions alone ----

abbrev pub begins : ℕ → Tree → Begins
begins x t = record { read = reads t x; stay = stays t x }

-- how a part begins that has this row, if it has one: else no match of it reads nothing, and these
-- are its places
abbrev pub row_at : Places → List Firsts → ℕ → Firsts
row_at p fs zero = record { read = p; stay = none_there }
row_at p fs (suc n) = slice_index_or fs n (record { read = none_there; stay = none_there })

-- how the part at a place begins, by the places of all parts and their rows
abbrev pub firsts_at : List Places → List ℕ → List Firsts → ℕ → Firsts
firsts_at ps rows fs k = row_at (slice_index_or ps k none_there) fs (slice_index_or rows k 0)

-- so begin these trees
abbrev pub Begin : ℕ → List Places → List ℕ → List Firsts → List Tree → Type 0
Begin x ps rows fs ts = (k : ℕ) → k < length ps
    → begins_at x (firsts_at ps rows fs k) ≡ begins x (slice_index_or ts k nothing)

-- each of these rows is there
abbrev pub AreWithin : List ℕ → List Firsts → Type 0
AreWithin rows fs = (k : ℕ) → k < length rows → slice_index_or rows k 0 ≤ length fs

-- the old rows are the first of the new ones
pub record KeepsRows (old new : List Firsts) : Type 0 where
  pub longer : length old ≤ length new
  pub same : (n : ℕ) (d : Firsts) → n < length old → slice_index_or new n d ≡ slice_index_or old n d
