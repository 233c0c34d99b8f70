-- How matches go on.
use Rattle.std.specs.Prelude.{ℕ, zero, Bool, true, false, ◌&&◌, ◌||◌, nat_lt, List, [], ◌∷◌, Option, Some, None, if◌then◌else◌, ◌==◌, is_some}
use Rattle.std.specs.Option.{option_or}
use Rattle.syntect_pattern_plan.specs.syntect_pattern.Trees.{Tree, nothing, one_of, anchor, same, seq, alt, repeat, group, atomic, ahead, behind}
use Rattle.syntect_pattern_plan.specs.syntect_pattern.Matches.{Member, matches}
use Rattle.syntect_pattern_plan.specs.syntect_pattern.Nesting.{looks_fail}

-- for each place where the whole match ends, if what follows goes on from there; none where it has
-- no match
abbrev pub Onward : Type 0
Onward = ℕ → Option ℕ

-- the end that the first member leads to that leads anywhere
abbrev pub reaches : Onward → List Member → Option ℕ
reaches F [] = None
reaches F (m ∷ ms) = option_or (F m.0) (reaches F ms)

-- that member
abbrev pub chosen : Onward → List Member → Option Member
chosen F [] = None
chosen F (m ∷ ms) = if is_some (F m.0) then Some m else chosen F ms

-- the one where nothing was read from the place on, and the other one after it
abbrev pub moved : ℕ → Onward → Onward → Onward
moved i f g j = if j == i then f j else g j

-- each match reads something, as far as the form of the tree tells
abbrev pub reads : Tree → Bool
reads (one_of a) = true
reads (seq a b) = reads a || reads b
reads (alt a b) = reads a && reads b
reads (repeat greedy least most a) = nat_lt 0 least && reads a
reads (group n a) = reads a
reads (atomic a) = reads a
reads _ = false

-- a lookbehind can look for the tree: it has neither loops nor lookarounds
abbrev pub plain : Tree → Bool
plain nothing = true
plain (one_of a) = true
plain (anchor a) = true
plain (seq a b) = plain a && plain b
plain (alt a b) = plain a && plain b
plain (group n a) = plain a
plain _ = false

-- the tree has no group
abbrev pub is_bare : Tree → Bool
is_bare t = looks_fail (λ _. true) true t

-- no lookahead that sets groups stands in the tree
abbrev pub is_calm : Tree → Bool
is_calm (seq a b) = is_calm a && is_calm b
is_calm (alt a b) = is_calm a && is_calm b
is_calm (repeat greedy least most a) = is_calm a
is_calm (group n a) = is_calm a
is_calm (atomic a) = is_calm a
is_calm (ahead negated a) = negated || is_bare a
is_calm _ = true

-- a loop of so many turns takes at most one
abbrev pub is_once : Option ℕ → Bool
is_once None = false
is_once (Some most) = nat_lt most 2

-- there is no back reference, what lookbehinds look for is plain and sets no groups, and no
-- lookahead in a loop of more turns than one sets groups
abbrev pub is_free : Tree → Bool
is_free (same fold n) = false
is_free (seq a b) = is_free a && is_free b
is_free (alt a b) = is_free a && is_free b
is_free (repeat greedy least most a) = is_free a && (is_once most || is_calm a)
is_free (group n a) = is_free a
is_free (atomic a) = is_free a
is_free (ahead negated a) = is_free a
is_free (behind negated a) = plain a && (negated || is_bare a)
is_free _ = true

module _ (s : List ℕ) where
  -- the end of the whole match, where the tree is matched from the place on and then what follows
  -- goes on
  unfoldable pub onward : Tree → Onward → Onward
  onward t F i = reaches F (matches s t i [])

-- there may be a turn
abbrev pub has_turn : Option ℕ → Bool
has_turn (Some zero) = false
has_turn _ = true

-- ---- For proofs and private functions alone ----

-- one of two ends by preference
abbrev pub prefer_end : Bool → Option ℕ → Option ℕ → Option ℕ
prefer_end true more leave = option_or more leave
prefer_end false more leave = option_or leave more

-- no turn where the count is used up
abbrev pub turn_end : Option ℕ → Option ℕ → Option ℕ
turn_end (Some zero) o = None
turn_end _ o = o

-- the end, where the test holds
abbrev pub end_if : Bool → Option ℕ → Option ℕ
end_if b o = if b then o else None
