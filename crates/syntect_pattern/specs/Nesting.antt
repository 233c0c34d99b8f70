-- How the groups of a match lie, but for those in lookarounds: inside the match, each two of them
-- apart or one in the other.
use Rattle.std.specs.Prelude.{◌-◌, ◌<◌, Option, ◌≡◌, ℕ, suc, ◌≤◌, Bool, true, false, not, ◌&&◌, Some, List, length, slice_get, IsCharBoundary, IsUtf8}
use Rattle.syntect_pattern.specs.Trees.{Tree, seq, alt, repeat, group, atomic, ahead, behind, in_look, group_in_look, group_count}
use Rattle.syntect_pattern.specs.Matches.{Groups, matches, turns, found}

-- from the one place to the other
abbrev pub Span : Type 0
Span = ℕ × ℕ

-- two spans are apart, or one lies in the other
pub data AreNested (x y : Span) : Type 0 where
  is_before : x.1 ≤ y.0 → AreNested x y
  is_after : y.1 ≤ x.0 → AreNested x y
  is_around : x.0 ≤ y.0 → y.1 ≤ x.1 → AreNested x y
  is_inside : y.0 ≤ x.0 → x.1 ≤ y.1 → AreNested x y

-- the group is set to this span
abbrev pub IsSet : Groups → ℕ → Span → Type 0
IsSet g n x = slice_get g n ≡ Some (Some x)

-- the span lies between the two places, and its ends are on boundaries
pub record LiesIn (s : List ℕ) (low high : ℕ) (x : Span) : Type 0 where
  pub from : low ≤ x.0
  pub rises : x.0 ≤ x.1
  pub to : x.1 ≤ high
  pub starts : IsCharBoundary s x.0
  pub ends : IsCharBoundary s x.1

-- each group of the tree that stands in a lookaround fails the test;
-- the flag says that the tree does
abbrev pub looks_fail : (ℕ → Bool) → Bool → Tree → Bool
looks_fail picks look (seq a b) = looks_fail picks look a && looks_fail picks look b
looks_fail picks look (alt a b) = looks_fail picks look a && looks_fail picks look b
looks_fail picks look (repeat greedy least most a) = looks_fail picks look a
looks_fail picks look (group n a) = not (look && picks n) && looks_fail picks look a
looks_fail picks look (atomic a) = looks_fail picks look a
looks_fail picks look (ahead negated a) = looks_fail picks true a
looks_fail picks look (behind negated a) = looks_fail picks true a
looks_fail picks look _ = true

-- What a search from a place on finds. Group 0 is the whole match. Each group that is set lies in
-- the text and ends on boundaries. The groups that stand in no lookaround lie in the match, and
-- each two of them are nested or disjoint.
pub record IsMatch (s : List ℕ) (tree : Tree) (from : ℕ) (g : Groups) : Type 0 where
  pub start : ℕ
  pub end : ℕ
  pub after : from ≤ start
  pub slots : length g ≡ suc (group_count tree)
  pub whole : IsSet g 0 (start, end)
  pub lie : (n : ℕ) (x : Span) → IsSet g n x → LiesIn s 0 (length s) x
  pub within : (n : ℕ) (x : Span) → group_in_look tree n ≡ Some false → IsSet g n x → LiesIn s start end x
  pub nested : (n m : ℕ) (x y : Span) → group_in_look tree n ≡ Some false → group_in_look tree m ≡ Some false
      → IsSet g n x → IsSet g m y → AreNested x y

-- the law of every search in a text
abbrev pub FindsMatches : Type 0
FindsMatches = (s : List ℕ) (tree : Tree) (from : ℕ) (g : Groups) → IsUtf8 s → found s tree from ≡ Some g → IsMatch s tree from g

-- a loop's turns are the same for every bound above what is left of the text
abbrev pub TurnsEnough : Type 0
TurnsEnough = (s : List ℕ) (body : Tree) (greedy : Bool) (n m least : ℕ) (most : Option ℕ) (i : ℕ) (g : Groups)
    → IsUtf8 s → IsCharBoundary s i → length s - i < n → length s - i < m
    → turns (matches s body) greedy n least most i g ≡ turns (matches s body) greedy m least most i g

-- ---- For proofs and private functions alone ----

-- the same of each group that the test picks, and each two of them are nested or disjoint
pub record IsLaidOut (s : List ℕ) (picks : ℕ → Bool) (low high : ℕ) (g : Groups) : Type 0 where
  pub within : (n : ℕ) (x : Span) → picks n ≡ true → IsSet g n x → LiesIn s low high x
  pub nested : (n m : ℕ) (x y : Span) → picks n ≡ true → picks m ≡ true → IsSet g n x → IsSet g m y → AreNested x y

-- the groups that stand in no lookaround
abbrev pub outside : Tree → ℕ → Bool
outside tree n = not (in_look false tree n)
