-- What a search still has to do: the match that it finds first, and how many steps it has left.
use Rattle.std.specs.Prelude.{◌≡◌, ℕ, zero, suc, ◌+◌, ◌-◌, ◌≤◌, ◌<◌, Bool, true, false, List, [], ◌∷◌, ◌++◌, length, take, reverse, Option, Some, None, option_map, if◌then◌else◌, ◌==◌, slice_get, slice_set, slice_index_or, IsCharBoundary}
use Rattle.std.specs.Option.{option_or}
use Rattle.syntect_pattern_backtrack.specs.syntect_pattern.Text.{char_at, is_boundary}
use Rattle.syntect_pattern_backtrack.specs.syntect_pattern.Sets.{holds}
use Rattle.syntect_pattern_backtrack.specs.syntect_pattern.Trees.{Tree, nothing, one_of, anchor, same, seq, alt, repeat, group, atomic, ahead, behind}
use Rattle.syntect_pattern_backtrack.specs.syntect_pattern.Matches.{Groups, Member, anchor_holds, same_text, found, found_at}
use Rattle.syntect_pattern_backtrack.specs.syntect_pattern_table.Program.{IsProgramOf}
use Rattle.syntect_pattern_backtrack.specs.syntect_pattern_table.declared.program.Program.{Program}
use Rattle.syntect_pattern_steps.specs.Steps.{after_char}
use Rattle.syntect_pattern_backtrack.specs.declared.state.Turns.{Turns}
use Rattle.syntect_pattern_backtrack.specs.declared.state.Continuation.{Continuation}
use Rattle.syntect_pattern_backtrack.specs.declared.state.Continuation.TheVariants.{Run, Close, Again, EndsAt}
use Rattle.syntect_pattern_backtrack.specs.declared.state.Cell.{Cell}
use Rattle.syntect_pattern_backtrack.specs.declared.state.Bound.{Bound}
use Rattle.syntect_pattern_backtrack.specs.declared.state.Next.{Next}
use Rattle.syntect_pattern_backtrack.specs.declared.state.Search.{Search}
use Rattle.syntect_pattern_backtrack.specs.declared.state.Frame.{Frame}
use Rattle.syntect_pattern_backtrack.specs.declared.state.Frame.TheVariants.{Enter, Leave, Stretch, Starts, Within, Restore}

pub record Work : Type 0 where
  pub found : Option Member
  pub count : ℕ

-- nothing to do, and nothing found
unfoldable pub none : Work
none = record { found = None; count = 0 }

-- the match is found
unfoldable pub one : ℕ → Groups → Work
one i g = record { found = Some (i, g); count = 0 }

-- one step more
unfoldable pub tick : Work → Work
tick w = record { found = w.found; count = w.count + 1 }

-- the first, and the second where the first finds nothing
unfoldable pub both : Work → Work → Work
both w x = record { found = option_or w.found x.found; count = w.count + x.count }

-- what is done at a place with these groups
abbrev pub On : Type 0
On = ℕ → Groups → Work

-- k at the place, if there is one
abbrev pub go_on : Option ℕ → On → Groups → Work
go_on None k g = none
go_on (Some j) k g = k j g

-- k at each member
abbrev pub at_each : On → List Member → Work
at_each k [] = none
at_each k (m ∷ ms) = both (k m.0 m.1) (at_each k ms)

-- a greedy loop prefers another turn, a lazy one prefers to leave
abbrev pub prefer : Bool → Work → Work → Work
prefer true more leave = both more leave
prefer false more leave = both leave more

-- no turn where the count is used up
abbrev pub while_left : Option ℕ → Work → Work
while_left (Some zero) w = none
while_left _ w = w

-- this is done where the test holds
abbrev pub work_if : Bool → Work → Work
work_if true w = w
work_if false w = none

-- a turn that reads nothing leaves the loop
abbrev pub after_turn : Bool → On → On → On
after_turn true k more j h = k j h
after_turn false k more j h = more j h

-- a turn less
abbrev pub one_less : Option ℕ → Option ℕ
one_less = option_map (λ n. n - 1)

abbrev pub search_turns : (On → On) → Bool → ℕ → ℕ → Option ℕ → On → On
search_turns body greedy zero least most k i g = tick none
search_turns body greedy (suc n) least most k i g =
    tick (prefer greedy
    (while_left most (tick (body (λ j h. tick
    (after_turn (j == i) k (search_turns body greedy n (least - 1)
    (one_less most) k) j h)) i g)))
    (work_if (least == 0) (tick (k i g))))

-- the match ends here
abbrev pub done : On
done i g = tick (one i g)

-- k, where the place is this one
abbrev pub ends_at : ℕ → On → On
ends_at e k i g = tick (work_if (i == e) (k i g))

-- k at so many places, the last one first
abbrev pub at_places : On → ℕ → ℕ → Groups → Work
at_places k zero place g = none
at_places k (suc n) place g = both (tick (k place g)) (at_places k n (place - 1) g)

-- what follows a part that began at the place, by its first match
abbrev pub outcome : Bound → Option Member → On → On
outcome Bound.Whole None k i g = none
outcome Bound.Whole (Some (j, h)) k i g = k j h
outcome Bound.Holds None k i g = none
outcome Bound.Holds (Some (j, h)) k i g = k i h
outcome Bound.Fails None k i g = k i g
outcome Bound.Fails (Some m) k i g = none

-- the part, and then what follows it
unfoldable pub bounded : Bound → Work → On → On
bounded b w k i g =
    record {
      found = (outcome b w.found k i g).found;
      count = w.count + (outcome b w.found k i g).count;
    }

-- lookarounds
abbrev pub look_bound : Bool → Bound
look_bound true = Bound.Fails
look_bound false = Bound.Holds

module _ (s : List ℕ) where
  -- a match can begin at the place: it is 0, or a character begins there or the text ends
  abbrev pub is_start : ℕ → Bool
  is_start zero = true
  is_start (suc i) = is_boundary s (suc i)

  -- the part, and then k, at a place where a match can begin
  abbrev pub at_start : (On → On) → On → On
  at_start body k i g = work_if (is_start i) (body k i g)

  -- the tree, and then k
  abbrev pub search : Tree → On → On
  search nothing k i g = tick (k i g)
  search (one_of set) k i g = tick (go_on (after_char (holds set) (char_at s i) i) k g)
  search (seq a b) k i g = tick (search a (λ j h. tick (search b k j h)) i g)
  search (alt a b) k i g = tick (both (search a k i g) (tick (search b k i g)))
  search (repeat greedy least most a) k i g =
      tick (search_turns (search a) greedy (suc (length s - i)) least most k i g)
  search (group n a) k i g =
      tick (search a (λ j h. tick (tick (k j (slice_set h n (Some (i, j)))))) i g)
  search (anchor a) k i g = tick (work_if (anchor_holds s a i) (k i g))
  search (same fold n) k i g = tick (at_each k (same_text s fold (slice_get g n) i g))
  search (atomic a) k i g = tick (tick (bounded Bound.Whole (search a done i g) k i g))
  search (ahead negated a) k i g =
      tick (tick (bounded (look_bound negated) (search a done i g) k i g))
  search (behind negated a) k i g =
      tick (tick (bounded (look_bound negated)
      (tick (at_places (at_start (search a) (ends_at i done)) (suc i) i g)) k i g))

  module _ (ts : List Tree) where
    abbrev pub tree_at : ℕ → Tree
    tree_at n = slice_index_or ts n nothing

    abbrev pub end : On
    end = done

    -- the loop's turns, where the node is a loop
    abbrev pub turns_of : Tree → Turns → On → On
    turns_of (repeat greedy least most a) t k i g =
        search_turns (search a) greedy t.left t.least t.most k i g
    turns_of _ t k i g = tick none

    abbrev pub on_item : Continuation → On → On
    on_item (Run n) k i g = tick (search (tree_at n) k i g)
    on_item (Close n a) k i g = tick (tick (k i (slice_set g n (Some (a, i)))))
    on_item (Again t a) k i g = tick (after_turn (i == a) k (turns_of (tree_at t.node) t k) i g)
    on_item (EndsAt e) k i g = ends_at e k i g

    -- list 0 is empty, and list k + 1 begins with cell k
    abbrev pub list_in : List On → ℕ → On
    list_in ks zero = end
    list_in ks (suc k) = slice_index_or ks k end

    abbrev pub on_cell : List On → Cell → On
    on_cell ks c = on_item c.item (list_in ks c.next)

    abbrev pub lists_from : List On → List Cell → List On
    lists_from ks [] = ks
    lists_from ks (c ∷ cs) = lists_from (ks ++ on_cell ks c ∷ []) cs

    -- what the list of items with this number does
    unfoldable pub list_at : List Cell → ℕ → On
    list_at cells k = list_in (lists_from [] cells) k

    -- what a search does that first does w, and then what the frames say, the last one first
    abbrev pub pending : List Cell → Groups → List Frame → Work → Work
    pending cells g [] w = w
    pending cells g (Enter n k i len ∷ fs) w =
        pending (take len cells) g fs
        (both w (tick (search (tree_at n) (list_at (take len cells) k) i g)))
    pending cells g (Leave k i len ∷ fs) w =
        pending (take len cells) g fs (both w (tick (list_at (take len cells) k i g)))
    pending cells g (Stretch k n i len ∷ fs) w =
        pending (take len cells) g fs (both w (tick (at_places (list_at (take len cells) k) n i g)))
    pending cells g (Starts n k c i len ∷ fs) w =
        pending (take len cells) g fs
        (both w (tick (at_places (at_start (search (tree_at n))
        (list_at (take len cells) k)) c i g)))
    pending cells g (Within b k i len ∷ fs) w =
        pending (take len cells) g fs (tick (bounded b w (list_at (take len cells) k) i g))
    pending cells g (Restore n old ∷ fs) w = pending cells (slice_set g n old) fs (tick w)

    abbrev pub now : Next → List Cell → ℕ → Groups → Work
    now (Next.Enter n k) cells i g = search (tree_at n) (list_at cells k) i g
    now (Next.Turn t k) cells i g = turns_of (tree_at t.node) t (list_at cells k) i g
    now (Next.Leave k) cells i g = list_at cells k i g
    now Next.Fail cells i g = none
    now Next.Found cells i g = one i g

    abbrev pub total : Next → Search → Work
    total next x =
        pending x.cells.items x.groups.items (reverse x.frames.items)
        (now next x.cells.items x.place x.groups.items)

-- the ends of a group's span are on boundaries
abbrev pub SlotFits : List ℕ → Option (ℕ × ℕ) → Type 0
SlotFits s None = Unit {0}
SlotFits s (Some (a, b)) = IsCharBoundary s a × IsCharBoundary s b

abbrev pub GroupsFit : List ℕ → Groups → Type 0
GroupsFit s g = (n : ℕ) → SlotFits s (slice_index_or g n None)

-- The lists of the frames are there, and stay there while those above are taken off.
abbrev pub FramesFit : List ℕ → ℕ → List Frame → Type 0
FramesFit s n [] = Unit {0}
FramesFit s n (Enter node k i len ∷ fs) =
    (k ≤ len) × (len ≤ n) × IsCharBoundary s i × FramesFit s len fs
FramesFit s n (Leave k i len ∷ fs) = (k ≤ len) × (len ≤ n) × IsCharBoundary s i × FramesFit s len fs
FramesFit s n (Stretch k count i len ∷ fs) =
    (k ≤ len) × (len ≤ n) × ((m : ℕ) → m < count → IsCharBoundary s (i - m)) × FramesFit s len fs
FramesFit s n (Starts node k count i len ∷ fs) = (k ≤ len) × (len ≤ n) × FramesFit s len fs
FramesFit s n (Within b k i len ∷ fs) =
    (k ≤ len) × (len ≤ n) × IsCharBoundary s i × FramesFit s len fs
FramesFit s n (Restore i old ∷ fs) = SlotFits s old × FramesFit s n fs

abbrev pub ListFits : Next → ℕ → Type 0
ListFits (Next.Enter n k) len = k ≤ len
ListFits (Next.Turn t k) len = k ≤ len
ListFits (Next.Leave k) len = k ≤ len
ListFits Next.Fail len = Unit {0}
ListFits Next.Found len = Unit {0}

-- the place where a group began is on a boundary
abbrev pub ItemFits : List ℕ → Continuation → Type 0
ItemFits s (Close n a) = IsCharBoundary s a
ItemFits s _ = Unit {0}

-- the list of each cell's others stands before it
abbrev pub CellsFit : List ℕ → List Cell → Type 0
CellsFit s cells = (k : ℕ) (d : Cell) → k < length cells
    → ((slice_index_or cells k d).next ≤ k) × ItemFits s (slice_index_or cells k d).item

pub record Fits (s : List ℕ) (next : Next) (x : Search) : Type 0 where
  pub cells : CellsFit s x.cells.items
  pub frames : FramesFit s (length x.cells.items) (reverse x.frames.items)
  pub list : ListFits next (length x.cells.items)
  pub place : IsCharBoundary s x.place
  pub groups : GroupsFit s x.groups.items

module _ (s : List ℕ) (ts : List Tree) where
  -- what a search finds
  abbrev pub found_by : Next → Search → Option Member
  found_by next x = (total s ts next x).found

  -- how many steps are left
  abbrev pub steps_of : Next → Search → ℕ
  steps_of next x = (total s ts next x).count

  -- One step: what is found stays, fewer steps are left, and everything fits.
  pub record Goes (next : Next) (old : Search) (next' : Next) (new : Search) : Type 0 where
    pub found : found_by next' new ≡ found_by next old
    pub fewer : steps_of next' new < steps_of next old
    pub fits : Fits s next' new

-- a frame of a stretch without the ends at which its list finds nothing
pub record IsShorter (s : List ℕ) (ts : List Tree) (xs : List Cell)
    (frame shorter : Frame) : Type 0 where
  pub list : ℕ
  pub count : ℕ
  pub place : ℕ
  pub cells : ℕ
  pub ends : ℕ
  pub was : frame ≡ Stretch list count place cells
  pub is : shorter ≡ Stretch list (count - ends) (place - ends) cells
  pub some : 0 < ends
  pub inside : ends ≤ count
  pub dead : (m : ℕ) → m < ends → (g : Groups) → (list_at s ts xs list (place - m) g).found ≡ None

-- the part that began last, of which the first match counts alone, with its list and its place
abbrev pub bound_of : List Frame → Option (Bound × ℕ × ℕ)
bound_of [] = None
bound_of (Enter n k i len ∷ fs) = bound_of fs
bound_of (Leave k i len ∷ fs) = bound_of fs
bound_of (Stretch k n i len ∷ fs) = bound_of fs
bound_of (Starts node k n i len ∷ fs) = bound_of fs
bound_of (Within b k i len ∷ fs) = Some (b, k, i)
bound_of (Restore n old ∷ fs) = bound_of fs

-- the frames without what that part can still try
abbrev pub uncut : List Frame → List Frame
uncut [] = []
uncut (Enter n k i len ∷ fs) = uncut fs
uncut (Leave k i len ∷ fs) = uncut fs
uncut (Stretch k n i len ∷ fs) = uncut fs
uncut (Starts node k n i len ∷ fs) = uncut fs
uncut (Within b k i len ∷ fs) = fs
uncut (Restore n old ∷ fs) = Restore n old ∷ uncut fs

-- how many cells there were when that part began
abbrev pub cells_before : List Frame → ℕ
cells_before [] = 0
cells_before (Enter n k i len ∷ fs) = cells_before fs
cells_before (Leave k i len ∷ fs) = cells_before fs
cells_before (Stretch k n i len ∷ fs) = cells_before fs
cells_before (Starts node k n i len ∷ fs) = cells_before fs
cells_before (Within b k i len ∷ fs) = len
cells_before (Restore n old ∷ fs) = cells_before fs

-- what comes after the first match of that part, and where
abbrev pub next_of : Bound × ℕ × ℕ → Next
next_of (Bound.Whole, k, i) = Next.Leave k
next_of (Bound.Holds, k, i) = Next.Leave k
next_of (Bound.Fails, k, i) = Next.Fail

abbrev pub place_of : Bound × ℕ × ℕ → ℕ → ℕ
place_of (Bound.Whole, k, i) j = j
place_of (Bound.Holds, k, i) j = i
place_of (Bound.Fails, k, i) j = j

-- the part is cut, and its cells are taken off
pub record Cuts (b : Bound × ℕ × ℕ) (old : Search) (next : Next) (new : Search) : Type 0 where
  pub next_is : next ≡ next_of b
  pub place : new.place ≡ place_of b old.place
  pub cells : new.cells.items ≡ take (cells_before (reverse old.frames.items)) old.cells.items
  pub groups : new.groups.items ≡ old.groups.items
  pub frames : reverse new.frames.items ≡ uncut (reverse old.frames.items)

-- the groups of the match that a search holds, if it found one
abbrev pub groups_of : Bool → Search → Option Groups
groups_of true x = Some x.groups.items
groups_of false x = None

-- these are the groups of the match that the program's tree has at the place, if it has any
abbrev pub FindsAt : List ℕ → Program → ℕ → Option Groups → Type 0
FindsAt s p place groups = (tree : Tree) → IsProgramOf p tree → groups ≡ found_at s tree place

-- these are the groups of the match that the program's tree has at the least place not below this
-- one, if it has any
abbrev pub FindsGroups : List ℕ → Program → ℕ → Option Groups → Type 0
FindsGroups s p from groups = (tree : Tree) → IsProgramOf p tree → groups ≡ found s tree from

-- ---- For proofs and private functions alone ----

abbrev pub one_turn_less : Turns → Turns
one_turn_less t =
    record { node = t.node; left = t.left - 1; least = t.least - 1; most = one_less t.most }

-- no turn is left
abbrev pub is_used_up : Option ℕ → Bool
is_used_up None = false
is_used_up (Some n) = n == 0

-- What comes next in place of the other finds the same, in no more steps, and everything fits.
pub record FindsAlike (s : List ℕ) (ts : List Tree) (next next' : Next) (x : Search) : Type 0 where
  pub found : found_by s ts next' x ≡ found_by s ts next x
  pub steps : steps_of s ts next' x ≤ steps_of s ts next x
  pub fits : Fits s next' x

-- the place and the cells are those that a frame kept
pub record ReturnsTo (i len : ℕ) (old new : Search) : Type 0 where
  pub place : new.place ≡ i
  pub cells : new.cells.items ≡ take len old.cells.items
  pub groups : new.groups.items ≡ old.groups.items
  pub frames : new.frames.items ≡ old.frames.items

-- the group has its old span
pub record RestoresGroup (n : ℕ) (was : Option (ℕ × ℕ)) (old new : Search) : Type 0 where
  pub place : new.place ≡ old.place
  pub cells : new.cells.items ≡ old.cells.items
  pub groups : new.groups.items ≡ slice_set old.groups.items n was
  pub frames : new.frames.items ≡ old.frames.items

-- the last place of a stretch is tried, and the others are kept
pub record TriesLast (k n i len : ℕ) (old : Search) (next : Next) (new : Search) : Type 0 where
  pub next_is : next ≡ Next.Leave k
  pub place : new.place ≡ i
  pub cells : new.cells.items ≡ take len old.cells.items
  pub groups : new.groups.items ≡ old.groups.items
  pub frames : new.frames.items ≡ old.frames.items ++ Stretch k n (i - 1) len ∷ []

-- a frame of a stretch is taken off
abbrev pub Retreats : ℕ → ℕ → ℕ → ℕ → Search → Next → Search → Type 0
Retreats k zero i len old next new = (next ≡ Next.Fail) × ReturnsTo old.place len old new
Retreats k (suc n) i len old next new = TriesLast k n i len old next new

-- the node is tried at the last of so many places, and the others are kept
pub record TriesStart (s : List ℕ) (node k n i len : ℕ) (old : Search) (next : Next)
    (new : Search) : Type 0 where
  pub next_is : next ≡ (if is_start s i then Next.Enter node k else Next.Fail)
  pub place : new.place ≡ (if is_start s i then i else old.place)
  pub cells : new.cells.items ≡ take len old.cells.items
  pub groups : new.groups.items ≡ old.groups.items
  pub frames : new.frames.items ≡ old.frames.items ++ Starts node k n (i - 1) len ∷ []

-- a frame of starts is taken off
abbrev pub Restarts : List ℕ → ℕ → ℕ → ℕ → ℕ → ℕ → Search → Next → Search → Type 0
Restarts s node k zero i len old next new = (next ≡ Next.Fail) × ReturnsTo old.place len old new
Restarts s node k (suc n) i len old next new = TriesStart s node k n i len old next new

-- a part has no match
abbrev pub ComesOut : Bound → ℕ → ℕ → ℕ → Search → Next → Search → Type 0
ComesOut Bound.Whole k i len old next new = (next ≡ Next.Fail) × ReturnsTo old.place len old new
ComesOut Bound.Holds k i len old next new = (next ≡ Next.Fail) × ReturnsTo old.place len old new
ComesOut Bound.Fails k i len old next new = (next ≡ Next.Leave k) × ReturnsTo i len old new

-- a loop over one character is entered
abbrev pub EntersStretch : List ℕ → List Tree → ℕ → ℕ → ℕ → Search → Search → Type 0
EntersStretch s ts least body k old new =
    (node : ℕ) → slice_index_or ts node nothing
    ≡ repeat true least None (slice_index_or ts body nothing)
    → Goes s ts (Next.Enter node k) old Next.Fail new

-- the match that a search holds, if it found one: its end and its groups
abbrev pub match_of : Bool → Search → Option Member
match_of true x = Some (x.place, x.groups.items)
match_of false x = None
