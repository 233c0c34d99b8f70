-- What a pattern matches: the list of (end, groups), in order of priority.
use Rattle.std.specs.Prelude.{ℕ, zero, suc, ◌+◌, ◌-◌, Bool, true, false, not, ◌&&◌, ◌||◌, List, [], ◌∷◌, ◌++◌, length, take, map, filter, chars, replicate, Option, Some, None, if◌then◌else◌, ◌==◌, slice_get, slice_set, slice_range, option_map}
use Rattle.std.specs.List.{flat_map}
use Rattle.std.specs.Char.{len_utf8}
use Rattle.std.specs.Option.{option_or}
use Rattle.syntect_pattern.specs.Text.{char_at, char_before, is_boundary}
use Rattle.syntect_pattern.specs.Sets.{holds, same_fold, is_word}
use Rattle.syntect_pattern.specs.Trees.{Tree, nothing, one_of, anchor, same, seq, alt, repeat, group, atomic, ahead, behind, group_count}
use Rattle.syntect_pattern.specs.declared.anchor.Anchor.{Anchor}

-- where each group matched last; group n stands at n, and the whole match at 0
abbrev pub Groups : Type 0
Groups = List (Option (ℕ × ℕ))

-- where a match ends, and its groups
abbrev pub Member : Type 0
Member = ℕ × Groups

-- how a part of a pattern goes on from a place with these groups
abbrev pub Way : Type 0
Way = ℕ → Groups → List Member

-- the member that ends at j and changes no group, where the test holds
abbrev pub only_if : Bool → Way
only_if test j g = if test then (j, g) ∷ [] else []

-- past the character, where it passes the test
abbrev pub past : (ℕ → Bool) → Option ℕ → Way
past test None i g = []
past test (Some c) i g = only_if (test c) (i + len_utf8 c) g

-- a greedy loop prefers another turn, a lazy one prefers to leave
abbrev pub prefer : Bool → List Member → List Member → List Member
prefer true more leave = more ++ leave
prefer false more leave = leave ++ more

-- no turn where the count is used up
abbrev pub while_left : Option ℕ → Way → Way
while_left (Some zero) turn i g = []
while_left _ turn i g = turn i g

-- a turn that reads nothing leaves the loop, with its groups and whatever the least number is
abbrev pub after_turn : Bool → Way → Way
after_turn true more j h = (j, h) ∷ []
after_turn false more j h = more j h

-- the turns of a loop, at most n of them; turns don't reset groups
abbrev pub turns : Way → Bool → ℕ → ℕ → Option ℕ → Way
turns body greedy zero least most i g = []
turns body greedy (suc n) least most i g =
    prefer greedy
    (while_left most (λ i g. flat_map (λ (j, h). after_turn (j == i) (turns body greedy n (least - 1) (option_map (λ k. k - 1) most)) j h) (body i g)) i g)
    (only_if (least == 0) i g)

-- the members that end at i
abbrev pub ending_at : ℕ → List Member → List Member
ending_at i = filter (λ m. m.0 == i)

-- the first list that has a member
abbrev pub or_else : List Member → List Member → List Member
or_else [] b = b
or_else (m ∷ a) b = m ∷ a

-- the groups of the first member, at the place
abbrev pub stay : ℕ → List Member → List Member
stay i [] = []
stay i ((j, h) ∷ rest) = (i, h) ∷ []

-- the place itself with the old groups, where there is no member
abbrev pub stay_unless : ℕ → Groups → List Member → List Member
stay_unless i g [] = (i, g) ∷ []
stay_unless i g (m ∷ rest) = []

-- a lookaround stays at the place: where a member was found, or, negated, where none was
abbrev pub look : Bool → ℕ → Groups → List Member → List Member
look false i g found = stay i found
look true i g found = stay_unless i g found

-- the member, with group n set to what lies between i and the member's end
abbrev pub close : ℕ → ℕ → Member → Member
close n i (j, h) = (j, slice_set h n (Some (i, j)))

-- the two sides of a place differ in being `\w`; an edge isn't
abbrev pub word_at : Option ℕ → Bool
word_at None = false
word_at (Some c) = is_word c

-- one of the two is true, and the other is not
abbrev pub differ : Bool → Bool → Bool
differ true b = not b
differ false b = b

-- there is a character, and it is a newline
abbrev pub is_newline : Option ℕ → Bool
is_newline None = false
is_newline (Some c) = c == 0x0A

-- with folding or without it
abbrev pub equals : Bool → ℕ → ℕ → Bool
equals true c d = same_fold c d
equals false c d = c == d

module _ (s : List ℕ) where
  -- of the characters before and after the place just one is `\w`; one that is missing is not
  unfoldable pub is_word_edge : ℕ → Bool
  is_word_edge i = differ (word_at (char_before s i)) (word_at (char_at s i))

  -- the anchor holds at the place
  abbrev pub anchor_holds : Anchor → ℕ → Bool
  anchor_holds Anchor.LineStart i = i == 0 || (is_newline (char_before s i) && not (i == length s))
  anchor_holds Anchor.LineEnd i = i == length s || is_newline (char_at s i)
  anchor_holds Anchor.TextStart i = i == 0
  anchor_holds Anchor.TextEnd i = i == length s
  anchor_holds Anchor.LastLineEnd i = i == length s || (is_newline (char_at s i) && i + 1 == length s)
  anchor_holds Anchor.WordEdge i = is_word_edge i
  anchor_holds Anchor.NoWordEdge i = not (is_word_edge i)

  -- these characters, one by one
  abbrev pub spelled : Bool → List ℕ → Way
  spelled fold [] i g = (i, g) ∷ []
  spelled fold (c ∷ cs) i g = flat_map (λ (j, h). spelled fold cs j h) (past (equals fold c) (char_at s i) i g)

  -- the text of the group again; nothing if the group is unset
  abbrev pub same_text : Bool → Option (Option (ℕ × ℕ)) → Way
  same_text fold (Some (Some (a, b))) i g = spelled fold (chars (slice_range s a b)) i g
  same_text fold _ i g = []

  -- the members that end at i, of the last start not after the place that has any
  abbrev pub ending_here : Way → ℕ → Way
  ending_here body zero i g = ending_at i (body 0 g)
  ending_here body (suc k) i g = or_else (if is_boundary s (suc k) then ending_at i (body (suc k) g) else []) (ending_here body k i g)

  -- the members of a tree from a place on with these groups, in order of priority
  abbrev pub matches : Tree → Way
  matches nothing i g = (i, g) ∷ []
  matches (one_of set) i g = past (holds set) (char_at s i) i g
  matches (anchor a) i g = only_if (anchor_holds a i) i g
  matches (same fold n) i g = same_text fold (slice_get g n) i g
  matches (seq a b) i g = flat_map (λ (j, h). matches b j h) (matches a i g)
  matches (alt a b) i g = matches a i g ++ matches b i g
  matches (repeat greedy least most a) i g = turns (matches a) greedy (suc (length s - i)) least most i g
  matches (group n a) i g = map (close n i) (matches a i g)
  matches (atomic a) i g = take 1 (matches a i g)
  matches (ahead negated a) i g = look negated i g (matches a i g)
  matches (behind negated a) i g = look negated i g (ending_here (matches a) i i g)

  -- no group is set
  abbrev pub unset : Tree → Groups
  unset tree = replicate (suc (group_count tree)) None

  -- the groups of the first member at the place, where the whole match is group 0
  unfoldable pub found_at : Tree → ℕ → Option Groups
  found_at tree i = if is_boundary s i then option_map (λ m. m.1) (slice_get (matches (group 0 tree) i (unset tree)) 0) else None

  -- the first of n places that has a match
  abbrev pub found_within : Tree → ℕ → ℕ → Option Groups
  found_within tree zero i = None
  found_within tree (suc n) i = option_or (found_at tree i) (found_within tree n (suc i))

  -- the groups of the first match at the least place not below this one that has a match
  unfoldable pub found : Tree → ℕ → Option Groups
  found tree from = found_within tree (suc (length s) - from) from
