-- Where a match of a pattern can begin.
use Rattle.std.specs.Prelude.{◌≡◌, ℕ, ◌+◌, Bool, false, List, [], IsUtf8}
use Rattle.syntect_regex.specs.syntect_pattern.Trees.{Tree}
use Rattle.syntect_regex.specs.syntect_pattern.declared.anchor.Anchor.{Anchor}
use Rattle.syntect_regex.specs.syntect_pattern.Matches.{Groups, anchor_holds, is_word_edge, matches}
use Rattle.syntect_regex.specs.syntect_pattern.Pattern.{pattern_found}
use Rattle.syntect_regex.specs.syntect_pattern_table.Starts.{is_in, start_at}
use Rattle.syntect_regex.specs.syntect_pattern_table.declared.starts.Places.{Places}
use Rattle.syntect_pattern_word_ends.specs.Ends.{IsRunUpTo}

-- no match of the pattern begins at a place where something stands that is none of these
abbrev pub NoneBeginsOutside : Places → List ℕ → Type 0
NoneBeginsOutside places pattern = (s : List ℕ) → IsUtf8 s → (place : ℕ)
    → is_in places (start_at s place) ≡ false
    → pattern_found pattern s place ≡ pattern_found pattern s (place + 1)

-- no match of the pattern begins but where a word begins or ends
abbrev pub BeginsAtEdges : List ℕ → Type 0
BeginsAtEdges pattern = (s : List ℕ) → (place : ℕ) → is_word_edge s place ≡ false
    → pattern_found pattern s place ≡ pattern_found pattern s (place + 1)

-- no match of the pattern begins but where a line begins
abbrev pub BeginsAtLines : List ℕ → Type 0
BeginsAtLines pattern = (s : List ℕ) → (place : ℕ) → anchor_holds s Anchor.LineStart place ≡ false
    → pattern_found pattern s place ≡ pattern_found pattern s (place + 1)

-- no match of the pattern begins in white space, or else in a word, that has something after it
-- which is none of these
abbrev pub NoneBeginsBefore : Bool → Places → List ℕ → Type 0
NoneBeginsBefore blank places pattern = (s : List ℕ) → IsUtf8 s → (place e : ℕ)
    → IsRunUpTo blank s place e → is_in places (start_at s e) ≡ false
    → pattern_found pattern s place ≡ pattern_found pattern s (place + 1)

-- ---- For proofs and private functions alone ----

-- the tree has no match but where a word begins or ends
abbrev pub IsAtEdges : Tree → Type 0
IsAtEdges tree = (s : List ℕ) (place : ℕ) (g : Groups) → is_word_edge s place ≡ false
    → matches s tree place g ≡ []

-- the tree has no match but where a line begins
abbrev pub IsAtLines : Tree → Type 0
IsAtLines tree = (s : List ℕ) (place : ℕ) (g : Groups)
    → anchor_holds s Anchor.LineStart place ≡ false → matches s tree place g ≡ []
