-- The patterns of a context's walk, as a set keeps them.
use Rattle.std.specs.Prelude.{◌≡◌, ℕ, ◌<◌, ◌≤◌, true, false, List, [], length, Option, None, IfSome, slice_index_or}
use Rattle.std.specs.List.{All, filter_map}
use Rattle.std.specs.Option.{option_and_then}
use Rattle.syntect_grammar.specs.syntect_pattern_table.Starts.{is_in}
use Rattle.syntect_grammar.specs.syntect_regex.Begins.{BeginsAtEdges, BeginsAtLines, NoneBeginsBefore, NoneBeginsOutside}
use Rattle.syntect_grammar.specs.syntect_grammar_contexts.Contexts.{match_of}
use Rattle.syntect_grammar.specs.Contexts.{context_at}
use Rattle.syntect_grammar.specs.Patterns.{patterns_of}
use Rattle.syntect_grammar.specs.Walk.{FindsSame}
use Rattle.syntect_grammar.specs.syntect_grammar_contexts.declared.context.ContextId.{ContextId}
use Rattle.syntect_grammar.specs.syntect_grammar_contexts.declared.context.MatchPattern.{MatchPattern}
use Rattle.syntect_grammar_lists.specs.declared.flats.Flat.{Flat}
use Rattle.syntect_grammar.specs.declared.syntax_set.SyntaxSet.{SyntaxSet}

-- the match pattern that stands at the place, if there is one
abbrev pub pattern_at : SyntaxSet → Flat → Option MatchPattern
pattern_at set flat = option_and_then (λ c. match_of c flat.index) (context_at set flat.context)

-- nothing is known of where the pattern can begin
pub record IsOpen (flat : Flat) : Type 0 where
  pub begins : (x : ℕ) → is_in flat.begins x ≡ true
  pub words : (x : ℕ) → is_in flat.words x ≡ true
  pub blanks : (x : ℕ) → is_in flat.blanks x ≡ true
  pub edges : flat.at_edges ≡ false
  pub lines : flat.at_lines ≡ false

-- What is kept of the pattern at the place is true of it; and of one with back references into an
-- opening match, in place of which something else is searched, nothing is known.
abbrev pub Tells : SyntaxSet → Flat → Type 0
Tells set flat =
    IfSome (pattern_at set flat)
    (λ m. (flat.has_captures ≡ m.has_captures) × NoneBeginsOutside flat.begins m.regex
    × NoneBeginsBefore false flat.words m.regex × NoneBeginsBefore true flat.blanks m.regex
    × (flat.at_edges ≡ true → BeginsAtEdges m.regex)
    × (flat.at_lines ≡ true → BeginsAtLines m.regex)
    × (flat.has_captures ≡ true → IsOpen flat))

-- Each test finds the same first pattern at these places as in the context's walk, there are no
-- more of them than that has patterns, and what is kept of them is true.
pub record AreFlatsOf (set : SyntaxSet) (id : ContextId) (flats : List Flat) : Type 0 where
  pub finds : FindsSame (filter_map (pattern_at set) flats) (patterns_of set id)
  pub few : length flats ≤ length (patterns_of set id)
  pub tells : All (Tells set) flats

-- ---- What invariants alone rest on ----

-- those that a table holds for a context, if it holds any
abbrev pub flats_at : List (List (Option (List Flat))) → ContextId → Option (List Flat)
flats_at table id = slice_index_or (slice_index_or table id.syntax_index []) id.context_index None

-- the lists that are kept of all contexts
abbrev pub IsTableOf : SyntaxSet → List (List (Option (List Flat))) → Type 0
IsTableOf set table = (id : ContextId) → IfSome (flats_at table id) (AreFlatsOf set id)

-- ---- For proofs and private functions alone ----

-- the lists that are kept of the contexts of the syntax of this index
abbrev pub AreListsOf : SyntaxSet → ℕ → List (Option (List Flat)) → Type 0
AreListsOf set index lists = (k : ℕ) → k < length lists
    → IfSome (slice_index_or lists k None)
    (AreFlatsOf set (record { syntax_index = index; context_index = k }))
