-- How many steps the searches of a turn take at most.
use Rattle.std.specs.Prelude.{◌≡◌, ℕ, ◌+◌, ◌*◌, nat_le, Bool, true, ◌&&◌, List, Option, Some, None, if◌then◌else◌}
use Rattle.std.specs.List.{list_all}
use Rattle.syntect_reading_choice.specs.syntect_grammar_contexts.Substitution.{Opening}
use Rattle.syntect_reading_choice.specs.syntect_grammar_contexts.declared.context.MatchPattern.{MatchPattern}
use Rattle.syntect_reading_state.specs.Puts.{put_steps}
use Rattle.syntect_reading_choice.specs.syntect_regex.Bounds.{pattern_is_linear, search_bound}
use Rattle.syntect_reading_choice.specs.Chain.{Member}
use Rattle.syntect_reading_choice.specs.Engine.{dialect}
use Rattle.syntect_reading_choice.specs.Turn.{searched_text}

-- what is searched for the member is linear, and a search of it in a text so long takes at most so
-- many steps
abbrev pub is_within : ℕ → ℕ → Member → Bool
is_within long most m =
    let text = searched_text dialect m.pattern m.opening in
    pattern_is_linear text && nat_le (search_bound text long) most

-- so it is with each of these
abbrev pub AreWithin : ℕ → ℕ → List Member → Type 0
AreWithin long most ms = list_all (is_within long most) ms ≡ true

-- the most steps of so many patterns at a place: each is tried there at most once
abbrev pub place_steps : ℕ → ℕ → ℕ
place_steps patterns most = patterns * most

-- the most steps of a turn with a chain of so many patterns, in a line so long: it looks at each
-- place, and at the line's end
abbrev pub turn_steps : ℕ → ℕ → ℕ → ℕ
turn_steps patterns most long = place_steps patterns most * (long + 1)

-- the most steps that it takes to put the texts of an opening match into a pattern: none where it
-- has no back references
abbrev pub putting : MatchPattern → Option Opening → ℕ
putting m None = 0
putting m (Some o) = if m.has_captures then put_steps m.regex o else 0

-- to put the texts in takes no more for each of these
abbrev pub ArePutWithin : ℕ → List Member → Type 0
ArePutWithin put ms = list_all (λ m. nat_le (putting m.pattern m.opening) put) ms ≡ true

-- the most steps of a turn with a chain of so many patterns, with those of the texts that are put
-- in before it looks at a place
abbrev pub turn_work : ℕ → ℕ → ℕ → ℕ → ℕ
turn_work patterns most put long = patterns * put + turn_steps patterns most long

-- ---- For proofs and private functions alone ----

abbrev pub IsWithin : ℕ → ℕ → Member → Type 0
IsWithin long most m = is_within long most m ≡ true
