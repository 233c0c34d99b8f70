-- What a turn has found while it goes through the chain.
use Rattle.std.specs.Prelude.{◌≡◌, ℕ, suc, ◌+◌, ◌≤◌, ◌==◌, ◌&&◌, nat_le, nat_lt, not, Bool, true, false, List, length, find, Option, Some, None, if◌then◌else◌}
use Rattle.std.specs.List.{list_all, list_any}
use Rattle.std.specs.Option.{option_map}
use Rattle.syntect_reading_choice.specs.Turn.{Live, Choice, Take, Skip, End, char_len, loops}
use Rattle.syntect_reading_choice.specs.ChoiceViews.{live_from}
use Rattle.syntect_reading_choice.specs.declared.position.Position.{Position}
use Rattle.syntect_reading_choice.specs.syntect_grammar_contexts.Substitution.{Groups}
use Rattle.syntect_reading_choice.specs.declared.search.Best.{Best}
use Rattle.syntect_reading_choice.specs.declared.search.Candidate.{Candidate}

-- what a turn does whose matches of least start are these, if there are any, by the first of them
-- that doesn't loop
abbrev pub decided : List ℕ → ℕ → Bool → Option Live → Choice
decided line place is_match (Some m) = Take m
decided line place true None =
    if nat_lt (place + char_len line place) (length line) then Skip else End
decided line place false None = End

abbrev pub choice_by : List ℕ → ℕ → Best → Choice
choice_by line place b = decided line place b.is_match (option_map (live_from line place) b.candidate)

-- these are the groups of the match, if there is one
abbrev pub AreGroupsOf : List ℕ → ℕ → Option Candidate → Groups → Type 0
AreGroupsOf line place o groups = (m : Candidate) → o ≡ Some m → groups ≡ (live_from line place m).groups

-- ---- For proofs and private functions alone ----

-- The best of these matches that begin up to the last place: none begins before its start; where
-- one begins there, it has the first of them that doesn't loop; and else none begins up
-- to the last place.
pub record IsBest (line : List ℕ) (p : Position) (last : ℕ) (ms : List Live)
    (b : Best) : Type 0 where
  pub least : list_all (λ k. nat_le b.start k.start) ms ≡ true
  pub first : b.is_match ≡ true → (list_any (λ k. k.start == b.start) ms ≡ true)
      × (find (λ k. (k.start == b.start) && not (loops p k)) ms
      ≡ option_map (live_from line p.place) b.candidate)
  pub none : b.is_match ≡ false → (b.start ≡ suc last) × (b.candidate ≡ None)
  pub near : b.is_match ≡ true → b.start ≤ last
  pub bound : b.start ≤ suc last
  pub from : p.place ≤ b.start
