-- The match that a turn takes, as it was searched.
use Rattle.std.proofs.Common.{◌≡◌, ℕ, Bool, true, false, List, [], Option, Some, None, refl, sym, ap, ◌∙◌, if◌then◌else◌}
use Rattle.std.specs.Prelude.{slice_get, unwrap_or}
use Rattle.std.specs.Option.{option_map}
use Rattle.std.specs.Str.{IsUtf8}
use Rattle.syntect_parsing.specs.syntect_pattern.Pattern.{pattern_found}
use Rattle.syntect_parsing.specs.syntect_grammar_contexts.Substitution.{Groups, AreOnBoundaries}
use Rattle.syntect_reading_choice.specs.Best.{AreGroupsOf, choice_by, decided}
use Rattle.syntect_reading_choice.specs.ChoiceViews.{live_from, text_of}
use Rattle.syntect_reading_choice.specs.Engine.{dialect}
use Rattle.syntect_reading_choice.specs.Found.{FindsOnBoundaries}
use Rattle.syntect_reading_choice.specs.Turn.{Live, Take, Skip, End}
use Rattle.syntect_reading_choice.specs.declared.search.Best.{Best}
use Rattle.syntect_reading_choice.specs.declared.search.Candidate.{Candidate}
use Rattle.syntect_parsing.specs.MatchViews.{live_with}

-- with the groups of its search it is the match that the search found
pub seen_with : (line : List ℕ) (place : ℕ) (c : Candidate) (g : Groups) → g ≡ (live_from line place c).groups → live_from line place c ≡ live_with c g
seen_with line place c g e = ap (live_with c) (sym e)

neither : (b : Bool) (m : Live) → Take m ≡ (if b then Skip else End) → ⊥
neither true m e = cc
neither false m e = cc

-- the groups of the best match are those of the one that is taken
pub groups_taken : (line : List ℕ) (place : ℕ) (b : Best) (c : Candidate) (g : Groups) → Take (live_from line place c) ≡ choice_by line place b → AreGroupsOf line place b.candidate g
    → g ≡ (live_from line place c).groups
groups_taken line place b c g e h = by b.is_match b.candidate e h
  where
    by : (t : Bool) (o : Option Candidate) → Take (live_from line place c) ≡ decided line place t (option_map (live_from line place) o) → AreGroupsOf line place o g → g ≡ (live_from line place c).groups
    by t (Some k) f groups = let same : live_from line place k ≡ live_from line place c = cc in groups k refl ∙ ap (λ (m : Live). m.groups) same
    by true None f groups = absurd (neither _ (live_from line place c) f)
    by false None f groups = cc

pub on_boundaries : FindsOnBoundaries dialect → (line : List ℕ) → IsUtf8 line → (place : ℕ) (c : Candidate) (g : Groups) → g ≡ (live_from line place c).groups → AreOnBoundaries line g
on_boundaries law line u place c g e = by (pattern_found (text_of c) line place) refl e
  where
    by : (o : Option Groups) → pattern_found (text_of c) line place ≡ o → g ≡ unwrap_or o [] → AreOnBoundaries line g
    by None f same n at is = let k : slice_get {X = Option (ℕ × ℕ)} [] n ≡ Some (Some at) = rw same at is in cc
    by (Some groups) f same n at is = law (text_of c) line place groups u f n at (rw same at is)
