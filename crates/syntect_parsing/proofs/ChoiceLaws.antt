-- What the reader chooses stands in the line.
use Rattle.std.proofs.Common.{◌≡◌, ℕ, true, List, [], Option, Some, None, refl, sym, ◌∙◌, ap}
use Rattle.std.specs.Option.{option_map_or}
use Rattle.std.specs.Str.{IsUtf8}
use Rattle.syntect_reading_choice.specs.Engine.{dialect}
use Rattle.syntect_reading_choice.specs.Chain.{Member, chain, last}
use Rattle.syntect_parsing.specs.Turn.{trimmed}
use Rattle.syntect_reading_choice.specs.Turn.{Live, Take, End, live, winner}
use Rattle.syntect_parsing.specs.Line.{Step, step}
use Rattle.syntect_parsing.specs.syntect_grammar.declared.syntax_set.SyntaxSet.{SyntaxSet}
use Rattle.syntect_reading_choice.specs.Found.{FindsInText}
use Rattle.syntect_parsing.specs.Refusals.{Picks}
use Rattle.syntect_parsing.specs.Orderly.{is_orderly, IsOrderlyTurn}
use Rattle.syntect_parsing.specs.syntect_grammar.Contexts.{context_at}
use Rattle.syntect_parsing.specs.syntect_grammar_contexts.declared.context.Context.{Context}
use Rattle.syntect_reading_choice.specs.declared.level.Level.{Level}
use Rattle.syntect_parsing.specs.MatchViews.{StandsChosen}
use Rattle.syntect_reading_choice.specs.ChoiceViews.{choice_view, live_in}
use Rattle.syntect_reading_choice.proofs.Places.{winner_ends, IsChoiceOnBoundary}
use Rattle.syntect_reading_choice.specs.declared.position.Position.{Position}
use Rattle.syntect_reading_choice.specs.Best.{choice_by}
use Rattle.syntect_reading_choice.specs.declared.search.Best.{Best}
use Rattle.syntect_reading_choice.specs.declared.search.Choice.{Choice}
use Rattle.syntect_reading_choice.specs.declared.search.Choice.TheVariants as code

by_kind : (finds : FindsInText dialect) (line : List ℕ) (u : IsUtf8 line) (place : ℕ) (c : Choice) → IsChoiceOnBoundary dialect finds line u place (choice_view line place c) → StandsChosen line place c
by_kind finds line u place (code.Take m) h = h
by_kind finds line u place (code.Skip next) h = h
by_kind finds line u place code.End h = h

-- the matches that a turn has to choose from are those of some members
members_of : (set : SyntaxSet) (line : List ℕ) (p : Position) → (members : List Member) × (live_in dialect set line p ≡ live dialect line p members)
members_of set line p = on (last p.levels)
  where
    within : (top : Level) (o : Option Context) → (members : List Member) × (option_map_or (λ c. live dialect line p (chain set p top c)) o [] ≡ live dialect line p members)
    within top None = ([], refl)
    within top (Some c) = (chain set p top c, refl)

    on : (o : Option Level) → (members : List Member) × (option_map_or (λ top. option_map_or (λ c. live dialect line p (chain set p top c)) (context_at set top.context) []) o [] ≡ live dialect line p members)
    on None = ([], refl)
    on (Some top) = within top (context_at set top.context)

pub choice_stands : FindsInText dialect → (set : SyntaxSet) (line : List ℕ) → IsUtf8 line → (p : Position) (c : Choice)
    → choice_view line p.place c ≡ winner line p (live_in dialect set line p) → StandsChosen line p.place c
choice_stands finds set line u p c f =
    let k = members_of set line p in
    by_kind finds line u p.place c (rw (f, k.1) (winner_ends dialect finds line u p k.0))

-- a match that was taken is the one that the turn picks
module _ (set : SyntaxSet) (line : List ℕ) (p : Position) (m : Live) where
  picked_in : (top : Level) (o : Option Context) → last p.levels ≡ Some top → context_at set top.context ≡ o
      → winner line (trimmed p) (option_map_or (λ c. live dialect line (trimmed p) (chain set (trimmed p) top c)) o []) ≡ Take m → Picks dialect set line p m
  picked_in top None e f w = let k : End ≡ Take m = w in cc
  picked_in top (Some c) e f w = record { top = top; context = c; on_top = e; has_context = f; wins = w }

  picked_on : (o : Option Level) → last p.levels ≡ o
      → winner line (trimmed p) (option_map_or (λ top. option_map_or (λ c. live dialect line (trimmed p) (chain set (trimmed p) top c)) (context_at set top.context) []) o []) ≡ Take m → Picks dialect set line p m
  picked_on None e w = let k : End ≡ Take m = w in cc
  picked_on (Some top) e w = picked_in top (context_at set top.context) e refl w

  picked : winner line (trimmed p) (live_in dialect set line (trimmed p)) ≡ Take m → Picks dialect set line p m
  picked w = picked_on (last p.levels) refl w

-- where the turn is orderly, so is the match that was taken
pub taken_orderly : (set : SyntaxSet) (line : List ℕ) (p q : Position) (c : Choice) (m : Live) → q ≡ trimmed p
    → choice_view line q.place c ≡ winner line q (live_in dialect set line q) → choice_view line q.place c ≡ Take m → IsOrderlyTurn dialect set line p → is_orderly set q.levels m.pattern.operation ≡ true
taken_orderly set line p q c m t f g o =
    let w : winner line q (live_in dialect set line q) ≡ Take m = sym f ∙ g in
    rw t (o m (picked set line p m (rw t at w)))

-- what was chosen is what the step takes
pub step_chosen : (set : SyntaxSet) (line : List ℕ) (p : Position) (b : Best) (c : Choice) (s : Step) → s ≡ step dialect set line p (choice_by line p.place b)
    → choice_view line p.place c ≡ choice_by line p.place b → s ≡ step dialect set line p (choice_view line p.place c)
step_chosen set line p b c s k f = k ∙ ap (step dialect set line p) (sym f)
