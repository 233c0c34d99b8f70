-- Each turn of a text begins on a character boundary.
use Rattle.std.proofs.Common.{ℕ, List, Option, Some, None}
use Rattle.std.specs.Str.{IsUtf8, IsCharBoundary}
use Rattle.std.proofs.lemmas.Str.{IsCharBoundary-start}
use Rattle.syntect_laws.specs.syntect_grammar.Contexts.{context_at}
use Rattle.syntect_laws.specs.syntect_reading_choice.Chain.{last, chain, prototypes_in}
use Rattle.syntect_laws.specs.syntect_reading_choice.Engine.{Engine}
use Rattle.syntect_laws.specs.syntect_reading_choice.declared.position.Position.{Position}
use Rattle.syntect_parsing.specs.Turn.{position_after, trimmed}
use Rattle.syntect_laws.specs.syntect_reading_choice.Turn.{Live, Choice, Take, Skip, End, live, winner, missing, refusal}
use Rattle.syntect_parsing.specs.Scopes.{scopes_passed}
use Rattle.syntect_parsing.specs.Line.{Step, Goes, Ends, Refused, turn, turn_on, turn_in, step, unless_refused, at_start, Reaches, here, further}
use Rattle.syntect_laws.specs.syntect_reading_choice.Found.{FindsInText}
use Rattle.syntect_laws.specs.ReadingLaws.{PlacesAreBoundaries}
use Rattle.syntect_laws.proofs.syntect_reading_choice_proofs.Places.{past_here, winner_ends, IsChoiceOnBoundary}
use Rattle.syntect_laws.specs.syntect_grammar_contexts.declared.context.Context.{Context}
use Rattle.syntect_laws.specs.syntect_grammar.declared.syntax_set.SyntaxSet.{SyntaxSet}
use Rattle.syntect_laws.specs.syntect_reading_choice.declared.level.Level.{Level}
use Rattle.syntect_laws.specs.syntect_grammar_contexts.declared.error.ParsingError.{ParsingError}

module _ (engine : Engine) (finds : FindsInText engine) (line : List ℕ) (u : IsUtf8 line) where
  abbrev GoesToBoundary : Step → Type 0
  GoesToBoundary (Goes bytes q) = IsCharBoundary line q.place
  GoesToBoundary (Ends bytes s) = Unit {0}
  GoesToBoundary (Refused e) = Unit {0}

  unless_ends : (o : Option ParsingError) (s : Step) → GoesToBoundary s → GoesToBoundary (unless_refused o s)
  unless_ends None s h = h
  unless_ends (Some e) s h = tt

  step_ends : (set : SyntaxSet) (p : Position) (choice : Choice) → IsCharBoundary line p.place → IsChoiceOnBoundary engine finds line u p.place choice → GoesToBoundary (step engine set line p choice)
  step_ends set p (Take m) b h = unless_ends (refusal set m.pattern) (Goes (scopes_passed engine set p.levels p.place m) (position_after set line p m)) h.ends
  step_ends set p Skip b h = past_here line p.place u b h
  step_ends set p End b h = tt

  turn_in_ends : (set : SyntaxSet) (p : Position) (top : Level) (c : Option Context) → IsCharBoundary line p.place → GoesToBoundary (turn_in engine set line p top c)
  turn_in_ends set p top None b = tt
  turn_in_ends set p top (Some c) b =
      let ms : List Live = live engine line p (chain set p top c) in
      unless_ends (missing set (prototypes_in p c)) (step engine set line p (winner line p ms))
      (step_ends set p (winner line p ms) b (winner_ends engine finds line u p (chain set p top c)))

  turn_on_ends : (set : SyntaxSet) (p : Position) (top : Option Level) → IsCharBoundary line p.place → GoesToBoundary (turn_on engine set line p top)
  turn_on_ends set p None b = tt
  turn_on_ends set p (Some top) b = turn_in_ends set p top (context_at set top.context) b

  turn_ends : (set : SyntaxSet) (p : Position) → IsCharBoundary line p.place → GoesToBoundary (turn engine set line p)
  unfolding turn
  turn_ends set p b = turn_on_ends set (trimmed p) (last p.levels) b

  reaches_boundary : (set : SyntaxSet) (p q : Position) → IsCharBoundary line p.place → Reaches engine set line p q → IsCharBoundary line q.place
  reaches_boundary set p q b here = b
  reaches_boundary set p q b (further {q = r} {bytes = bytes} e h) =
      let k : GoesToBoundary (Goes bytes r) = rw e at (turn_ends set p b) in reaches_boundary set r q k h

pub places_are_boundaries : PlacesAreBoundaries
places_are_boundaries engine finds set line state p u h = reaches_boundary engine finds line u set (at_start state) p (IsCharBoundary-start line u) h
