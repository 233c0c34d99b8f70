-- What a whole turn makes, once its choice is made.
use Rattle.std.proofs.Common.{◌≡◌, ℕ, ◌+◌, ◌-◌, ◌≤◌, ◌<◌, true, List, [], length, replicate, refl, sym, ◌∙◌, ap, arith}
use Rattle.std.specs.Str.{IsUtf8, IsCharBoundary}
use Rattle.std.proofs.lemmas.List.{append-nil}
use Rattle.syntect_parsing.specs.syntect_scope.declared.stack.ScopeStackOp.{ScopeStackOp}
use Rattle.syntect_reading_choice.specs.Engine.{dialect}
use Rattle.syntect_reading_choice.specs.Chain.{last}
use Rattle.syntect_parsing.specs.Turn.{skipped, trimmed}
use Rattle.syntect_reading_choice.specs.Turn.{Skip, End, char_len}
use Rattle.syntect_parsing.specs.Visible.{visible}
use Rattle.syntect_parsing.specs.Orderly.{IsOrderlyTurn}
use Rattle.syntect_parsing.specs.Line.{Step, step, turn, turn_on}
use Rattle.syntect_parsing.specs.Step.{MakesStep, EndsLine, Turns, RefusesStep, RefusesTurn}
use Rattle.syntect_reading_choice.proofs.Places.{past_here}
use Rattle.syntect_parsing.proofs.ShowLaws.{moves_on}
use Rattle.syntect_parsing.specs.syntect_grammar.declared.syntax_set.SyntaxSet.{SyntaxSet}
use Rattle.syntect_reading_choice.specs.declared.position.Position.{Position}
use Rattle.syntect_parsing.specs.syntect_grammar_contexts.declared.error.ParsingError.{ParsingError}

module _ (set : SyntaxSet) (line : List ℕ) (p q : Position) (t : q ≡ trimmed p) where
  turn_is : turn dialect set line p ≡ turn_on dialect set line q (last q.levels)
  unfolding turn
  turn_is = rw t refl

  pub turn_refused : (e : ParsingError) → RefusesStep (turn_on dialect set line q (last q.levels)) e → RefusesTurn dialect set line p e
  turn_refused e h = rw turn_is h

  pub turn_refused_by : (s : Step) (e : ParsingError) → turn_on dialect set line q (last q.levels) ≡ s → RefusesStep s e → RefusesTurn dialect set line p e
  turn_refused_by s e k h = rw (turn_is, k) h

  pub turn_makes : (orderly : Type 0) (s : Step) (next : Position) (old new : List (ℕ × ScopeStackOp)) → (IsOrderlyTurn dialect set line p → orderly) → turn_on dialect set line q (last q.levels) ≡ s → MakesStep orderly set line s q next old new
      → Turns dialect set line p next old new true
  turn_makes orderly s next old new so k h =
      let m : MakesStep orderly set line s (trimmed p) next old new = rw t at h in
      record {
        bytes = m.bytes;
        made = m.made;
        goes = turn_is ∙ k ∙ m.goes;
        added = m.added;
        shows = λ o. m.shows (so o);
        order = m.order;
        apply = m.apply;
        within = m.within;
        boundary = m.boundary;
      }

  pub turn_ends : (ops : List (ℕ × ScopeStackOp)) → p.place ≤ length line → turn_on dialect set line q (last q.levels) ≡ step dialect set line q End → EndsLine dialect set line p q ops ops
  turn_ends ops l k = record {
    bytes = replicate (length line - q.place) (visible set q.levels);
    ends = turn_is ∙ k;
    same = ap (λ (x : Position). x.levels) t;
    unchanged = refl;
    shows = λ r before h. rw t (moves_on set p.levels r p.place (length line) before l h);
  }

pub skip_makes : (set : SyntaxSet) (line : List ℕ) (p : Position) (ops : List (ℕ × ScopeStackOp)) → IsUtf8 line → IsCharBoundary line p.place → p.place + char_len line p.place < length line
    → MakesStep (Unit {0}) set line (step dialect set line p Skip) p (skipped line p) ops ops
skip_makes set line p ops u b l = record {
  bytes = replicate (char_len line p.place) (visible set p.levels);
  made = [];
  goes = refl;
  added = sym (append-nil ops);
  shows = λ o r before h. rw same at (moves_on set p.levels r p.place (p.place + char_len line p.place) before (omega arith) h);
  order = omega arith;
  apply = λ r h. (tt, h);
  within = omega arith;
  boundary = past_here line p.place u b l;
}
  where
    same : (p.place + char_len line p.place) - p.place ≡ char_len line p.place
    same = omega arith
