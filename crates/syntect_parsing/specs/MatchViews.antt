-- What matches do, as the reader of a line keeps it.
use Rattle.std.specs.Prelude.{◌≡◌, ℕ, ◌+◌, ◌-◌, ◌<◌, ◌==◌, List, [], ◌∷◌, length, map, Option, Some, if◌then◌else◌}
use Rattle.std.specs.List.{flat_map}
use Rattle.syntect_parsing.specs.syntect_scope.declared.stack.ScopeStackOp.{ScopeStackOp}
use Rattle.syntect_parsing.specs.syntect_scope.declared.stack.ScopeStackOp.TheVariants.{Pop}
use Rattle.syntect_parsing.specs.syntect_scope.Replay.{pushes}
use Rattle.syntect_parsing.specs.syntect_grammar_contexts.Substitution.{Groups, Opening}
use Rattle.syntect_parsing.specs.syntect_grammar.declared.syntax_set.SyntaxSet.{SyntaxSet}
use Rattle.syntect_reading_choice.specs.Turn.{Live, char_len}
use Rattle.syntect_reading_choice.specs.ChoiceViews.{live_from, text_of}
use Rattle.syntect_parsing.specs.Scopes.{Scopes, Capture}
use Rattle.syntect_reading_choice.specs.Found.{StandsIn}
use Rattle.syntect_parsing.specs.Operations.{capture_operations, operations, operations_of}
use Rattle.syntect_reading_choice.specs.declared.level.Level.{Level}
use Rattle.syntect_parsing.specs.syntect_grammar_contexts.declared.context.MatchOperation.{MatchOperation}
use Rattle.syntect_parsing.specs.syntect_grammar_contexts.declared.context.MatchOperation.TheVariants as op
use Rattle.syntect_reading_choice.specs.declared.position.Record.{Record}
use Rattle.syntect_parsing.specs.declared.captures.Mark.{Mark}
use Rattle.syntect_parsing.specs.declared.taken.Taken.{Taken}
use Rattle.syntect_reading_choice.specs.declared.search.Candidate.{Candidate}
use Rattle.syntect_reading_choice.specs.declared.search.Choice.{Choice}
use Rattle.syntect_reading_choice.specs.declared.search.Choice.TheVariants as code

-- ---- For proofs and private functions alone ----

-- the match that a candidate stands for, with these groups
abbrev pub live_with : Candidate → Groups → Live
live_with c groups = record {
  pattern = c.pattern.now;
  from_with_prototype = c.from_with_prototype;
  searched = text_of c;
  groups = groups;
  start = c.start;
  end = c.end;
}

-- the match that is taken
abbrev pub live_of : Taken → Live
live_of t = live_with t.candidate.now t.region.now

-- it stands in the line, not before this place, and its groups are those of a search from there on
pub record IsTakenFrom (place : ℕ) (t : Taken) : Type 0 where
  pub stands : StandsIn t.line.now place t.candidate.now.start t.candidate.now.end
  pub found : t.region.now ≡ (live_from t.line.now place t.candidate.now).groups

-- that match as the opening match of the levels that it opens
abbrev pub opening_by : Taken → Opening
opening_by t = record { region = t.region.now; line = t.line.now }

-- the record after an operation at the place itself, where there were so many levels
abbrev pub record_at : ℕ → ℕ → Option Record → MatchOperation → Option Record
record_at place height before (op.Push refs) = Some (record { place = place; height = height + 1 })
record_at place height before (op.Set refs) = before
record_at place height before op.Pop = before
record_at place height before op.None = before

-- what is taken stands in the line, not before the place, and on character boundaries; what is
-- passed over is in the line
abbrev pub StandsChosen : List ℕ → ℕ → Choice → Type 0
StandsChosen line place (code.Take m) = StandsIn line place m.now.start m.now.end
StandsChosen line place (code.Skip next) = place + char_len line place < length line
StandsChosen line place code.End = Unit {0}

-- ---- the scopes of captures, as they are put in order ----

-- a mark that pops scopes has the rank 0, one that pushes them a lower one the
-- longer its capture is
abbrev pub end_mark : Capture → ℕ × (ℕ × Scopes)
end_mark c = (c.end, (0, c.scopes))

abbrev pub start_mark : Capture → ℕ × (ℕ × Scopes)
start_mark c = (c.start, (18446744073709551615 - (c.end - c.start - 1), c.scopes))

abbrev pub marks_of : Capture → List (ℕ × (ℕ × Scopes))
marks_of c = end_mark c ∷ start_mark c ∷ []

abbrev pub seen_mark : Mark → ℕ × (ℕ × Scopes)
seen_mark m = (m.place, (m.rank, m.scopes.now))

abbrev pub mark_operations : ℕ × (ℕ × Scopes) → List (ℕ × ScopeStackOp)
mark_operations m = if m.1.0 == 0 then (m.0, Pop (length m.1.1)) ∷ [] else pushes m.0 m.1.1

abbrev pub marks_operations : List Mark → List (ℕ × ScopeStackOp)
marks_operations marks = flat_map mark_operations (map seen_mark marks)

-- these marks, in this order, are those of a match's captures
abbrev pub AreMarksOf : Candidate → List Capture → List Mark → Type 0
AreMarksOf m cs marks = marks_operations marks ≡ capture_operations m.start m.end cs

-- ---- the operations of a match, as the reader of a line keeps it ----

-- its own scopes and its captures, between what stands below them and what comes after
abbrev pub operations_between : Candidate → List Capture → List (ℕ × ScopeStackOp)
    → List (ℕ × ScopeStackOp) → List (ℕ × ScopeStackOp)
operations_between m cs below behind = operations m.start m.end m.pattern.now.scope cs below behind

-- all of them, with these levels
abbrev pub operations_by : Candidate → List Capture → SyntaxSet → List Level
    → List (ℕ × ScopeStackOp)
operations_by m cs set levels =
    operations_of m.start m.end m.pattern.now.scope cs set levels m.pattern.now.operation
