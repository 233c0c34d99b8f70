-- A reading that is computed: so many turns at most.
use Rattle.std.proofs.Common.{◌≡◌, ℕ, zero, suc, ◌+◌, List, ◌++◌, refl}
use Rattle.syntect_laws.specs.syntect_reading_choice.Engine.{Engine}
use Rattle.syntect_parsing.specs.Scopes.{Scopes}
use Rattle.syntect_parsing.specs.Line.{Step, Goes, Ends, Refused, turn, Reads, ends, goes, Refuses, now, later}
use Rattle.syntect_laws.specs.syntect_grammar.declared.syntax_set.SyntaxSet.{SyntaxSet}
use Rattle.syntect_laws.specs.syntect_reading_choice.declared.position.Position.{Position}
use Rattle.syntect_parsing.specs.declared.parser.Standing.{Standing}
use Rattle.syntect_laws.specs.syntect_grammar_contexts.declared.error.ParsingError.{ParsingError}

pub data Outcome : Type 0 where
  Accepts : List Scopes → Standing → ℕ → Outcome
  RefusedWith : ParsingError → ℕ → Outcome
  Unfinished : Outcome

abbrev pub onto : List Scopes → Outcome → Outcome
onto bytes (Accepts rest after n) = Accepts (bytes ++ rest) after (n + 1)
onto bytes (RefusedWith e n) = RefusedWith e (n + 1)
onto bytes Unfinished = Unfinished

abbrev pub from_step : (Position → Outcome) → Step → Outcome
from_step next (Goes bytes q) = onto bytes (next q)
from_step next (Ends bytes after) = Accepts bytes after 1
from_step next (Refused e) = RefusedWith e 1

module _ (engine : Engine) (set : SyntaxSet) (line : List ℕ) where
  abbrev pub run : ℕ → Position → Outcome
  run zero p = Unfinished
  run (suc k) p = from_step (run k) (turn engine set line p)

  abbrev pub Means : Position → Outcome → Type 0
  Means p (Accepts bytes after n) = Reads engine set line p bytes after n
  Means p (RefusedWith e n) = Refuses engine set line p e n
  Means p Unfinished = Unit {0}

  onto_sound : (p q : Position) (bytes : List Scopes) (o : Outcome) → turn engine set line p ≡ Goes bytes q → Means q o → Means p (onto bytes o)
  onto_sound p q bytes (Accepts rest after n) e h = goes e h
  onto_sound p q bytes (RefusedWith r n) e h = later e h
  onto_sound p q bytes Unfinished e h = tt

  step_sound : (p : Position) (next : Position → Outcome) → ((q : Position) → Means q (next q)) → (s : Step) → turn engine set line p ≡ s → Means p (from_step next s)
  step_sound p next h (Goes bytes q) e = onto_sound p q bytes (next q) e (h q)
  step_sound p next h (Ends bytes after) e = ends e
  step_sound p next h (Refused r) e = now e

  pub sound : (k : ℕ) (p : Position) → Means p (run k p)
  sound zero p = tt
  sound (suc k) p = step_sound p (run k) (sound k) (turn engine set line p) refl
