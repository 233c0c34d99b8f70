-- The states at the start of a line, and pasts that lead there.
use Rattle.std.specs.Prelude.{◌≡◌, ◌⊎◌, ℕ, Bool, true, false, List, [], ◌++◌}
use Rattle.syntect_buffer.specs.syntect_style.Pieces.{path_of}
use Rattle.syntect_buffer.specs.syntect_theme.declared.theme.Theme.{Theme}
use Rattle.syntect_buffer.specs.syntect_parsing.Line.{Answer}
use Rattle.syntect_buffer.specs.syntect_parsing.States.{standing}
use Rattle.syntect_buffer.specs.syntect_grammar_loader.declared.definition.SyntaxDefinition.{SyntaxDefinition}
use Rattle.syntect_buffer.specs.syntect_grammar_contexts.declared.syntax_reference.SyntaxReference.{SyntaxReference}
use Rattle.syntect_buffer.specs.syntect_grammar.declared.syntax_set.SyntaxSet.{SyntaxSet}
use Rattle.syntect_buffer.specs.syntect_easy.Leads.{Past, IsPast, styles_of, reader_of}
use Rattle.syntect_buffer.specs.syntect_easy.declared.easy.HighlightLines.{HighlightLines}
use Rattle.syntect_buffer.specs.declared.states.LineStates.{LineStates}

-- ---- What invariants alone rest on ----

-- readers that stand alike, and styles at the same stack
pub record StandSame (a b : LineStates) : Type 0 where
  pub reader : standing a.reader ≡ standing b.reader
  pub styles : path_of a.styles ≡ path_of b.styles

-- a highlighter with this past holds these states
pub record Holds (past : Past) (set : SyntaxSet) (s : LineStates) : Type 0 where
  pub holder : HighlightLines
  pub is_past : IsPast past set holder
  pub styles : styles_of holder ≡ s.styles
  pub reader : standing (reader_of holder) ≡ standing s.reader

-- the past before the first line
abbrev pub no_lines : List SyntaxDefinition → Theme → SyntaxReference → Past
no_lines definitions theme syntax =
    record { definitions = definitions; theme = theme; syntax = syntax; lines = []; answers = [] }

-- ---- For proofs and private functions alone ----

-- What a line leaves: the states that were there before it, where those after it stand alike, or
-- else those after it. A mark says which.
abbrev pub IsLeft : LineStates → LineStates → LineStates → Bool → Type 0
IsLeft before after left alike =
    ((left ≡ before) × StandSame before after × (alike ≡ true))
    ⊎ ((left ≡ after) × ¬ (StandSame before after) × (alike ≡ false))

-- the past with these lines and their answers more
abbrev pub and_all : Past → List (List ℕ) → List Answer → Past
and_all past lines answers =
    record past { lines = past.lines ++ lines; answers = past.answers ++ answers }
