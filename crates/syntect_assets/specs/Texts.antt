-- The text that shows another one, in each format.
use Rattle.std.specs.Prelude.{◌≡◌, ℕ, ◌+◌, List, true, [], ◌∷◌, ◌++◌, Option, Some, None, codes}
use Rattle.std.specs.Borrow.{Bor}
use Rattle.std.specs.List.{flat_map}
use Rattle.syntect_assets.specs.syntect_base.declared.limits.Limits.{Limits}
use Rattle.syntect_assets.specs.syntect_grammar_contexts.declared.syntax_reference.SyntaxReference.{SyntaxReference}
use Rattle.syntect_assets.specs.syntect_grammar.declared.syntax_set.SyntaxSet.{SyntaxSet}
use Rattle.syntect_assets.specs.syntect_parsing.declared.within.LineLimit.{LineLimit}
use Rattle.syntect_assets.specs.syntect_theme.declared.style.Style.{Style}
use Rattle.syntect_assets.specs.syntect_theme.declared.theme.Theme.{Theme}
use Rattle.syntect_assets.specs.syntect_writers.Spans.{line_text, opening, closing, background_of}
use Rattle.syntect_assets.specs.syntect_writers.Terminal.{terminal_text}
use Rattle.syntect_assets.specs.syntect_writers.declared.html.IncludeBackground.TheVariants.{IfDifferent}
use Rattle.syntect_assets.specs.Screen.{screen_text}
use Rattle.syntect_easy.specs.PlainLines.{AreLinesOf, Shown, first_plain, pieces_in}
use Rattle.syntect_assets.specs.declared.format.Format.{Format}
use Rattle.syntect_assets.specs.declared.format.Format.TheVariants.{Html, Terminal, Screen}
use Rattle.syntect_assets.specs.declared.writer.Ground.{Ground}

-- how the lines of a format are written: spans give the colour behind them where it isn't the one
-- behind the theme's text
abbrev pub ground_of : Format → Theme → Ground
ground_of Html theme = Ground.Spans (IfDifferent (background_of theme))
ground_of Terminal theme = Ground.Terminal
ground_of (Screen colors) theme = Ground.Screen colors

-- what stands before the lines
abbrev pub front_of : Format → Theme → List ℕ
front_of Html theme = opening theme
front_of Terminal theme = []
front_of (Screen colors) theme = []

-- a line: as spans, or each piece with its colours for a terminal or a screen
abbrev pub line_of : Ground → List (Style × Bor (List ℕ)) → List ℕ
line_of (Ground.Spans spans) pieces = line_text spans pieces
line_of Ground.Terminal pieces = terminal_text true pieces
line_of (Ground.Screen colors) pieces = screen_text colors pieces

-- the terminal's own colours again
abbrev pub reset : List ℕ
reset = 27 ∷ codes "[0m"

-- what stands after the lines: where the colours behind them were written too, a newline as well
abbrev pub end_of : Ground → List ℕ
end_of (Ground.Spans spans) = closing
end_of Ground.Terminal = reset ++ codes "\n"
end_of (Ground.Screen colors) = reset

-- the text of lines
abbrev pub lines_text : Ground → List Shown → List ℕ
lines_text form lines = flat_map (λ line. line_of form (pieces_in line)) lines

-- All is the text's lines, each read within the limits or plain, between what stands before and
-- after them; `first` is the first plain line, by its number from one, and its limit.
pub record IsWritten (limits : Limits) (format : Format) (set : SyntaxSet) (theme : Theme)
    (syntax : SyntaxReference) (text all : List ℕ) (first : Option (ℕ × LineLimit)) : Type 0 where
  pub lines : List Shown
  pub are_lines : AreLinesOf limits set theme syntax text lines
  pub written : all
      ≡ front_of format theme
      ++ (lines_text (ground_of format theme) lines ++ end_of (ground_of format theme))
  pub first_is : first ≡ first_plain 0 lines

-- the first plain line of some, with one more that comes after so many lines
abbrev pub first_of : Option (ℕ × LineLimit) → ℕ → Option LineLimit → Option (ℕ × LineLimit)
first_of (Some line) before limit = Some line
first_of None before (Some limit) = Some (before + 1, limit)
first_of None before None = None
