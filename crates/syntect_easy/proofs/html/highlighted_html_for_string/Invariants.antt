use Rattle.std.proofs.Common.{◌≡◌, List, string_bytes}
use Rattle.syntect_easy.specs.syntect_grammar_loader.declared.definition.SyntaxDefinition.{SyntaxDefinition}
use Rattle.syntect_writers.specs.Lines.{text_left}
use Rattle.syntect_writers.specs.Spans.{background_of}
use Rattle.syntect_writers.specs.declared.html.IncludeBackground.TheVariants.{IfDifferent}
use Rattle.syntect_easy.specs.Built.{IsSyntaxOfBuilt}
use Rattle.syntect_easy.proofs.PageLaws.{IsSoFar}
use Rattle.syntect_easy.proofs.html.highlighted_html_for_string.Given as goal

-- the writer's ground is the theme's, and the page has the lines so far
abbrev pub invariant-loop-line : goal.invariant-loop-line
invariant-loop-line l =
    (l.writer ≡ IfDifferent (background_of l.theme))
    × ((definitions : List SyntaxDefinition) → IsSyntaxOfBuilt l.ss l.syntax definitions
    → IsSoFar l.ss l.theme l.syntax l.s (text_left l.line-iterator) (string_bytes l.page) l.highlighter)
