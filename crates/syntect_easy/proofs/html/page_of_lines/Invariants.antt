use Rattle.std.proofs.Common.{◌≡◌, List, string_bytes}
use Rattle.std.specs.Prelude.{[]}
use Rattle.std.specs.declared.io.Error.{Error as IoError}
use Rattle.syntect_easy.specs.syntect_grammar_loader.declared.definition.SyntaxDefinition.{SyntaxDefinition}
use Rattle.syntect_easy.specs.syntect_grammar_contexts.declared.syntax_reference.SyntaxReference.{SyntaxReference}
use Rattle.syntect_writers.specs.Spans.{background_of}
use Rattle.syntect_writers.specs.declared.html.IncludeBackground.TheVariants.{IfDifferent}
use Rattle.syntect_easy.specs.Built.{IsSyntaxOfBuilt}
use Rattle.syntect_easy.specs.Leads.{Leads}
use Rattle.syntect_easy.proofs.ReaderLaws.{IsSoFarOfBytes}
use Rattle.syntect_easy.proofs.html.page_of_lines.Given as goal

-- the writer's ground is the theme's, the page has the lines so far, and the reader's faults are still
-- those of the one that came in
abbrev pub invariant-loop : goal.invariant-loop
invariant-loop g l =
    (l.spans ≡ IfDifferent (background_of l.theme))
    × ((definitions : List SyntaxDefinition) (syntax : SyntaxReference) → IsSyntaxOfBuilt l.ss syntax definitions → Leads l.ss l.theme syntax [] [] l.fn.highlighter
    → IsSoFarOfBytes l.ss l.theme syntax (g.R.ReadLines.ahead l.fn.reader) (g.R.ReadLines.ahead l.reader) l.bytes.items (string_bytes l.page) l.highlighter)
    × ((e : IoError) → g.R.ReadLines.failed l.reader e → g.R.ReadLines.failed l.fn.reader e)
