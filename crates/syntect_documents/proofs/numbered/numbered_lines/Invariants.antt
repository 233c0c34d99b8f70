use Rattle.std.proofs.Common.{◌≡◌, List, string_bytes}
use Rattle.std.specs.Prelude.{[]}
use Rattle.std.specs.declared.io.Error.{Error as IoError}
use Rattle.syntect_documents.specs.syntect_grammar_loader.declared.definition.SyntaxDefinition.{SyntaxDefinition}
use Rattle.syntect_documents.specs.syntect_grammar_contexts.declared.syntax_reference.SyntaxReference.{SyntaxReference}
use Rattle.syntect_documents.specs.syntect_easy.Built.{IsSyntaxOfBuilt}
use Rattle.syntect_documents.specs.syntect_easy.Leads.{Leads}
use Rattle.syntect_documents.specs.syntect_easy.Rows.{AreLinesSoFar}
use Rattle.syntect_documents.specs.syntect_writers.Spans.{background_of}
use Rattle.syntect_documents.specs.syntect_writers.declared.html.IncludeBackground.TheVariants.{IfDifferent}
use Rattle.syntect_documents.proofs.NumberedLaws.{IsSoFar}
use Rattle.syntect_documents.proofs.numbered.numbered_lines.Given as goal

-- the spans tell the colour behind them where it isn't the theme's, the page has the lines so far, which
-- are those that were read, and the reader's faults are still those of the one that came in
abbrev pub invariant-loop-number : goal.invariant-loop-number
invariant-loop-number g l =
    (l.spans ≡ IfDifferent (background_of l.theme))
    × ((definitions : List SyntaxDefinition) (syntax : SyntaxReference) → IsSyntaxOfBuilt l.set syntax definitions → Leads l.set l.theme syntax [] [] l.fn.highlighter
    → IsSoFar l.limits l.fn.form l.set l.theme syntax (g.L.ReadLines.ahead l.fn.lines) (g.L.ReadLines.ahead l.lines) l.bytes.items (string_bytes l.page) l.number l.first l.highlighter)
    × AreLinesSoFar (g.L.ReadLines.ahead l.fn.lines) (g.L.ReadLines.ahead l.lines) l.bytes.items
    × ((e : IoError) → g.L.ReadLines.failed l.lines e → g.L.ReadLines.failed l.fn.lines e)
