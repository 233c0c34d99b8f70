use Rattle.std.proofs.Common.{◌≡◌, List, string_bytes}
use Rattle.std.specs.Prelude.{[]}
use Rattle.std.specs.declared.io.Error.{Error as IoError}
use Rattle.syntect_assets.specs.syntect_grammar_loader.declared.definition.SyntaxDefinition.{SyntaxDefinition}
use Rattle.syntect_assets.specs.syntect_grammar_contexts.declared.syntax_reference.SyntaxReference.{SyntaxReference}
use Rattle.syntect_easy.specs.Built.{IsSyntaxOfBuilt}
use Rattle.syntect_easy.specs.Leads.{Leads}
use Rattle.syntect_easy.specs.Rows.{AreLinesSoFar}
use Rattle.syntect_assets.specs.Texts.{ground_of}
use Rattle.syntect_assets.proofs.TextLaws.{IsSoFar}
use Rattle.syntect_assets.proofs.lines.shown_lines.Given as goal

-- the writer writes as the format has it, the text has the lines so far, which are those that were
-- read, and the reader's faults are still those of the one that came in
abbrev pub invariant-loop-before : goal.invariant-loop-before
invariant-loop-before g l =
    (l.writer.way ≡ ground_of l.fn.format l.theme)
    × ((definitions : List SyntaxDefinition) (syntax : SyntaxReference) → IsSyntaxOfBuilt l.set syntax definitions → Leads l.set l.theme syntax [] [] l.fn.highlighter
    → IsSoFar l.limits l.fn.format l.set l.theme syntax (g.L.ReadLines.ahead l.fn.lines) (g.L.ReadLines.ahead l.lines) l.bytes.items (string_bytes l.writer.text) l.before l.first l.highlighter)
    × AreLinesSoFar (g.L.ReadLines.ahead l.fn.lines) (g.L.ReadLines.ahead l.lines) l.bytes.items
    × ((e : IoError) → g.L.ReadLines.failed l.lines e → g.L.ReadLines.failed l.fn.lines e)
