use Rattle.std.proofs.Common.{◌≡◌, ◌++◌, length, string_bytes}
use denote.Text.{Utf8}
use denote.Shadow.{shadow}
use Rattle.syntect_documents.specs.Document.{guarded}
use Rattle.syntect_documents.proofs.document.push_guarded.Given as goal

-- what is written, and the rest with backslashes, are the whole
abbrev pub invariant-loop-front : goal.invariant-loop-front
invariant-loop-front l = shadow (Utf8 l.rest) × (string_bytes l.out ++ guarded l.rest ≡ string_bytes l.fn.out ++ guarded l.fn.sheet)

abbrev pub decreases-loop-front : goal.decreases-loop-front
decreases-loop-front l = length l.rest
