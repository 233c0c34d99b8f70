use Rattle.std.proofs.Common.{◌≡◌, ◌++◌, length, string_bytes}
use denote.Text.{Utf8}
use denote.Shadow.{shadow}
use Rattle.syntect_grammar_rewrite.specs.Testing.{tested_text}
use Rattle.syntect_grammar_rewrite.proofs.references.tested.Given as goal

abbrev pub invariant-signs : goal.invariant-signs
invariant-signs l = shadow (Utf8 l.rest) × (string_bytes l.out ++ tested_text l.rest ≡ tested_text l.fn.text)

abbrev pub decreases-signs : goal.decreases-signs
decreases-signs l = length l.rest
