use Rattle.std.proofs.Common.{◌≡◌, ◌++◌, length, string_bytes}
use denote.Text.{Utf8}
use denote.Shadow.{shadow}
use Rattle.syntect_grammar_rewrite.specs.Newlines.{anchored}
use Rattle.syntect_grammar_rewrite.proofs.newlines.anchored.Given as goal

abbrev pub invariant-tokens : goal.invariant-tokens
invariant-tokens l = shadow (Utf8 l.rest) × (string_bytes l.out ++ anchored l.rest ≡ anchored l.fn.text)

abbrev pub decreases-tokens : goal.decreases-tokens
decreases-tokens l = length l.rest
