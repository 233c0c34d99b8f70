use Rattle.std.proofs.Common.{◌≡◌, ◌++◌, length, string_bytes}
use denote.Text.{Utf8}
use denote.Shadow.{shadow}
use Rattle.syntect_grammar_rewrite.specs.Replacing.{with_replacements, brackets}
use Rattle.syntect_grammar_rewrite.proofs.replace.replaced.Given as goal

abbrev pub invariant-words : goal.invariant-words
invariant-words l = shadow (Utf8 l.rest) × (string_bytes l.out ++ with_replacements brackets l.rest ≡ with_replacements brackets l.fn.text)

abbrev pub decreases-words : goal.decreases-words
decreases-words l = length l.rest
