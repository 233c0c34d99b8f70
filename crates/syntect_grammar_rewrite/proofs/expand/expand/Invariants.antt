use Rattle.std.proofs.Common.{◌≡◌, ◌++◌, [], length, string_bytes}
use denote.Text.{Utf8}
use denote.Shadow.{shadow}
use Rattle.syntect_grammar_rewrite.specs.Variables.{expanded}
use Rattle.syntect_grammar_rewrite.specs.Expanding.{inner, left, turns, AreOpen, AllVanish, AreTraced}
use Rattle.syntect_grammar_rewrite.proofs.expand.expand.Given as goal

abbrev pub invariant-turns : goal.invariant-turns
invariant-turns l =
    shadow (Utf8 l.rest) × (string_bytes l.out ++ left [] l.variables l.frames.items l.rest ≡ expanded l.variables l.fn.text) × AreTraced l.variables l.frames.items l.rest (length (string_bytes l.out)) × AllVanish (inner l.variables l.frames.items) l.known × AreOpen l.marks l.frames.items

abbrev pub decreases-turns : goal.decreases-turns
decreases-turns l = turns l.variables l.frames.items l.rest
