use Rattle.std.proofs.Common.{length}
use denote.Text.{Utf8}
use denote.Shadow.{shadow}
use Rattle.syntect_grammar_rewrite.proofs.TokenLaws.{IsRead}
use Rattle.syntect_grammar_rewrite.proofs.classes.rest_of_class.Given as goal

abbrev pub invariant-signs : goal.invariant-signs
invariant-signs l = shadow (Utf8 l.rest) × IsRead l.fn.text l.depth l.len l.takes_newline l.rest

abbrev pub decreases-signs : goal.decreases-signs
decreases-signs l = length l.rest
