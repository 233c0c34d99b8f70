use Rattle.std.proofs.Common.{◌≡◌, ◌≤◌, ◌+◌, length}
use denote.Text.{Utf8}
use denote.Shadow.{shadow}
use Rattle.syntect_grammar_rewrite.specs.Lengths.{use_mark, with_uses}
use Rattle.syntect_grammar_rewrite.specs.Expanding.{left, turns, AreOpen}
use Rattle.syntect_grammar_rewrite.proofs.lengths.counted_len.Given as goal

abbrev pub invariant-parts : goal.invariant-parts
invariant-parts l =
    shadow (Utf8 l.rest) × (l.count + length (left use_mark l.variables l.frames.items l.rest) ≡ length (with_uses l.variables l.fn.text)) × (l.count ≤ l.most) × AreOpen l.marks l.frames.items

abbrev pub decreases-parts : goal.decreases-parts
decreases-parts l = turns l.variables l.frames.items l.rest
