use Rattle.std.proofs.Common.{◌≡◌, ◌<◌, ◌+◌, ◌-◌, ◌*◌, ℕ, true}
use Rattle.std.specs.Int.{bit_at}
use Rattle.syntect_grammar_lists.specs.Rows.{KeepsBits, has_bit}
use Rattle.syntect_grammar_lists.proofs.rows.mark_all.Given as goal

abbrev pub invariant-loop-x : goal.invariant-loop-x
invariant-loop-x l = record {
  marks : (x b : ℕ) → x < l.x → b < 64 → bit_at l.bits b ≡ 1 → has_bit l.rows.items ((l.first + x) * l.words + l.word) b ≡ true;
  others : KeepsBits l.fn.rows.items l.rows.items;
}

abbrev pub decreases-loop-x : goal.decreases-loop-x
decreases-loop-x l = 130 - l.x
