use Rattle.std.proofs.Common.{◌≡◌, ◌≤◌, ◌-◌, length, take, drop}
use Rattle.syntect_grammar_lists.proofs.packed.are_words.Given as goal

abbrev pub invariant-loop-word : goal.invariant-loop-word
invariant-loop-word l = record {
  within : l.word ≤ length l.row;
  same : take l.word (drop l.start l.bits) ≡ take l.word l.row;
}

abbrev pub decreases-loop-word : goal.decreases-loop-word
decreases-loop-word l = length l.row - l.word
