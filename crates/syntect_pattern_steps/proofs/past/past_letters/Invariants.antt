use Rattle.std.proofs.Common.{◌≡◌, IsCharBoundary, drop}
use Rattle.syntect_pattern_steps.specs.Steps.{after_letters}
use Rattle.syntect_pattern.specs.Letters.{letters_of}
use Rattle.syntect_pattern_steps.proofs.past.past_letters.Given as goal

abbrev pub invariant-loop-letter : goal.invariant-loop-letter
invariant-loop-letter l = record {
  boundary : IsCharBoundary l.text l.at;
  value : after_letters l.text l.letters.fold (letters_of l.letters) l.fn.place ≡ after_letters l.text l.letters.fold (drop l.letter-index l.letter-items) l.at;
}
