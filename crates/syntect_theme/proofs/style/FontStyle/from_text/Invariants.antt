use Rattle.std.proofs.Common.{◌≡◌, drop, map}
use Rattle.syntect_theme.specs.Modifying.{bits_of}
use Rattle.syntect_theme.specs.Texts.{wrong_word, with_words}
use Rattle.syntect_theme.proofs.style.FontStyle.from_text.Given as goal

abbrev pub invariant-loop-word : goal.invariant-loop-word
invariant-loop-word l =
    let words = map (λ x. x.now) l.word-items in
    let rest = map (λ x. x.now) (drop l.word-index l.word-items) in
    record {
      known : wrong_word rest ≡ wrong_word words;
      given : with_words (bits_of l.all) rest ≡ with_words 0 words;
    }
