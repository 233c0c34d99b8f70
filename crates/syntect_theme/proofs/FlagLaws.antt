-- Flags that are inserted one after another.
use Rattle.std.proofs.Common.{◌≡◌, ℕ, zero, suc, ◌+◌, ◌<◌, List, [], ◌∷◌, ◌++◌, length, drop, get_or, map, refl, ap, sym, ◌∙◌, arith, Option, Some, None, Bor}
use Rattle.std.specs.Prelude.{bit_or, Err}
use Rattle.syntect_theme.specs.syntect_scope.Words.{words}
use Rattle.syntect_base.specs.declared.theme.ParseThemeError.TheVariants.{IncorrectFontStyle}
use Rattle.syntect_theme.specs.declared.style.FontStyle.{FontStyle}
use Rattle.syntect_theme.specs.Flags.{with_flags}
use Rattle.syntect_theme.specs.Modifying.{bits_of}
use Rattle.syntect_theme.specs.Texts.{word_bits, wrong_word, with_words, flags_of_text}

pub with_last : (bits : ℕ) (fs : List FontStyle) (f : FontStyle) → with_flags bits (fs ++ f ∷ []) ≡ bit_or (with_flags bits fs) (bits_of f)
with_last bits [] f = refl
with_last bits (g ∷ fs) f = with_last (bit_or bits (bits_of g)) fs f

-- the texts from the one at an index on
texts_from : (d : Bor (List ℕ)) (parts : List (Bor (List ℕ))) (i : ℕ) → i < length parts → map (λ x. x.now) (drop i parts) ≡ (get_or parts i d).now ∷ map (λ x. x.now) (drop (i + 1) parts)
texts_from d [] i l = absurd (omega arith)
texts_from d (p ∷ parts) zero l = refl
texts_from d (p ∷ parts) (suc i) l = let z : suc i + 1 ≡ suc (i + 1) = omega arith in rw z (texts_from d parts i (omega arith))

right_word : (word : List ℕ) (ws : List (List ℕ)) (b : ℕ) → Some b ≡ word_bits word → wrong_word (word ∷ ws) ≡ wrong_word ws
right_word word ws b e = rw (sym e) refl

more_bits : (bits : ℕ) (word : List ℕ) (ws : List (List ℕ)) (b : ℕ) → Some b ≡ word_bits word → with_words bits (word ∷ ws) ≡ with_words (bit_or bits b) ws
more_bits bits word ws b e = rw (sym e) refl

wrong_here : (word : List ℕ) (ws : List (List ℕ)) → None ≡ word_bits word → wrong_word (word ∷ ws) ≡ Some word
wrong_here word ws e = rw (sym e) refl

pub known_more : (d : Bor (List ℕ)) {o : Option (List ℕ)} (parts : List (Bor (List ℕ))) (i b : ℕ) → i < length parts → Some b ≡ word_bits (get_or parts i d).now
    → wrong_word (map (λ x. x.now) (drop i parts)) ≡ o → wrong_word (map (λ x. x.now) (drop (i + 1) parts)) ≡ o
known_more d parts i b l e h = sym (right_word (get_or parts i d).now (map (λ x. x.now) (drop (i + 1) parts)) b e) ∙ ap wrong_word (sym (texts_from d parts i l)) ∙ h

pub given_more : (d : Bor (List ℕ)) {all new : ℕ} (bits : ℕ) (parts : List (Bor (List ℕ))) (i b : ℕ) → i < length parts → Some b ≡ word_bits (get_or parts i d).now → new ≡ bit_or bits b
    → with_words bits (map (λ x. x.now) (drop i parts)) ≡ all → with_words new (map (λ x. x.now) (drop (i + 1) parts)) ≡ all
given_more d bits parts i b l e n h =
    let rest : List (List ℕ) = map (λ x. x.now) (drop (i + 1) parts) in
    ap (λ (k : ℕ). with_words k rest) n ∙ sym (more_bits bits (get_or parts i d).now rest b e) ∙ ap (with_words bits) (sym (texts_from d parts i l)) ∙ h

pub refused_word : (d : Bor (List ℕ)) {o : Option (List ℕ)} (parts : List (Bor (List ℕ))) (i : ℕ) → i < length parts → None ≡ word_bits (get_or parts i d).now
    → wrong_word (map (λ x. x.now) (drop i parts)) ≡ o → o ≡ Some (get_or parts i d).now
refused_word d parts i l e h = sym h ∙ ap wrong_word (texts_from d parts i l) ∙ wrong_here (get_or parts i d).now (map (λ x. x.now) (drop (i + 1) parts)) e

pub text_refused : (s w t : List ℕ) → wrong_word (words s) ≡ Some w → t ≡ w → flags_of_text s ≡ Err (IncorrectFontStyle t)
text_refused s w t e f = rw (e, f) refl
