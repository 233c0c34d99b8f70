-- Words, a word at a time.
use Rattle.std.proofs.Common.{◌≡◌, ℕ, ◌<◌, List, [], ◌++◌, length, take, drop, sym, ap, ◌∙◌, subst}
use Rattle.std.specs.Prelude.{flat_map}
use Rattle.syntect_grammar_rewrite.specs.Cutting.{char_len}
use Rattle.syntect_grammar_rewrite.specs.Replacing.{Words, word_len, replacement, with_replacements}
use Rattle.syntect_grammar_rewrite.specs.Views.{IsWord, IsNoWord}
use Rattle.syntect_grammar_rewrite.proofs.CuttingLaws.{flat-cons, parts-none, char_some}

pub replaced-word : (ws : Words) (t w : List ℕ) (n : ℕ) → 0 < length t → IsWord ws t n w → with_replacements ws t ≡ w ++ with_replacements ws (drop n t)
unfolding with_replacements
replaced-word ws t w n some h =
    flat-cons (λ (x : List ℕ). x) (word_len ws) (replacement ws) t some (subst (λ (k : ℕ). 0 < k) (sym h.len) h.some)
    ∙ ap (λ (x : List ℕ). x ++ with_replacements ws (drop (word_len ws t) t)) h.written
    ∙ ap (λ (k : ℕ). w ++ with_replacements ws (drop k t)) h.len

pub replaced-char : (ws : Words) (t : List ℕ) → 0 < length t → IsNoWord ws t → with_replacements ws t ≡ take (char_len t) t ++ with_replacements ws (drop (char_len t) t)
unfolding with_replacements
replaced-char ws t some h =
    flat-cons (λ (x : List ℕ). x) (word_len ws) (replacement ws) t some (subst (λ (k : ℕ). 0 < k) (sym h.len) (char_some t some))
    ∙ ap (λ (x : List ℕ). x ++ with_replacements ws (drop (word_len ws t) t)) h.written
    ∙ ap (λ (k : ℕ). take (char_len t) t ++ with_replacements ws (drop k t)) h.len

pub replaced-none : (ws : Words) (t : List ℕ) → length t ≡ 0 → with_replacements ws t ≡ []
unfolding with_replacements
replaced-none ws t none = ap (flat_map (λ (x : List ℕ). x)) (parts-none (word_len ws) (replacement ws) t none)
