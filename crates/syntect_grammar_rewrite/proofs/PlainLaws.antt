-- Texts that stay as they are.
use Rattle.std.proofs.Common.{◌≡◌, ◌==◌, ◌||◌, ℕ, zero, suc, ◌<◌, ◌≤◌, Bool, true, false, List, [], ◌∷◌, ◌++◌, length, take, drop, get_or, refl, sym, ap, subst, ◌∙◌, arith, inl, inr, length-drop}
use Rattle.std.proofs.lemmas.Bool.Decides.{eqb_tells}
use Rattle.std.proofs.lemmas.List.{take-append-drop}
use Rattle.std.specs.List.{list_any}
use Rattle.std.specs.Prelude.{flat_map, IfOk, Result, Ok, Err}
use Rattle.syntect_grammar_rewrite.specs.Cutting.{parts}
use Rattle.syntect_grammar_rewrite.specs.Replacing.{brackets, with_replacements, replacement, word_len}
use Rattle.syntect_grammar_rewrite.specs.Newlines.{anchored, anchored_token}
use Rattle.syntect_grammar_rewrite.specs.Tokens.{token, token_len}
use Rattle.syntect_grammar_rewrite.specs.Marking.{marked_part, marked_within, marked}
use Rattle.syntect_grammar_rewrite.specs.Variables.{Variables, expanded, is_use, part, part_len}
use Rattle.syntect_grammar_rewrite.specs.Views.{IsNoWord}
use Rattle.syntect_grammar_rewrite.proofs.CuttingLaws.{char_some, first-take, flat-cons, parts-none}
use Rattle.syntect_grammar_rewrite.proofs.ExpandLaws.{without_mark}
use Rattle.syntect_grammar_rewrite.proofs.NewlineLaws.{anchored_is, token_some}

-- the byte stands nowhere in the text
abbrev pub Lacks : ℕ → List ℕ → Type 0
Lacks c t = list_any (λ d. d == c) t ≡ false

neither : (a b : Bool) → (a || b) ≡ false → (a ≡ false) × (b ≡ false)
neither false b e = (refl, e)
neither true b e = cc

lacks-drop : (c n : ℕ) (t : List ℕ) → Lacks c t → Lacks c (drop n t)
lacks-drop c zero t e = e
lacks-drop c (suc n) [] e = e
lacks-drop c (suc n) (d ∷ t) e = lacks-drop c n t (neither (d == c) (list_any (λ x. x == c) t) e).1

other-first : (c : ℕ) (t : List ℕ) → 0 < length t → Lacks c t → (get_or t 0 0 == c) ≡ false
other-first c [] some e = absurd (omega (arith, some))
other-first c (d ∷ t) some e = (neither (d == c) (list_any (λ x. x == c) t) e).0

-- a text each of whose parts stays, unless the byte stands in it
stays : {A : Type 0} (c : ℕ) (f : A → List ℕ) (len : List ℕ → ℕ) (part : List ℕ → A)
    → ((t : List ℕ) → 0 < length t → (get_or t 0 0 == c) ≡ false → (0 < len t) × (f (part t) ≡ take (len t) t))
    → (n : ℕ) (t : List ℕ) → length t ≤ n → Lacks c t → flat_map f (parts len part t) ≡ t
stays c f len part one n [] l e = ap (flat_map f) (parts-none len part [] refl)
stays c f len part one zero (d ∷ t) l e = absurd (omega (arith, l))
stays c f len part one (suc n) (d ∷ t) l e =
    let some : 0 < length (d ∷ t) = omega arith in
    let h = one (d ∷ t) some (other-first c (d ∷ t) some e) in
    let k : ℕ = len (d ∷ t) in
    let fewer : length (drop k (d ∷ t)) ≤ n = omega (arith, length-drop k (d ∷ t), l, h.0) in
    flat-cons f len part (d ∷ t) some h.0
    ∙ ap (λ (x : List ℕ). x ++ flat_map f (parts len part (drop k (d ∷ t)))) h.1
    ∙ ap (λ (x : List ℕ). take k (d ∷ t) ++ x) (stays c f len part one n (drop k (d ∷ t)) fewer (lacks-drop c k (d ∷ t) e))
    ∙ take-append-drop k (d ∷ t)

-- what is made of a text that stays is the text
pub still : {S E : Type 0} (bytes : S → List ℕ) (r : Result S E) (t u : List ℕ) → IfOk r (λ s. bytes s ≡ t) → u ≡ t → IfOk r (λ s. bytes s ≡ u)
still bytes (Ok s) t u h e = h ∙ sym e
still bytes (Err x) t u h e = h

-- ---- names of brackets ----

no_bracket : (t : List ℕ) → (get_or t 0 0 == 91) ≡ false → IsNoWord brackets t
no_bracket [] e = record { len = refl; written = refl }
no_bracket (c ∷ t) e = elim (eqb_tells 91 c) [
  | inl same ↦ absurd (let q : true ≡ false = ap (λ (x : ℕ). x == 91) same.1 ∙ e in cc)
  | inr other ↦ record { len = rw other.0 refl; written = rw other.0 refl }
]

pub replaced_plain : (t : List ℕ) → Lacks 91 t → with_replacements brackets t ≡ t
unfolding with_replacements
replaced_plain t e =
    stays 91 (λ (x : List ℕ). x) (word_len brackets) (replacement brackets)
    (λ s some f. let w = no_bracket s f in (subst (λ (k : ℕ). 0 < k) (sym w.len) (char_some s some), w.written ∙ ap (λ (k : ℕ). take k s) (sym w.len)))
    (length t) t (omega arith) e

-- ---- variables ----

no_use : (t : List ℕ) → (get_or t 0 0 == 123) ≡ false → is_use t ≡ false
unfolding is_use
no_use t e = rw e refl

pub marked_plain : (mark : List ℕ) (us : Variables) (t : List ℕ) → Lacks 123 t → marked mark us t ≡ t
unfolding marked
marked_plain mark us t e =
    stays 123 (marked_part mark (marked_within mark (length us)) us) part_len part
    (λ s some f. let u = no_use s f in (rw u (char_some s some), rw u refl))
    (length t) t (omega arith) e

pub expanded_plain : (us : Variables) (t : List ℕ) → Lacks 123 t → expanded us t ≡ t
expanded_plain us t e = sym (without_mark us t) ∙ marked_plain [] us t e

-- ---- the ends of lines ----

pub anchored_plain : (t : List ℕ) → Lacks 36 t → anchored t ≡ t
unfolding anchored
anchored_plain t e =
    stays 36 anchored_token token_len token
    (λ s some f.
    let k : 0 < token_len s = token_some s some in
    let g : (get_or (take (token_len s) s) 0 0 == 36) ≡ false = ap (λ (x : ℕ). x == 36) (first-take (token_len s) s k) ∙ f in
    (k, anchored_is s ∙ rw g refl))
    (length t) t (omega arith) e
