-- The ends of lines, a token at a time.
use Rattle.std.proofs.Common.{◌≡◌, ℕ, ◌<◌, Bool, true, false, List, [], ◌∷◌, ◌++◌, length, get_or, take, drop, refl, sym, ap, ◌∙◌, inl, inr, arith}
use Rattle.std.proofs.lemmas.Bool.Decides.{eqb_tells}
use Rattle.std.specs.Prelude.{flat_map, codes, if◌then◌else◌}
use Rattle.syntect_grammar_rewrite.specs.Cutting.{sign}
use Rattle.syntect_grammar_rewrite.specs.Tokens.{plain, class, opening_len, class_len, takes_newline, class_takes_newline, token_len, token, token_text}
use Rattle.syntect_grammar_rewrite.specs.Newlines.{anchored_token, anchored, begins_optional, line_token_len, line_token, line_tokens, next, ended_token, ended_tokens, ended}
use Rattle.syntect_grammar_rewrite.specs.Views.{token_of, IsLineToken}
use Rattle.syntect_grammar_rewrite.proofs.CuttingLaws.{parts-cons, parts-none, flat-cons, sign_some, first-take}

opening_some : (t : List ℕ) → 0 < opening_len t
opening_some t =
    elim (eqb_tells (get_or t 1 0) 94) [
      | inl e ↦ rw e.0 (elim (eqb_tells (get_or t 2 0) 93) [ inl f ↦ rw f.0 (omega arith) | inr f ↦ rw f.0 (omega arith) ])
      | inr e ↦ rw e.0 (elim (eqb_tells (get_or t 1 0) 93) [ inl f ↦ rw f.0 (omega arith) | inr f ↦ rw f.0 (omega arith) ])
    ]

class_some : (t : List ℕ) → 0 < class_len t
unfolding class_len
class_some t = omega (arith, opening_some t)

pub token_some : (t : List ℕ) → 0 < length t → 0 < token_len t
unfolding token_len
token_some t some = elim (eqb_tells (get_or t 0 0) 91) [ inl e ↦ rw e.0 (class_some t) | inr e ↦ rw e.0 (sign_some t some) ]

-- a token that begins with `[` is a class, and no other is
class_first : (n : ℕ) (t : List ℕ) → 0 < n → get_or t 0 0 ≡ 91 → get_or (take n t) 0 0 ≡ 91
class_first n t some e = first-take n t some ∙ e

anchored_class : (s : List ℕ) → get_or s 0 0 ≡ 91 → anchored_token (plain s) ≡ s
anchored_class s e = rw e refl

pub anchored_is : (t : List ℕ) → anchored_token (token t) ≡ anchored_token (plain (take (token_len t) t))
unfolding token token_len sign
anchored_is t =
    elim (eqb_tells (get_or t 0 0) 91) [
      | inl e ↦ rw e.0 (sym (anchored_class (take (class_len t) t) (class_first (class_len t) t (class_some t) e.1)))
      | inr e ↦ rw e.0 refl
    ]

ended_class : (b : Bool) (s : List ℕ) (after : ℕ) → get_or s 0 0 ≡ 91 → ended_token (class b s) after ≡ ended_token (token_of b s) after
ended_class true s after e = refl
ended_class false s after e = rw e refl

ended_is : (t : List ℕ) (after : ℕ) → ended_token (token t) after ≡ ended_token (token_of (class_takes_newline t) (take (token_len t) t)) after
unfolding token token_len sign
ended_is t after =
    elim (eqb_tells (get_or t 0 0) 91) [
      | inl e ↦ rw e.0 (ended_class (takes_newline t) (take (class_len t) t) after (class_first (class_len t) t (class_some t) e.1))
      | inr e ↦ rw e.0 refl
    ]

text_is : (t : List ℕ) → token_text (token t) ≡ take (token_len t) t
unfolding token token_len sign
text_is t = elim (eqb_tells (get_or t 0 0) 91) [ inl e ↦ rw e.0 refl | inr e ↦ rw e.0 refl ]

-- the first token, as the code has it
pub record IsToken (t s : List ℕ) (n : ℕ) : Type 0 where
  pub some : 0 < length t
  pub len : n ≡ token_len t
  pub bytes : s ≡ take n t

token_is : (t s : List ℕ) (n : ℕ) → IsToken t s n → take (token_len t) t ≡ s
token_is t s n h = sym (h.bytes ∙ ap (λ (k : ℕ). take k t) h.len)

pub anchored-turn : (t s : List ℕ) (n : ℕ) → IsToken t s n → anchored t ≡ anchored_token (plain s) ++ anchored (drop n t)
unfolding anchored
anchored-turn t s n h =
    flat-cons anchored_token token_len token t h.some (token_some t h.some)
    ∙ ap (λ (x : List ℕ). x ++ anchored (drop (token_len t) t)) (anchored_is t ∙ ap (λ (x : List ℕ). anchored_token (plain x)) (token_is t s n h))
    ∙ ap (λ (k : ℕ). anchored_token (plain s) ++ anchored (drop k t)) (sym h.len)

pub anchored-none : (t : List ℕ) → length t ≡ 0 → anchored t ≡ []
unfolding anchored
anchored-none t none = ap (flat_map anchored_token) (parts-none token_len token t none)

-- ---- for lines that have no newline ----

starts_so : (t : List ℕ) → begins_optional t ≡ true → get_or t 0 0 ≡ 40
starts_so [] e = cc
starts_so (c ∷ t) e =
    elim (eqb_tells 40 c) [
      | inl f ↦ sym f.1
      | inr f ↦ absurd (let q : false ≡ true = rw f.0 at e in cc)
    ]

line_some : (t : List ℕ) → 0 < length t → 0 < line_token_len t
line_some t some = by (begins_optional t)
  where
    by : (b : Bool) → 0 < (if b then 7 else token_len t)
    by true = omega arith
    by false = token_some t some

line_text : (t : List ℕ) → 0 < length t → get_or (token_text (line_token t)) 0 0 ≡ get_or t 0 0
line_text t some = by (begins_optional t) refl
  where
    by : (b : Bool) → begins_optional t ≡ b → get_or (token_text (if b then plain (codes "(?:$|)") else token t)) 0 0 ≡ get_or t 0 0
    by true e = sym (starts_so t e)
    by false e = ap (λ (x : List ℕ). get_or x 0 0) (text_is t) ∙ first-take (token_len t) t (token_some t some)

line_tokens-cons : (t : List ℕ) → 0 < length t → line_tokens t ≡ line_token t ∷ line_tokens (drop (line_token_len t) t)
line_tokens-cons t some = parts-cons line_token_len line_token t some (line_some t some)

next_is : (t : List ℕ) → next (line_tokens t) ≡ get_or t 0 0
next_is [] = ap next (parts-none line_token_len line_token [] refl)
next_is (c ∷ t) = let some : 0 < length (c ∷ t) = omega arith in ap next (line_tokens-cons (c ∷ t) some) ∙ line_text (c ∷ t) some

-- what the code cuts off
pub optional_token : (t : List ℕ) → begins_optional t ≡ true → IsLineToken t (codes "(?:$|)") false
optional_token t e = λ after. rw e refl

pub other_token : (t s : List ℕ) (n : ℕ) (b : Bool) → begins_optional t ≡ false → IsToken t s n → b ≡ class_takes_newline t → IsLineToken t s b
other_token t s n b e h f = λ after.
    rw e (ended_is t after ∙ ap (λ (x : List ℕ). ended_token (token_of (class_takes_newline t) x) after) (token_is t s n h) ∙ ap (λ (x : Bool). ended_token (token_of x s) after) (sym f))

pub ended-turn : (t s : List ℕ) (after : ℕ) (b : Bool) → 0 < length t → IsLineToken t s b → after ≡ get_or (drop (line_token_len t) t) 0 0 → ended t ≡ ended_token (token_of b s) after ++ ended (drop (line_token_len t) t)
unfolding ended
ended-turn t s after b some h f =
    ap ended_tokens (line_tokens-cons t some)
    ∙ ap (λ (k : ℕ). ended_token (line_token t) k ++ ended_tokens (line_tokens (drop (line_token_len t) t))) (next_is (drop (line_token_len t) t) ∙ sym f)
    ∙ ap (λ (x : List ℕ). x ++ ended_tokens (line_tokens (drop (line_token_len t) t))) (h after)

pub ended-none : (t : List ℕ) → length t ≡ 0 → ended t ≡ []
unfolding ended
ended-none t none = ap ended_tokens (parts-none line_token_len line_token t none)
