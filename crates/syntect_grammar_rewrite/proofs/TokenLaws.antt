-- Classes and tokens, a sign and a token at a time.
use Rattle.std.proofs.Common.{◌≡◌, ℕ, ◌+◌, ◌<◌, ◌≤◌, Bool, true, false, not, List, ◌∷◌, length, take, drop, refl, sym, ap, ◌∙◌, arith, subst}
use Rattle.std.proofs.lemmas.Bool.{false≢true}
use Rattle.std.proofs.lemmas.List.{drop-drop}
use Rattle.std.proofs.Math.Bool.{or-false}
use Rattle.std.proofs.Math.Nat.{add_assoc}
use Rattle.std.proofs.lemmas.Str.{IsCharBoundary-from_rest, IsCharBoundary-end}
use Rattle.std.specs.Prelude.{◌==◌, ◌&&◌, ◌||◌}
use Rattle.std.specs.Str.{IsCharBoundary}
use Rattle.syntect_grammar_rewrite.specs.Cutting.{sign_len, sign, signs}
use Rattle.syntect_grammar_rewrite.specs.Tokens.{closes, open_after, rest_len, is_newline, has_newline}
use Rattle.syntect_grammar_rewrite.proofs.CuttingLaws.{parts-cons, parts-none, sign_some, length-sign, sign_boundary}

-- the first sign of a text of so many bytes, as the code has it
pub record IsSign (t s : List ℕ) (n : ℕ) : Type 0 where
  pub some : 0 < length t
  pub len : n ≡ sign_len t
  pub bytes : s ≡ take n t

sign_is : (t s : List ℕ) (n : ℕ) → IsSign t s n → s ≡ sign t
unfolding sign
sign_is t s n h = h.bytes ∙ ap (λ (k : ℕ). take k t) h.len

pub signs-cons : (t s : List ℕ) (n : ℕ) → IsSign t s n → signs t ≡ s ∷ signs (drop n t)
signs-cons t s n h =
    parts-cons sign_len sign t h.some (sign_some t h.some)
    ∙ ap (λ (x : List ℕ). x ∷ signs (drop (sign_len t) t)) (sym (sign_is t s n h))
    ∙ ap (λ (k : ℕ). s ∷ signs (drop k t)) (sym h.len)

pub sign-length : (t s : List ℕ) (n : ℕ) → IsSign t s n → length s ≡ n
sign-length t s n h = ap length (sign_is t s n h) ∙ length-sign t ∙ sym h.len

closed_len : (depth : ℕ) (s : List ℕ) (ss : List (List ℕ)) → closes depth s ≡ true → rest_len depth (s ∷ ss) ≡ length s
closed_len depth s ss e = rw e (omega arith)

open_len : (depth : ℕ) (s : List ℕ) (ss : List (List ℕ)) → closes depth s ≡ false → rest_len depth (s ∷ ss) ≡ length s + rest_len (open_after depth s) ss
open_len depth s ss e = rw e refl

last_newline : (found own closed rest : Bool) → closed ≡ true → (found || (own || (not closed && rest))) ≡ (found || own)
last_newline true own closed rest e = refl
last_newline false true closed rest e = refl
last_newline false false true rest e = refl
last_newline false false false rest e = absurd (false≢true e)

more_newline : (found own closed rest : Bool) → closed ≡ false → (found || (own || (not closed && rest))) ≡ ((found || own) || rest)
more_newline true own closed rest e = refl
more_newline false true closed rest e = refl
more_newline false false true rest e = absurd (false≢true (sym e))
more_newline false false false rest e = refl

-- a class that is being read: what was read of it, and what is left
pub record IsRead (whole : List ℕ) (depth n : ℕ) (found : Bool) (t : List ℕ) : Type 0 where
  pub len : rest_len 0 (signs whole) ≡ n + rest_len depth (signs t)
  pub newline : has_newline 0 (signs whole) ≡ (found || has_newline depth (signs t))
  pub left : t ≡ drop n whole
  pub fits : n + length t ≡ length whole
  pub shallow : depth ≤ n

pub record IsOver (whole : List ℕ) (n : ℕ) (found : Bool) : Type 0 where
  pub len : n ≡ rest_len 0 (signs whole)
  pub newline : found ≡ has_newline 0 (signs whole)
  pub boundary : IsCharBoundary whole n

pub read-start : (whole : List ℕ) → IsRead whole 0 0 false whole
read-start whole = record { len = omega arith; newline = refl; left = refl; fits = omega arith; shallow = omega arith }

pub read-closed : (whole : List ℕ) (depth n : ℕ) (found : Bool) (t s : List ℕ) (k : ℕ) (now : Bool) → IsRead whole depth n found t → IsSign t s k → closes depth s ≡ true → now ≡ (found || (depth == 0 && is_newline s)) → IsOver whole (n + length s) now
read-closed whole depth n found t s k now r h e f = record {
  len = sym (r.len ∙ ap (λ ss. n + rest_len depth ss) (signs-cons t s k h) ∙ ap (λ (x : ℕ). n + x) (closed_len depth s (signs (drop k t)) e));
  newline = f ∙ sym (r.newline ∙ ap (λ ss. found || has_newline depth ss) (signs-cons t s k h) ∙ last_newline found (depth == 0 && is_newline s) (closes depth s) _ e);
  boundary =
      let here : IsCharBoundary t (length s) = subst (IsCharBoundary t) (sym (sign-length t s k h ∙ h.len)) (sign_boundary t) in
      IsCharBoundary-from_rest whole n (length s) (omega (arith, r.fits)) (subst (λ (x : List ℕ). IsCharBoundary x (length s)) r.left here);
}

pub read-on : (whole : List ℕ) (depth n : ℕ) (found : Bool) (t s back : List ℕ) (k depth_now : ℕ) (now : Bool) → IsRead whole depth n found t → IsSign t s k → back ≡ drop k t → length back + k ≡ length t → closes depth s ≡ false → now ≡ (found || (depth == 0 && is_newline s)) → depth_now ≡ open_after depth s → depth_now ≤ depth + 1 → IsRead whole depth_now (n + length s) now back
read-on whole depth n found t s back k depth_now now r h b l e f d shallow =
    let size : length s ≡ k = sign-length t s k h in
    let some : 0 < k = subst (λ (x : ℕ). 0 < x) (sym h.len) (sign_some t h.some) in record {
      len =
          r.len ∙ ap (λ ss. n + rest_len depth ss) (signs-cons t s k h) ∙ ap (λ (x : ℕ). n + x) (open_len depth s (signs (drop k t)) e)
          ∙ ap (λ (x : ℕ). n + (length s + rest_len x (signs (drop k t)))) (sym d)
          ∙ ap (λ (x : List ℕ). n + (length s + rest_len depth_now (signs x))) (sym b)
          ∙ sym (add_assoc n (length s) (rest_len depth_now (signs back)));
      newline =
          r.newline ∙ ap (λ ss. found || has_newline depth ss) (signs-cons t s k h) ∙ more_newline found (depth == 0 && is_newline s) (closes depth s) _ e
          ∙ ap (λ (x : Bool). x || has_newline (open_after depth s) (signs (drop k t))) (sym f)
          ∙ ap (λ (x : ℕ). now || has_newline x (signs (drop k t))) (sym d)
          ∙ ap (λ (x : List ℕ). now || has_newline depth_now (signs x)) (sym b);
      left = b ∙ ap (drop k) r.left ∙ drop-drop k n whole ∙ ap (λ (x : ℕ). drop (n + x) whole) (sym size);
      fits = omega (arith, r.fits);
      shallow = omega (arith, r.shallow);
    }

pub read-over : (whole : List ℕ) (depth n : ℕ) (found : Bool) (t : List ℕ) → IsRead whole depth n found t → length t ≡ 0 → IsOver whole n found
read-over whole depth n found t r none = record {
  len = sym (r.len ∙ ap (λ ss. n + rest_len depth ss) (parts-none sign_len sign t none) ∙ omega arith);
  newline = sym (r.newline ∙ ap (λ ss. found || has_newline depth ss) (parts-none sign_len sign t none) ∙ or-false found);
  boundary = subst (IsCharBoundary whole) (omega (arith, r.fits)) (IsCharBoundary-end whole);
}
