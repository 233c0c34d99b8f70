-- Texts in their order, each once.
use Rattle.std.proofs.Common.{◌≡◌, ℕ, suc, ◌+◌, ◌<◌, get_or, drop, length, arith, Bool, true, false, List, [], ◌∷◌, ◌++◌, map, refl, ap, sym, ◌∙◌, Ordering, cond, is_none}
use Rattle.std.specs.declared.cmp.Ordering.TheVariants.{Less, Equal, Greater}
use Rattle.std.specs.Prelude.{string_bytes}
use Rattle.std.specs.BTreeSet.{insert_key}
use Rattle.std.specs.Cmp.Lexicographic.{slice_cmp}
use Rattle.std.specs.Ordering.{nat_cmp, match_ordering}
use Rattle.std.proofs.Math.Seq.{drop-cons}
use Rattle.std.specs.List.{filter, flat_map}
use Rattle.std.specs.declared.string.String.{String}
use Rattle.syntect_grammar_contexts.specs.Contexts.{target}
use Rattle.syntect_grammar_linker.specs.Unlinked.{unlinked_text, unlinked_among, with_texts}
use Rattle.syntect_grammar_contexts.specs.declared.context.ContextReference.{ContextReference}
use Rattle.syntect_grammar_contexts.specs.declared.syntax_reference.SyntaxReference.{SyntaxReference}

abbrev compared : {Z : Type 0} → String Z → String Z → Ordering
compared x y = slice_cmp nat_cmp (string_bytes x) (string_bytes y)

-- a set of strings as the set of their bytes
pub texts_inserted : {Z : Type 0} (ks : List (String Z)) (k : String Z) → map string_bytes (insert_key compared ks k) ≡ insert_key (slice_cmp nat_cmp) (map string_bytes ks) (string_bytes k)
texts_inserted [] k = refl
texts_inserted (x ∷ xs) k = by (insert_key compared xs k) (texts_inserted xs k) (slice_cmp nat_cmp (string_bytes k) (string_bytes x))
  where
    by : (inner : List (String _)) → map string_bytes inner ≡ insert_key (slice_cmp nat_cmp) (map string_bytes xs) (string_bytes k) → (o : Ordering)
        → map string_bytes (match_ordering o (k ∷ x ∷ xs) (x ∷ xs) (x ∷ inner))
        ≡ match_ordering o (string_bytes k ∷ map string_bytes (x ∷ xs)) (map string_bytes (x ∷ xs)) (string_bytes x ∷ insert_key (slice_cmp nat_cmp) (map string_bytes xs) (string_bytes k))
    by inner e Less = refl
    by inner e Equal = refl
    by inner e Greater = ap (λ (ts : List (List ℕ)). string_bytes x ∷ ts) e

pub texts_joined : (keys ts us : List (List ℕ)) → with_texts keys (ts ++ us) ≡ with_texts (with_texts keys ts) us
texts_joined keys [] us = refl
texts_joined keys (t ∷ ts) us = texts_joined (insert_key (slice_cmp nat_cmp) keys t) ts us

abbrev is_unlinked : ContextReference → Bool
is_unlinked r = is_none (target r)

among-append : (atoms : List (List ℕ)) (s : SyntaxReference) (rs qs : List ContextReference) → unlinked_among atoms s (rs ++ qs) ≡ unlinked_among atoms s rs ++ unlinked_among atoms s qs
among-append atoms s [] qs = refl
among-append atoms s (r ∷ rs) qs = by (among-append atoms s rs qs) (is_none (target r))
  where
    by : unlinked_among atoms s (rs ++ qs) ≡ unlinked_among atoms s rs ++ unlinked_among atoms s qs → (b : Bool)
        → map (unlinked_text atoms s) (cond b (r ∷ filter is_unlinked (rs ++ qs)) (filter is_unlinked (rs ++ qs)))
        ≡ map (unlinked_text atoms s) (cond b (r ∷ filter is_unlinked rs) (filter is_unlinked rs)) ++ unlinked_among atoms s qs
    by e true = ap (λ (ts : List (List ℕ)). unlinked_text atoms s r ∷ ts) e
    by e false = e

pub with_unlinked : (atoms : List (List ℕ)) (s : SyntaxReference) (keys : List (List ℕ)) (rs qs : List ContextReference)
    → with_texts keys (unlinked_among atoms s (rs ++ qs)) ≡ with_texts (with_texts keys (unlinked_among atoms s rs)) (unlinked_among atoms s qs)
with_unlinked atoms s keys rs qs = ap (with_texts keys) (among-append atoms s rs qs) ∙ texts_joined keys (unlinked_among atoms s rs) (unlinked_among atoms s qs)

-- ---- loops ----

next_at : {X : Type 0} (xs : List X) (i : ℕ) (x : X) → i < length xs → x ≡ get_or xs i x → drop i xs ≡ x ∷ drop (i + 1) xs
next_at xs i x l e =
    let k : suc i ≡ i + 1 = omega arith in
    drop-cons xs i x l ∙ ap (λ (y : _). y ∷ drop (suc i) xs) (sym e) ∙ ap (λ (n : ℕ). x ∷ drop n xs) k

-- the references of one more thing
pub more_unlinked : {X : Type 0} (atoms : List (List ℕ)) (s : SyntaxReference) (given : X → List ContextReference) (keys after : List (List ℕ)) (xs : List X) (i : ℕ) (x : X)
    → i < length xs → x ≡ get_or xs i x → after ≡ with_texts keys (unlinked_among atoms s (given x))
    → with_texts after (unlinked_among atoms s (flat_map given (drop (i + 1) xs))) ≡ with_texts keys (unlinked_among atoms s (flat_map given (drop i xs)))
more_unlinked atoms s given keys after xs i x l e f =
    ap (λ (ks : List (List ℕ)). with_texts ks (unlinked_among atoms s (flat_map given (drop (i + 1) xs)))) f
    ∙ sym (with_unlinked atoms s keys (given x) (flat_map given (drop (i + 1) xs)))
    ∙ ap (λ (ys : List _). with_texts keys (unlinked_among atoms s (flat_map given ys))) (sym (next_at xs i x l e))

-- the texts of one more thing
pub more_texts : {X : Type 0} (given : X → List (List ℕ)) (keys after : List (List ℕ)) (xs : List X) (i : ℕ) (x : X)
    → i < length xs → x ≡ get_or xs i x → after ≡ with_texts keys (given x)
    → with_texts after (flat_map given (drop (i + 1) xs)) ≡ with_texts keys (flat_map given (drop i xs))
more_texts given keys after xs i x l e f =
    ap (λ (ks : List (List ℕ)). with_texts ks (flat_map given (drop (i + 1) xs))) f
    ∙ sym (texts_joined keys (given x) (flat_map given (drop (i + 1) xs)))
    ∙ ap (λ (ys : List _). with_texts keys (flat_map given ys)) (sym (next_at xs i x l e))
