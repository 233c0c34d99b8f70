-- Lines of bytes, and what stands at paths.
use Rattle.std.proofs.Common.{◌≡◌, ℕ, suc, ◌+◌, ◌<◌, ◌==◌, Bool, true, false, not, cond, List, [], ◌∷◌, length, take, drop, get_or, refl, ap, sym, ◌∙◌, Bor, Option, Some, arith}
use Rattle.std.proofs.lemmas.List.{at_drop_more}
use Rattle.std.specs.Cmp.Lexicographic.{pointwise}
use Rattle.std.specs.Io.BufRead.{take_through}
use Rattle.std.specs.List.{position_or_len}
use Rattle.syntect_test_trees.specs.Fakes.{thing_at}
use Rattle.syntect_test_trees.specs.declared.fake.Thing.{Thing}

-- ---- first lines ----

abbrev is_feed : ℕ → Bool
is_feed b = b == 10

taken_on : (x : ℕ) (xs : List ℕ) (b : Bool) → take (position_or_len is_feed xs + 1) xs ≡ take_through 10 xs
    → take (cond (not b) (1 + position_or_len is_feed xs) 0 + 1) (x ∷ xs) ≡ cond b (x ∷ []) (x ∷ take_through 10 xs)
taken_on x xs true more = refl
taken_on x xs false more =
    let next : 1 + position_or_len is_feed xs + 1 ≡ suc (position_or_len is_feed xs + 1) = omega arith in
    ap (λ (n : ℕ). take n (x ∷ xs)) next ∙ ap (λ (l : List ℕ). x ∷ l) more

taken : (xs : List ℕ) → take (position_or_len is_feed xs + 1) xs ≡ take_through 10 xs
taken [] = refl
taken (x ∷ xs) = taken_on x xs (is_feed x) (taken xs)

whole_on : (x : ℕ) (xs : List ℕ) (b : Bool) → is_feed x ≡ b → position_or_len is_feed (x ∷ xs) ≡ length (x ∷ xs) → (position_or_len is_feed xs ≡ length xs → xs ≡ take_through 10 xs) → x ∷ xs ≡ take_through 10 (x ∷ xs)
whole_on x xs true q e more = absurd (omega (arith, rw q at e))
whole_on x xs false q e more = rw q (ap (λ (l : List ℕ). x ∷ l) (more (omega (arith, rw q at e))))

whole : (xs : List ℕ) → position_or_len is_feed xs ≡ length xs → xs ≡ take_through 10 xs
whole [] e = refl
whole (x ∷ xs) e = whole_on x xs (is_feed x) refl e (whole xs)

-- where no line feed stands, all is one line; and else it is what stands before, with the line feed
pub line_whole : (xs : List ℕ) (n : ℕ) → n ≡ position_or_len (λ b. b == 10) xs → n ≡ length xs → xs ≡ take_through 10 xs
line_whole xs n at all = whole xs (sym at ∙ all)

pub line_taken : (xs front : List ℕ) (n : ℕ) → n ≡ position_or_len (λ b. b == 10) xs → front ≡ take (n + 1) xs → front ≡ take_through 10 xs
line_taken xs front n at is = is ∙ ap (λ (k : ℕ). take (k + 1) xs) at ∙ taken xs

-- ---- paths ----

next_at : (path : List ℕ) (es : List (Bor (List ℕ) × Thing)) (i : ℕ) (e : Bor (List ℕ) × Thing) → i < length es → e ≡ get_or es i e
    → thing_at path (drop i es) ≡ cond (pointwise ◌==◌ e.0.now path) (Some e.1) (thing_at path (drop (i + 1) es))
next_at path es i e l at = at_drop_more (thing_at path) es i e l ∙ ap (λ (x : Bor (List ℕ) × Thing). thing_at path (x ∷ drop (i + 1) es)) (sym at)

-- an entry of the path is found; one of another path is passed over
pub found_here : (path : List ℕ) (es : List (Bor (List ℕ) × Thing)) (i : ℕ) (e : Bor (List ℕ) × Thing) → i < length es → e ≡ get_or es i e → pointwise ◌==◌ e.0.now path ≡ true → thing_at path (drop i es) ≡ thing_at path es
    → Some e.1 ≡ thing_at path es
found_here path es i e l at same rest = ap (λ (b : Bool). cond {A = Option Thing} b (Some e.1) (thing_at path (drop (i + 1) es))) (sym same) ∙ sym (next_at path es i e l at) ∙ rest

pub goes_on : (path : List ℕ) (es : List (Bor (List ℕ) × Thing)) (i : ℕ) (e : Bor (List ℕ) × Thing) → i < length es → e ≡ get_or es i e → pointwise ◌==◌ e.0.now path ≡ false → thing_at path (drop i es) ≡ thing_at path es
    → thing_at path (drop (i + 1) es) ≡ thing_at path es
goes_on path es i e l at other rest = ap (λ (b : Bool). cond {A = Option Thing} b (Some e.1) (thing_at path (drop (i + 1) es))) (sym other) ∙ sym (next_at path es i e l at) ∙ rest
