-- The characters of equal simple folding with one of a range.
use Rattle.std.proofs.Common.{◌≡◌, ℕ, zero, suc, ◌+◌, ◌-◌, ◌≤◌, ◌<◌, Bool, true, false, ◌||◌, refl, ap, arith, ◌⊎◌, inl, inr, ⊎_elim, take, drop, length, ne_eqb}
use Rattle.std.specs.List.{list_any, list_all}
use Rattle.std.specs.Prelude.{◌&&◌, ◌==◌, nat_le, nat_lt, Contains, List, [], ◌∷◌}
use Rattle.std.proofs.Common.{◌≢◌, sym, ◌∙◌, subst, eqb-true, eq-eqb, leb-true}
use Rattle.std.proofs.lemmas.Bool.{and_parts, cases_lt, le-leb, le-ltb, lt-leb}
use Rattle.std.proofs.lemmas.Bool.Decides.{nat_tests}
use Rattle.std.proofs.lemmas.List.Folds.{list_any-append}
use Rattle.std.specs.Cmp.{both_ways as same_tests}
use Rattle.ucd_case.specs.CaseFolding.{simple_fold, fold_pairs, IsFoldPairs}
use Rattle.ucd_case.specs.FoldOtherRows.{fold_other_rows}
use Rattle.ucd_case.proofs.FoldPairsLemmas.{IsFoldPairs-fold_pairs}
use Rattle.std.proofs.lemmas.List.{take-append-drop}
use Rattle.syntect_pattern.specs.Sets.{numbers_from, same_fold, is_within, is_alike}
use Rattle.syntect_pattern_table.specs.SetTable.{folds_beyond}

or_true : (a b : Bool) → (a ≡ false → b ≡ true) → (a || b) ≡ true
or_true true b f = refl
or_true false b f = f refl

differs : (test : ℕ → Bool) (a b : ℕ) → test a ≡ false → test b ≡ true → a ≡ b → ⊥
differs test a b e f q = cc (ap test q)

any_from : (test : ℕ → Bool) (low n d : ℕ) → low ≤ d → d < low + n → test d ≡ true → list_any test (numbers_from low n) ≡ true
any_from test low zero d a b e = absurd (omega arith)
any_from test low (suc n) d a b e =
    or_true (test low) _ (λ no. let ne = differs test low d no e in any_from test (suc low) n d (omega arith) (omega arith) e)

pub or_cases : (a b : Bool) → (a || b) ≡ true → (a ≡ true) ⊎ (b ≡ true)
or_cases true b e = inl refl
or_cases false b e = inr e

some_from : (test : ℕ → Bool) (low n : ℕ) → list_any test (numbers_from low n) ≡ true → (d : ℕ) × (low ≤ d) × (d < low + n) × (test d ≡ true)
some_from test low zero e = cc
some_from test low (suc n) e =
    ⊎_elim (λ q. (low, omega arith, omega arith, q))
    (λ q. let r = some_from test (suc low) n q in (r.0, omega (arith, r.1), omega (arith, r.2), r.3))
    (or_cases (test low) (list_any test (numbers_from (suc low) n)) e)

-- a character of equal folding in the range makes it alike, and nothing else does
pub alike_from : (low high c d : ℕ) → low ≤ d → d ≤ high → same_fold d c ≡ true → is_alike low high c ≡ true
unfolding is_alike
alike_from low high c d a b e = any_from (λ x. same_fold x c) low (suc high - low) d a (omega arith) e

pub alike_to : (low high c : ℕ) → is_alike low high c ≡ true → (d : ℕ) × (low ≤ d) × (d ≤ high) × (same_fold d c ≡ true)
unfolding is_alike
alike_to low high c e =
    let r = some_from (λ x. same_fold x c) low (suc high - low) e in (r.0, r.1, omega (arith, r.1, r.2), r.3)

-- -- By the pairs of characters with equal folding

-- the pair is one of the character and of another in the range
abbrev pub joins : ℕ → ℕ → ℕ → ℕ × ℕ → Bool
joins low high c p = (p.0 == c) && is_within low high p.1

any_contains : (test : ℕ × ℕ → Bool) (ps : List (ℕ × ℕ)) (x : ℕ × ℕ) → Contains ps x → test x ≡ true → list_any test ps ≡ true
any_contains test [] x (k, lt, at) e = absurd (omega arith)
any_contains test (p ∷ ps) x (zero, lt, at) e = let head : test p ≡ true = ap test at ∙ e in or_true (test p) _ (λ no. absurd (cc))
any_contains test (p ∷ ps) x (suc k, lt, at) e = or_true (test p) _ (λ no. any_contains test ps x (k, omega arith, at) e)

some_contains : (test : ℕ × ℕ → Bool) (ps : List (ℕ × ℕ)) → list_any test ps ≡ true → (x : ℕ × ℕ) × Contains ps x × (test x ≡ true)
some_contains test [] e = cc
some_contains test (p ∷ ps) e =
    ⊎_elim (λ q. (p, (zero, omega arith, refl), q))
    (λ q. let r = some_contains test ps q in let at = r.1 in (r.0, (suc at.0, omega (arith, at.1), at.2), r.2))
    (or_cases (test p) (list_any test ps) e)

outside_of : (low high c : ℕ) → is_within low high c ≡ false → low ≤ c → c ≤ high → ⊥
outside_of low high c e a b = grind (arith, nat_tests)

inside_of : (low high c : ℕ) → is_within low high c ≡ true → (low ≤ c) × (c ≤ high)
inside_of low high c e = let p = and_parts (nat_le low c) (nat_le c high) e in (leb-true low c p.0, leb-true c high p.1)

pub alike_within : (low high c : ℕ) → is_within low high c ≡ true → is_alike low high c ≡ true
unfolding same_fold
alike_within low high c e = let w = inside_of low high c e in alike_from low high c c w.0 w.1 (eq-eqb (simple_fold c) (simple_fold c) refl)

joins_true : (low high c a b : ℕ) → a ≡ c → low ≤ b → b ≤ high → joins low high c (a, b) ≡ true
joins_true low high c a b e h k = grind (arith, nat_tests)

module _ (low high c : ℕ) (outside : is_within low high c ≡ false) (ps : List (ℕ × ℕ)) (are : IsFoldPairs ps) where
  pair_alike : (x : ℕ × ℕ) → Contains ps x → joins low high c x ≡ true → is_alike low high c ≡ true
  unfolding same_fold
  pair_alike x at e =
      let p = and_parts (x.0 == c) (is_within low high x.1) e in
      let w = inside_of low high x.1 p.1 in
      let equal = ((are x.0 x.1).0 at).1 in
      alike_from low high c x.1 w.0 w.1 (eq-eqb (simple_fold x.1) (simple_fold c) (sym equal ∙ ap simple_fold (eqb-true x.0 c p.0)))

  alike_pair : (d : ℕ) → low ≤ d → d ≤ high → same_fold d c ≡ true → list_any (joins low high c) ps ≡ true
  unfolding same_fold
  alike_pair d a b e =
      let other : c ≢ d = λ q. outside_of low high c outside (subst (λ x. low ≤ x) (sym q) a) (subst (λ x. x ≤ high) (sym q) b) in
      any_contains (joins low high c) ps (c, d) ((are c d).1 (other, sym (eqb-true (simple_fold d) (simple_fold c) e))) (joins_true low high c c d refl a b)

  pub alike_outside : list_any (joins low high c) ps ≡ is_alike low high c
  alike_outside =
      same_tests (list_any (joins low high c) ps) (is_alike low high c)
      (λ e. let r = some_contains (joins low high c) ps e in pair_alike r.0 r.1 r.2)
      (λ e. let r = alike_to low high c e in alike_pair r.0 r.1 r.2 r.3)

-- a character alone
pub alike_one : (low c : ℕ) → same_fold low c ≡ is_alike low low c
unfolding is_alike
alike_one low c =
    let one : suc low - low ≡ 1 = omega arith in
    let last : (b : Bool) → b ≡ (b || false) = λ b. elim b as (λ x. x ≡ (x || false)) [ true ↦ refl | false ↦ refl ] in
    last (same_fold low c) ∙ sym (ap (λ n. list_any (λ d. same_fold d c) (numbers_from low n)) one)

-- a character beside one alone, by the folding of the one
pub folds_alike : (low c folded lower : ℕ) → folded ≡ simple_fold low → simple_fold c ≡ lower → (folded == lower) ≡ is_alike low low c
unfolding same_fold
folds_alike low c folded lower e h = ap (λ n. n == lower) e ∙ ap (λ n. simple_fold low == n) (sym h) ∙ alike_one low c

-- a character in the range, or in a pair with one in the range
pub alike_pairs : (low high c : ℕ) (ps : List (ℕ × ℕ)) → IsFoldPairs ps → (is_within low high c || list_any (joins low high c) ps) ≡ is_alike low high c
alike_pairs low high c ps are = go (is_within low high c) refl
  where
    go : (b : Bool) → is_within low high c ≡ b → (b || list_any (joins low high c) ps) ≡ is_alike low high c
    go true h = sym (alike_within low high c h)
    go false h = alike_outside low high c h ps are

pub or_same : (t a b c d : Bool) → t ≡ (a || b) → a ≡ c → b ≡ d → t ≡ (c || d)
or_same t a b c d e h k = e ∙ ap (λ x. x || b) h ∙ ap (λ x. c || x) k

-- -- The pairs of ASCII characters

abbrev is_far : ℕ × ℕ → Bool
is_far p = nat_le 128 p.0

far_pairs : list_all is_far (drop 56 fold_pairs) ≡ true
unfolding fold_pairs fold_other_rows
far_pairs = refl

pub enough_pairs : 56 ≤ length fold_pairs
unfolding fold_pairs fold_other_rows
enough_pairs = omega arith

none_far : (low high c : ℕ) → c < 128 → (ps : List (ℕ × ℕ)) → list_all is_far ps ≡ true → list_any (joins low high c) ps ≡ false
none_far low high c l [] e = refl
none_far low high c l (p ∷ ps) e =
    let q = and_parts (is_far p) (list_all is_far ps) e in
    let far : 128 ≤ p.0 = leb-true 128 p.0 q.0 in
    ap (λ b. (b && is_within low high p.1) || list_any (joins low high c) ps) (ne_eqb p.0 c (λ is. omega (arith, is, far, l))) ∙ none_far low high c l ps q.1

-- an ASCII character stands in no other pair as the first one
pub near_enough : (low high c : ℕ) → c < 128 → list_any (joins low high c) (take 56 fold_pairs) ≡ list_any (joins low high c) fold_pairs
near_enough low high c l =
    sym (ap (list_any (joins low high c)) (sym (take-append-drop 56 fold_pairs))
    ∙ list_any-append (joins low high c) (take 56 fold_pairs) (drop 56 fold_pairs)
    ∙ ap (λ b. list_any (joins low high c) (take 56 fold_pairs) || b) (none_far low high c l (drop 56 fold_pairs) far_pairs)
    ∙ or_none (list_any (joins low high c) (take 56 fold_pairs)))
  where
    or_none : (b : Bool) → (b || false) ≡ b
    or_none true = refl
    or_none false = refl

-- -- Beyond ASCII

abbrev is_folded_beyond : ℕ → Bool
is_folded_beyond c = (c == 0x4B) || ((c == 0x53) || ((c == 0x6B) || (c == 0x73)))

-- the pair is none of an ASCII character and one beyond, or its first is one of those letters
abbrev is_near : ℕ × ℕ → Bool
is_near p = nat_le 128 p.0 || (nat_lt p.1 128 || is_folded_beyond p.0)

pairs_near : list_all is_near fold_pairs ≡ true
unfolding fold_pairs fold_other_rows
pairs_near = refl

all_contains : (test : ℕ × ℕ → Bool) (ps : List (ℕ × ℕ)) (x : ℕ × ℕ) → list_all test ps ≡ true → Contains ps x → test x ≡ true
all_contains test [] x e (k, lt, at) = absurd (omega arith)
all_contains test (p ∷ ps) x e (zero, lt, at) = let q = and_parts (test p) (list_all test ps) e in sym (let head : test p ≡ test x = ap test at in head) ∙ q.0
all_contains test (p ∷ ps) x e (suc k, lt, at) = let q = and_parts (test p) (list_all test ps) e in all_contains test ps x q.1 (k, omega arith, at)

or_left : (a b : Bool) → a ≡ true → (a || b) ≡ true
or_left true b e = refl
or_left false b e = cc

or_right : (a b : Bool) → b ≡ true → (a || b) ≡ true
or_right true b e = refl
or_right false b e = e

or_second : (a b : Bool) → a ≡ false → (a || b) ≡ true → b ≡ true
or_second true b e h = cc
or_second false b e h = h

near_folded : (d c : ℕ) → d < 128 → 128 ≤ c → is_near (d, c) ≡ true → is_folded_beyond d ≡ true
near_folded d c l h e =
    or_second (nat_lt c 128) (is_folded_beyond d) (le-ltb c 128 h) (or_second (nat_le 128 d) (nat_lt c 128 || is_folded_beyond d) (lt-leb 128 d l) e)

folds_beyond_from : (low high d : ℕ) → low ≤ d → d ≤ high → is_folded_beyond d ≡ true → folds_beyond low high ≡ true
folds_beyond_from low high d a b e = grind (arith, nat_tests)

-- an ASCII character that is alike to one beyond is one of those letters
pub alike_wide : (low high c : ℕ) → 128 ≤ c → is_alike low high c ≡ true → (nat_le 128 high || folds_beyond low high) ≡ true
unfolding same_fold
alike_wide low high c l e = elim (cases_lt high 128) [
  | inl h ↦
      let r = alike_to low high c e in
      let inside : r.0 < 128 = omega (arith, r.2) in
      let other : r.0 ≢ c = (λ q. omega arith) in
      let pair = (IsFoldPairs-fold_pairs r.0 c).1 (other, eqb-true (simple_fold r.0) (simple_fold c) r.3) in
      or_right (nat_le 128 high) (folds_beyond low high)
      (folds_beyond_from low high r.0 r.1 r.2 (near_folded r.0 c inside l (all_contains is_near fold_pairs (r.0, c) pairs_near pair)))
  | inr h ↦ or_left (nat_le 128 high) (folds_beyond low high) (le-leb 128 high h)
]
