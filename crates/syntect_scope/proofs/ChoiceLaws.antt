-- The pass that takes each scope of a path at the first place finds the least choice.
use Rattle.std.proofs.Common.{◌≡◌, ◌==◌, ℕ, suc, ◌+◌, ◌*◌, ◌^◌, ◌≤◌, ◌<◌, Bool, true, false, ◌&&◌, List, [], ◌∷◌, ◌++◌, length, map, Some, None, Option, refl, sym, ap, ◌∙◌, arith, if◌then◌else◌, is_some, unwrap_or, max}
use Rattle.std.specs.Prelude.{nat_le}
use Rattle.std.specs.Option.{option_map}
use Rattle.std.specs.List.{find, list_all}
use Rattle.std.proofs.lemmas.Bool.Decides.{nat_tests}
use Rattle.syntect_scope.specs.Atoms.{is_prefix}
use Rattle.syntect_scope.specs.Choice.{choices, is_below, least_choice, score_at, path_score, greater_score}
use Rattle.syntect_scope.specs.Greedy.{greedy, greedy_score, passes}

-- ---- all choices lie at or above one ----

-- each of the choices lies at or above this one
AllAbove : List ℕ → List (List ℕ) → Type 0
AllAbove ps cs = list_all (is_below ps) cs ≡ true

both : (a b : Bool) → (a && b) ≡ true → (a ≡ true) × (b ≡ true)
both true b h = (refl, h)
both false b h = cc

and_true : (a b : Bool) → a ≡ true → b ≡ true → (a && b) ≡ true
and_true a b e f = rw (e, f) refl

all_append : (p : List ℕ → Bool) (xs ys : List (List ℕ)) → list_all p xs ≡ true → list_all p ys ≡ true → list_all p (xs ++ ys) ≡ true
all_append p [] ys h k = k
all_append p (x ∷ xs) ys h k = let b : (p x ≡ true) × (list_all p xs ≡ true) = both (p x) (list_all p xs) h in and_true (p x) (list_all p (xs ++ ys)) b.0 (all_append p xs ys b.1 k)

all_right : (p : List ℕ → Bool) (xs ys : List (List ℕ)) → list_all p (xs ++ ys) ≡ true → list_all p ys ≡ true
all_right p [] ys h = h
all_right p (x ∷ xs) ys h = all_right p xs ys (both (p x) (list_all p (xs ++ ys)) h).1

le_true : (a b : ℕ) → a ≤ b → nat_le a b ≡ true
le_true a b h = grind (arith, nat_tests)

-- the choices for a path in the rest of a stack are among those in the stack
later_above : (p : List ℕ → Bool) (path : List (List ℕ)) (t : List ℕ) (stack : List (List ℕ)) (at : ℕ) → list_all p (choices path (t ∷ stack) at) ≡ true → list_all p (choices path stack (suc at)) ≡ true
later_above p [] t stack at h = h
later_above p (s ∷ path) t stack at h = all_right p (if is_prefix s t then map (λ ps. at ∷ ps) (choices path stack (suc at)) else []) (choices (s ∷ path) stack (suc at)) h

map_above : (low at : ℕ) (ps : List ℕ) (cs : List (List ℕ)) → low ≤ at → list_all (is_below ps) cs ≡ true → list_all (is_below (low ∷ ps)) (map (λ qs. at ∷ qs) cs) ≡ true
map_above low at ps [] l h = refl
map_above low at ps (c ∷ cs) l h =
    let b : (is_below ps c ≡ true) × (list_all (is_below ps) cs ≡ true) = both (is_below ps c) (list_all (is_below ps) cs) h in
    and_true (nat_le low at && is_below ps c) (list_all (is_below (low ∷ ps)) (map (λ qs. at ∷ qs) cs)) (and_true (nat_le low at) (is_below ps c) (le_true low at l) b.0) (map_above low at ps cs l b.1)

if_above : (p : List ℕ → Bool) (b : Bool) (xs ys : List (List ℕ)) → list_all p xs ≡ true → list_all p ys ≡ true → list_all p ((if b then xs else []) ++ ys) ≡ true
if_above p true xs ys h k = all_append p xs ys h k
if_above p false xs ys h k = k

-- one more scope before the path: its places lie at or above a lower place
one_more_above : (low at : ℕ) (ps s : List ℕ) (path stack : List (List ℕ)) → low ≤ at → list_all (is_below ps) (choices path stack at) ≡ true → list_all (is_below (low ∷ ps)) (choices (s ∷ path) stack at) ≡ true
one_more_above low at ps s path [] l h = refl
one_more_above low at ps s path (t ∷ stack) l h =
    let rest : list_all (is_below ps) (choices path stack (suc at)) ≡ true = later_above (is_below ps) path t stack at h in
    if_above (is_below (low ∷ ps)) (is_prefix s t) (map (λ qs. at ∷ qs) (choices path stack (suc at))) (choices (s ∷ path) stack (suc at))
    (map_above low at ps (choices path stack (suc at)) l rest) (one_more_above low (suc at) ps s path stack (omega (arith, l)) rest)

-- ---- no choice ----

none_right : (xs ys : List (List ℕ)) → xs ++ ys ≡ [] → ys ≡ []
none_right [] ys h = h
none_right (x ∷ xs) ys h = cc

later_none : (path : List (List ℕ)) (t : List ℕ) (stack : List (List ℕ)) (at : ℕ) → choices path (t ∷ stack) at ≡ [] → choices path stack (suc at) ≡ []
later_none [] t stack at h = cc
later_none (s ∷ path) t stack at h = none_right (if is_prefix s t then map (λ ps. at ∷ ps) (choices path stack (suc at)) else []) (choices (s ∷ path) stack (suc at)) h

if_none : (at : ℕ) (b : Bool) (xs ys : List (List ℕ)) → xs ≡ [] → ys ≡ [] → (if b then map (λ ps. at ∷ ps) xs else []) ++ ys ≡ []
if_none at true xs ys h k = rw (h, k) refl
if_none at false xs ys h k = k

one_more_none : (at : ℕ) (s : List ℕ) (path stack : List (List ℕ)) → choices path stack at ≡ [] → choices (s ∷ path) stack at ≡ []
one_more_none at s path [] h = refl
one_more_none at s path (t ∷ stack) h =
    let rest : choices path stack (suc at) ≡ [] = later_none path t stack at h in
    if_none at (is_prefix s t) (choices path stack (suc at)) (choices (s ∷ path) stack (suc at)) rest (one_more_none (suc at) s path stack rest)

-- ---- the pass ----

-- what the pass answers begins the list of choices, and they all lie at or above it
abbrev pub Begins : Option (List ℕ) → List (List ℕ) → Type 0
Begins None cs = cs ≡ []
Begins (Some ps) cs = (list_all (is_below ps) cs ≡ true) × ((rest : List (List ℕ)) × (cs ≡ ps ∷ rest))

taken : (at : ℕ) (s : List ℕ) (path stack : List (List ℕ)) (o : Option (List ℕ)) → Begins o (choices path stack (suc at))
    → Begins (option_map (λ ps. at ∷ ps) o) (map (λ ps. at ∷ ps) (choices path stack (suc at)) ++ choices (s ∷ path) stack (suc at))
taken at s path stack None h = if_none at true (choices path stack (suc at)) (choices (s ∷ path) stack (suc at)) h (one_more_none (suc at) s path stack h)
taken at s path stack (Some ps) h = (
  all_append (is_below (at ∷ ps)) (map (λ qs. at ∷ qs) (choices path stack (suc at))) (choices (s ∷ path) stack (suc at))
      (map_above at at ps (choices path stack (suc at)) (omega arith) h.0) (one_more_above at (suc at) ps s path stack (omega arith) h.0),
  (map (λ qs. at ∷ qs) h.1.0 ++ choices (s ∷ path) stack (suc at), ap (λ (cs : List (List ℕ)). map (λ qs. at ∷ qs) cs ++ choices (s ∷ path) stack (suc at)) h.1.1),
)

by_test : (at : ℕ) (s : List ℕ) (path stack : List (List ℕ)) (b : Bool) → Begins (greedy path stack (suc at)) (choices path stack (suc at)) → Begins (greedy (s ∷ path) stack (suc at)) (choices (s ∷ path) stack (suc at))
    → Begins (if b then option_map (λ ps. at ∷ ps) (greedy path stack (suc at)) else greedy (s ∷ path) stack (suc at)) ((if b then map (λ ps. at ∷ ps) (choices path stack (suc at)) else []) ++ choices (s ∷ path) stack (suc at))
by_test at s path stack true h k = taken at s path stack (greedy path stack (suc at)) h
by_test at s path stack false h k = k

pub greedy_begins : (path stack : List (List ℕ)) (at : ℕ) → Begins (greedy path stack at) (choices path stack at)
greedy_begins [] stack at = (refl, ([], refl))
greedy_begins (s ∷ path) [] at = refl
greedy_begins (s ∷ path) (t ∷ stack) at = by_test at s path stack (is_prefix s t) (greedy_begins path stack (suc at)) (greedy_begins (s ∷ path) stack (suc at))

first_found : (p : List ℕ → Bool) (o : Option (List ℕ)) (cs : List (List ℕ)) → ((ps : List ℕ) → o ≡ Some ps → p ps ≡ true) → Begins o cs → find p cs ≡ o
first_found p None cs h b = rw b refl
first_found p (Some ps) cs h b = rw (b.1.1, h ps refl) refl

some_is : {a b : List ℕ} → Some a ≡ Some b → a ≡ b
some_is {a} e = ap (λ (o : Option (List ℕ)). unwrap_or o a) e

least : (o : Option (List ℕ)) (cs : List (List ℕ)) → Begins o cs → find (λ ps. list_all (is_below ps) cs) cs ≡ o
least None cs b = first_found (λ ps. list_all (is_below ps) cs) None cs (λ ps e. cc) b
least (Some qs) cs b = first_found (λ ps. list_all (is_below ps) cs) (Some qs) cs (λ ps e. ap (λ (l : List ℕ). list_all (is_below l) cs) (sym (some_is e)) ∙ b.0) b

-- the pass finds the least choice
pub greedy_least : (path stack : List (List ℕ)) → least_choice path stack ≡ greedy path stack 0
greedy_least path stack = least (greedy path stack 0) (choices path stack 0) (greedy_begins path stack 0)

-- ---- the score ----

mapped : (s : List ℕ) (path : List (List ℕ)) (at : ℕ) (o : Option (List ℕ)) → option_map (score_at (s ∷ path)) (option_map (λ ps. at ∷ ps) o) ≡ option_map (λ n. length s * 8 ^ at + n) (option_map (score_at path) o)
mapped s path at None = refl
mapped s path at (Some ps) = refl

score_by_test : (at : ℕ) (s : List ℕ) (path stack : List (List ℕ)) (b : Bool) → option_map (score_at path) (greedy path stack (suc at)) ≡ greedy_score path stack (suc at)
    → option_map (score_at (s ∷ path)) (greedy (s ∷ path) stack (suc at)) ≡ greedy_score (s ∷ path) stack (suc at)
    → option_map (score_at (s ∷ path)) (if b then option_map (λ ps. at ∷ ps) (greedy path stack (suc at)) else greedy (s ∷ path) stack (suc at))
    ≡ (if b then option_map (λ n. length s * 8 ^ at + n) (greedy_score path stack (suc at)) else greedy_score (s ∷ path) stack (suc at))
score_by_test at s path stack true h k = mapped s path at (greedy path stack (suc at)) ∙ ap (option_map (λ n. length s * 8 ^ at + n)) h
score_by_test at s path stack false h k = k

pub greedy_scores : (path stack : List (List ℕ)) (at : ℕ) → option_map (score_at path) (greedy path stack at) ≡ greedy_score path stack at
greedy_scores [] stack at = refl
greedy_scores (s ∷ path) [] at = refl
greedy_scores (s ∷ path) (t ∷ stack) at = score_by_test at s path stack (is_prefix s t) (greedy_scores path stack (suc at)) (greedy_scores (s ∷ path) stack (suc at))

-- the pass has the score of a path
pub greedy_path_score : (path stack : List (List ℕ)) → path_score path stack ≡ greedy_score path stack 0
greedy_path_score path stack = ap (option_map (score_at path)) (greedy_least path stack) ∙ greedy_scores path stack 0

-- the path has been found
pub power_found : (power : ℕ) (rest path stack later : List (List ℕ)) (at : ℕ) → length rest ≡ 0 → option_map (λ n. power + n) (greedy_score rest later at) ≡ greedy_score path stack 0 → Some power ≡ path_score path stack
power_found power [] path stack later at e h = let z : power ≡ power + 0 = omega arith in ap Some z ∙ h ∙ sym (greedy_path_score path stack)
power_found power (s ∷ rest) path stack later at e h = absurd (omega (arith, e))

-- the stack ends before it is found
pub power_lost : (power : ℕ) (rest path stack later : List (List ℕ)) (at : ℕ) → 0 < length rest → length later ≡ 0 → option_map (λ n. power + n) (greedy_score rest later at) ≡ greedy_score path stack 0 → None ≡ path_score path stack
power_lost power [] path stack later at l e h = absurd (omega (arith, l))
power_lost power (s ∷ rest) path stack [] at l e h = h ∙ sym (greedy_path_score path stack)
power_lost power (s ∷ rest) path stack (t ∷ later) at l e h = absurd (omega (arith, e))

some_if : (at : ℕ) (o : Option (List ℕ)) → is_some (option_map (λ ps. at ∷ ps) o) ≡ is_some o
some_if at None = refl
some_if at (Some ps) = refl

passes_by_test : (at : ℕ) (s : List ℕ) (path stack : List (List ℕ)) (b : Bool) → passes path stack ≡ is_some (greedy path stack (suc at)) → passes (s ∷ path) stack ≡ is_some (greedy (s ∷ path) stack (suc at))
    → (if b then passes path stack else passes (s ∷ path) stack) ≡ is_some (if b then option_map (λ ps. at ∷ ps) (greedy path stack (suc at)) else greedy (s ∷ path) stack (suc at))
passes_by_test at s path stack true h k = h ∙ sym (some_if at (greedy path stack (suc at)))
passes_by_test at s path stack false h k = k

passes_greedy : (path stack : List (List ℕ)) (at : ℕ) → passes path stack ≡ is_some (greedy path stack at)
passes_greedy [] stack at = refl
passes_greedy (s ∷ path) [] at = refl
passes_greedy (s ∷ path) (t ∷ stack) at = passes_by_test at s path stack (is_prefix s t) (passes_greedy path stack (suc at)) (passes_greedy (s ∷ path) stack (suc at))

-- the pass goes through where there is a choice
pub passes_choice : (path stack : List (List ℕ)) → passes path stack ≡ is_some (least_choice path stack)
passes_choice path stack = passes_greedy path stack 0 ∙ ap is_some (sym (greedy_least path stack))

pub path_found : (rest path stack later : List (List ℕ)) → length rest ≡ 0 → passes rest later ≡ passes path stack → true ≡ is_some (least_choice path stack)
path_found [] path stack later e h = h ∙ passes_choice path stack
path_found (s ∷ rest) path stack later e h = absurd (omega (arith, e))

-- the stack has ended
pub path_left : (rest path stack later : List (List ℕ)) → length later ≡ 0 → passes rest later ≡ passes path stack → (length rest == 0) ≡ is_some (least_choice path stack)
path_left [] path stack later e h = path_found [] path stack later refl h
path_left (s ∷ rest) path stack [] e h = let z : (suc (length rest) == 0) ≡ false = grind (arith, nat_tests) in z ∙ h ∙ passes_choice path stack
path_left (s ∷ rest) path stack (t ∷ later) e h = absurd (omega (arith, e))

-- ---- the greater of scores ----

pub greater_assoc : (a b c : Option ℕ) → greater_score a (greater_score b c) ≡ greater_score (greater_score a b) c
greater_assoc None b c = refl
greater_assoc (Some m) None c = refl
greater_assoc (Some m) (Some n) None = refl
greater_assoc (Some m) (Some n) (Some k) = let e : max m (max n k) ≡ max (max m n) k = omega arith in ap Some e

pub greater_none : (a : Option ℕ) → greater_score a None ≡ a
greater_none None = refl
greater_none (Some m) = refl
