-- Where no match can begin.
use Rattle.std.proofs.Common.{◌≡◌, ◌<◌, ◌≤◌, ◌||◌, ℕ, zero, suc, refl, Bool, true, false, not, Some, List, length, get_or, sym, ◌∙◌, ap, arith, inl, inr, min, below_more, length-append, [], ◌∷◌, ◌++◌, subst}
use Rattle.std.specs.Prelude.{if◌then◌else◌, nat_lt, IsUtf8, IsCharBoundary, slice_get}
use Rattle.std.proofs.lemmas.Bool.{lt-ltb, le-ltb, cases_lt}
use Rattle.std.proofs.Math.ListN.{get_or-append}
use Rattle.std.proofs.Math.Seq.{get_or-append_seam}
use Rattle.syntect_pattern.specs.Sets.{Set}
use Rattle.syntect_pattern.specs.Trees.{Tree, nothing, one_of, seq}
use Rattle.syntect_pattern_table.specs.Starts.{start_at, AreFirsts, AreWithin, Begin, Begins, KeepsRows, begins, begins_at, can_hold, firsts_at, is_in, none_there, reads, row_at, sequence_begins, stays}
use Rattle.syntect_pattern_table.specs.declared.starts.Firsts.{Firsts}
use Rattle.syntect_pattern_table.specs.declared.starts.Places.{Places}
use Rattle.syntect_pattern.specs.Matches.{Groups, matches}
use Rattle.syntect_pattern_table.specs.Program.{CannotBegin}
use Rattle.syntect_pattern_table.specs.declared.program.Program.{Program}
use Rattle.syntect_pattern_table.proofs.PlaceLaws.{none_in}
use Rattle.syntect_pattern_table.proofs.StartLaws.{dead-at, found_at-nothing}

-- the flag of what stands at the place tells
pub cannot_begin : (s : List ℕ) → IsUtf8 s → (p : Program) (i x : ℕ) → start_at s i ≡ x → x < 130 → get_or p.starts x true ≡ false → CannotBegin s p i
cannot_begin s u p i x h l f tree is =
    found_at-nothing s u tree i (ap (λ y. reads tree y || stays tree y) h ∙ sym (is.starts x l) ∙ f)

-- what stands at the place
pub start-past : (s : List ℕ) (i : ℕ) → length s ≤ i → start_at s i ≡ 129
unfolding start_at
start-past s i h = ap (λ b. if b then (if nat_lt (get_or s i 0) 128 then get_or s i 0 else 128) else 129) (le-ltb i (length s) h)

pub start-ascii : (s : List ℕ) (i : ℕ) → i < length s → get_or s i 0 < 128 → start_at s i ≡ get_or s i 0
unfolding start_at
start-ascii s i h l =
    ap (λ b. if b then (if nat_lt (get_or s i 0) 128 then get_or s i 0 else 128) else 129) (lt-ltb i (length s) h)
    ∙ ap (λ b. if b then get_or s i 0 else 128) (lt-ltb (get_or s i 0) 128 l)

pub start-wide : (s : List ℕ) (i : ℕ) → i < length s → 128 ≤ get_or s i 0 → start_at s i ≡ 128
unfolding start_at
start-wide s i h l =
    ap (λ b. if b then (if nat_lt (get_or s i 0) 128 then get_or s i 0 else 128) else 129) (lt-ltb i (length s) h)
    ∙ ap (λ b. if b then get_or s i 0 else 128) (le-ltb (get_or s i 0) 128 l)

-- there are 130 things that can
pub start-bound : (s : List ℕ) (i : ℕ) → start_at s i < 130
start-bound s i = elim (cases_lt i (length s)) [
  | inl h ↦ elim (cases_lt (get_or s i 0) 128) [
    | inl l ↦ omega (arith, start-ascii s i h l)
    | inr g ↦ omega (arith, start-wide s i h g)
  ]
  | inr h ↦ omega (arith, start-past s i h)
]

pub start-min : (s : List ℕ) (i m : ℕ) → i < length s → m ≡ min (get_or s i 0) 128 → m ≡ start_at s i
start-min s i m h is = elim (cases_lt (get_or s i 0) 128) [
  | inl l ↦ sym (start-ascii s i h l ∙ (let b : get_or s i 0 ≡ m = omega (arith, is) in b))
  | inr g ↦ sym (start-wide s i h g ∙ (let b : 128 ≡ m = omega (arith, is) in b))
]

-- the flag of a byte tells
pub cannot_begin-at : (s : List ℕ) → IsUtf8 s → (p : Program) (i m : ℕ) → i < length s → m ≡ min (get_or s i 0) 128 → get_or p.starts m true ≡ false → CannotBegin s p i
cannot_begin-at s u p i m h is f = cannot_begin s u p i m (sym (start-min s i m h is)) (omega (arith, is)) f

-- -- The places of each node

some_got : (ps : List Places) (k : ℕ) (p : Places) → Some p ≡ slice_get ps k → (k < length ps) × (get_or ps k p ≡ p)
some_got [] zero p e = cc
some_got [] (suc k) p e = cc
some_got (x ∷ ps) zero p e = let h : Some p ≡ Some x = e in (omega arith, cc)
some_got (x ∷ ps) (suc k) p e = let r = some_got ps k p e in (omega (arith, r.0), r.1)

-- a node that can't begin where this stands has no match
pub dead-known : (s : List ℕ) → IsUtf8 s → (i : ℕ) → IsCharBoundary s i → (ps : List Places) (ts : List Tree) → AreFirsts ps ts → (k : ℕ) (p : Places) → Some p ≡ slice_get ps k
    → (x : ℕ) → x ≡ start_at s i → x < 130 → (b : Bool) → b ≡ is_in p x → not b ≡ true → (g : Groups) → matches s (get_or ts k nothing) i g ≡ []
dead-known s u i at ps ts known k p got x is l false e h =
    let r = some_got ps k p got in
    dead-at s u (get_or ts k nothing) i
    (ap (λ y. reads (get_or ts k nothing) y || stays (get_or ts k nothing) y) (sym is) ∙ sym (known k x p r.0 l) ∙ ap (λ (q : Places). is_in q x) r.1 ∙ sym e) at
dead-known s u i at ps ts known k p got x is l true e h = cc

-- a row stays what it is when more are added
row-stays : (p : Places) (fs fs' : List Firsts) (row : ℕ) → KeepsRows fs fs' → row ≤ length fs → row_at p fs' row ≡ row_at p fs row
row-stays p fs fs' zero g l = refl
row-stays p fs fs' (suc n) g l = g.same n (record { read = none_there; stay = none_there }) (omega (arith, l))

pub GoesOn-same : (fs : List Firsts) → KeepsRows fs fs
GoesOn-same fs = record { longer = omega arith; same = λ n d l. refl }

pub GoesOn-push : (fs : List Firsts) (f : Firsts) → KeepsRows fs (fs ++ f ∷ [])
GoesOn-push fs f = record { longer = omega (arith, length-append fs (f ∷ [])); same = λ n d l. get_or-append fs (f ∷ []) d n l }

-- the row that was added last
pub row-last : (p : Places) (fs : List Firsts) (f : Firsts) → row_at p (fs ++ f ∷ []) (suc (length fs)) ≡ f
row-last p fs f = get_or-append_seam fs f [] (record { read = none_there; stay = none_there })

or_none : (b : Bool) → (b || false) ≡ b
or_none true = refl
or_none false = refl

-- a part that begins nowhere without reading something begins where it reads something
pub row-none : (p : Places) (fs : List Firsts) (f : Firsts) (x : ℕ) → is_in f.stay x ≡ false → is_in p x ≡ (is_in f.read x || is_in f.stay x) → begins_at x (row_at p fs 0) ≡ begins_at x f
row-none p fs f x staying e =
    let read : is_in p x ≡ is_in f.read x = e ∙ ap (λ (b : Bool). is_in f.read x || b) staying ∙ or_none (is_in f.read x) in
    ap (λ (b : Bool). record { read = b; stay = is_in none_there x }) read
    ∙ ap (λ (b : Bool). record { read = is_in f.read x; stay = b }) (none_in x ∙ sym staying)

-- a part that is read alone, at these places
abbrev read_there : Places → Firsts
read_there p = record { read = p; stay = none_there }

pub one-begins : (x : ℕ) (p : Places) (a : Set) → is_in p x ≡ can_hold a x → begins_at x (read_there p) ≡ begins x (one_of a)
one-begins x p a e =
    ap (λ (b : Bool). record { read = b; stay = is_in none_there x }) e ∙ ap (λ (b : Bool). record { read = can_hold a x; stay = b }) (none_in x)

front : (r s : Bool) (b : Begins) → s ≡ false → record { read = r; stay = s } ≡ sequence_begins (record { read = r; stay = s }) b
front true false b e = refl
front false false b e = refl
front r true b e = cc

-- what comes after it doesn't matter
pub front-begins : (x : ℕ) (p : Places) (t u : Tree) → begins_at x (read_there p) ≡ begins x t → begins_at x (read_there p) ≡ begins x (seq t u)
front-begins x p t u h = front (is_in p x) (is_in none_there x) (begins x u) (none_in x) ∙ ap (λ (b : Begins). sequence_begins b (begins x u)) h

pub alone-begins : (x : ℕ) (p : Places) (t : Tree) → begins_at x (read_there p) ≡ begins x t → is_in p x ≡ (reads t x || stays t x)
alone-begins x p t h = sym (ap (λ (b : Bool). is_in p x || b) (none_in x) ∙ or_none (is_in p x)) ∙ ap (λ (b : Begins). b.read || b.stay) h

-- one more node's beginning
module _ (x : ℕ) (ps : List Places) (rows : List ℕ) (fs fs' : List Firsts) (ts : List Tree) (p : Places) (row k : ℕ) (more : KeepsRows fs fs') (e : length ps ≡ k) (f : length rows ≡ k) where
  kept_at : (n : ℕ) → n < k → AreWithin rows fs → firsts_at (ps ++ p ∷ []) (rows ++ row ∷ []) fs' n ≡ firsts_at ps rows fs n
  kept_at n l within =
      ap (λ (q : Places). row_at q fs' (get_or (rows ++ row ∷ []) n 0)) (get_or-append ps (p ∷ []) none_there n (omega (arith, l, e)))
      ∙ ap (λ (r : ℕ). row_at (get_or ps n none_there) fs' r) (get_or-append rows (row ∷ []) 0 n (omega (arith, l, f)))
      ∙ row-stays (get_or ps n none_there) fs fs' (get_or rows n 0) more (within n (omega (arith, l, f)))

  new_at : firsts_at (ps ++ p ∷ []) (rows ++ row ∷ []) fs' k ≡ row_at p fs' row
  new_at =
      ap (λ (q : Places). row_at q fs' (get_or (rows ++ row ∷ []) k 0)) (ap (λ (n : ℕ). get_or (ps ++ p ∷ []) n none_there) (sym e) ∙ get_or-append_seam ps p [] none_there)
      ∙ ap (λ (r : ℕ). row_at p fs' r) (ap (λ (n : ℕ). get_or (rows ++ row ∷ []) n 0) (sym f) ∙ get_or-append_seam rows row [] 0)

  pub Begin-push : Begin x ps rows fs ts → AreWithin rows fs → begins_at x (row_at p fs' row) ≡ begins x (get_or ts k nothing) → Begin x (ps ++ p ∷ []) (rows ++ row ∷ []) fs' ts
  Begin-push h within is j l =
      below_more (λ n. begins_at x (firsts_at (ps ++ p ∷ []) (rows ++ row ∷ []) fs' n) ≡ begins x (get_or ts n nothing)) k
      (λ n q. ap (begins_at x) (kept_at n q within) ∙ h n (omega (arith, q, e)))
      (ap (begins_at x) new_at ∙ is) j (omega (arith, length-append ps (p ∷ []), e, l))

  pub AreWithin-push : AreWithin rows fs → row ≤ length fs' → AreWithin (rows ++ row ∷ []) fs'
  AreWithin-push within inside j l =
      below_more (λ n. get_or (rows ++ row ∷ []) n 0 ≤ length fs') k
      (λ n q. subst (λ (r : ℕ). r ≤ length fs') (sym (get_or-append rows (row ∷ []) 0 n (omega (arith, q, f)))) (omega (arith, within n (omega (arith, q, f)), more.longer)))
      (subst (λ (r : ℕ). r ≤ length fs') (sym (ap (λ (n : ℕ). get_or (rows ++ row ∷ []) n 0) (sym f) ∙ get_or-append_seam rows row [] 0)) inside)
      j (omega (arith, length-append rows (row ∷ []), f, l))

-- one more node's places
pub AreFirsts-push : (ps : List Places) (ts : List Tree) (p : Places) (k : ℕ) → AreFirsts ps ts → length ps ≡ k
    → ((x : ℕ) → x < 130 → is_in p x ≡ (reads (get_or ts k nothing) x || stays (get_or ts k nothing) x))
    → AreFirsts (ps ++ p ∷ []) ts
AreFirsts-push ps ts p k h e is j x d l low =
    below_more (λ n. (c : Places) → is_in (get_or (ps ++ p ∷ []) n c) x ≡ (reads (get_or ts n nothing) x || stays (get_or ts n nothing) x)) k
    (λ n q c. ap (λ (r : Places). is_in r x) (get_or-append ps (p ∷ []) c n (omega (arith, q, e))) ∙ h n x c (omega (arith, q, e)) low)
    (λ c. ap (λ n. is_in (get_or (ps ++ p ∷ []) n c) x) (sym e) ∙ ap (λ (r : Places). is_in r x) (get_or-append_seam ps p [] c) ∙ is x low)
    j (omega (arith, length-append ps (p ∷ []), e)) d
