-- The stretches of a text and the scopes of its bytes.
use Rattle.std.proofs.Common.{◌≡◌, ℕ, zero, suc, ◌≤◌, ◌<◌, ◌-◌, Bool, true, false, List, [], ◌∷◌, ◌++◌, length, drop, refl, sym, ap, ◌∙◌, arith, append_assoc, Result, Ok, Err, Bor, map, replicate, length-append}
use Rattle.std.specs.Prelude.{nat_lt, slice_range}
use Rattle.std.specs.List.{flat_map}
use Rattle.std.proofs.lemmas.Bool.Decides.{nat_tests}
use Rattle.std.proofs.lemmas.List.{append-nil, length-replicate, take_rest, length-take-le, length-drop, map-append}
use Rattle.std.proofs.lemmas.List.Folds.{drop_split}
use Rattle.std.proofs.lemmas.List.Elements.{All-cons}
use Rattle.std.proofs.lemmas.List.Concat.{flat_map-append}
use Rattle.syntect_style.specs.syntect_scope.Stack.{applied, is_refused}
use Rattle.syntect_style.specs.syntect_scope.Replay.{InOrder, AllApply, replay, bytes_to}
use Rattle.syntect_style.specs.syntect_scope.declared.stack.ScopeStack.{ScopeStack}
use Rattle.syntect_style.specs.syntect_scope.declared.stack.ScopeStackOp.{ScopeStackOp}
use Rattle.syntect_style.specs.syntect_scope.declared.stack.ScopeError.{ScopeError}
use Rattle.syntect_style.specs.syntect_scope.declared.stack.ScopeError.TheVariants.{NoClearedScopesToRestore}
use Rattle.syntect_style.specs.Styling.{shown_style}
use Rattle.syntect_style.specs.Pieces.{Stretch, stretch, oks, stretches, last_stack, Joins, IsStyled}
use Rattle.syntect_theme.specs.declared.style.Style.{Style}
use Rattle.syntect_theme.specs.declared.theme.Theme.{Theme}

-- the stretches, where no operation is refused
abbrev pub cuts : ℕ → ℕ → ScopeStack → List (ℕ × ScopeStackOp) → List Stretch
cuts end at s [] = stretch at end s.scopes
cuts end at s (o ∷ os) = stretch at o.0 s.scopes ++ cuts end o.0 (applied o.1 s) os

abbrev pub bytes_of_cuts : List Stretch → List (List (List ℕ))
bytes_of_cuts xs = flat_map (λ x. replicate (x.to - x.from) x.scopes) xs

abbrev pub text_of_cuts : List ℕ → List Stretch → List ℕ
text_of_cuts text xs = flat_map (λ x. slice_range text x.from x.to) xs

-- ---- none refused ----

pub oks-append : (xs ys : List Stretch) → oks (xs ++ ys) ≡ oks xs ++ oks ys
oks-append [] ys = refl
oks-append (x ∷ xs) ys = ap (λ (l : List (Result Stretch ScopeError)). Ok x ∷ l) (oks-append xs ys)

pub oks-same : (xs ys : List Stretch) → oks xs ≡ oks ys → xs ≡ ys
oks-same [] [] e = refl
oks-same [] (y ∷ ys) e = cc
oks-same (x ∷ xs) [] e = cc
oks-same (x ∷ xs) (y ∷ ys) e =
    let r : oks xs ≡ oks ys = cc in
    let h : x ≡ y = cc in
    let t : xs ≡ ys = oks-same xs ys r in cc

-- where operations apply, the stretches are the cuts
pub stretches_cuts : (end at : ℕ) (s : ScopeStack) (os : List (ℕ × ScopeStackOp)) → AllApply s os → stretches end at s os ≡ oks (cuts end at s os)
stretches_cuts end at s [] a = refl
stretches_cuts end at s (o ∷ os) a =
    rw (a.0, oks-append (stretch at o.0 s.scopes) (cuts end o.0 (applied o.1 s) os))
    (ap (λ (l : List (Result Stretch ScopeError)). oks (stretch at o.0 s.scopes) ++ l) (stretches_cuts end o.0 (applied o.1 s) os a.1))

not_refused : (sts : List Stretch) → (Err NoClearedScopesToRestore ∷ []) ≡ oks sts → ⊥
not_refused [] e = cc
not_refused (x ∷ xs) e = cc

-- what is left after the pieces of one stretch
rest_ok : (xs sts : List Stretch) (l : List (Result Stretch ScopeError)) → oks xs ++ l ≡ oks sts → (ys : List Stretch) × (l ≡ oks ys)
rest_ok [] sts l e = (sts, e)
rest_ok (x ∷ xs) [] l e = cc
rest_ok (x ∷ xs) (y ∷ sts) l e = let r : oks xs ++ l ≡ oks sts = cc in rest_ok xs sts l r

-- where only pieces come, all operations apply
apply_first : (end at : ℕ) (s : ScopeStack) (o : ℕ × ScopeStackOp) (os : List (ℕ × ScopeStackOp)) (sts : List Stretch) → stretches end at s (o ∷ os) ≡ oks sts
    → ((ys : List Stretch) → stretches end o.0 (applied o.1 s) os ≡ oks ys → AllApply (applied o.1 s) os) → AllApply s (o ∷ os)
apply_first end at s o os sts e others = by_test (is_refused o.1 s) refl
  where
    by_test : (b : Bool) → is_refused o.1 s ≡ b → AllApply s (o ∷ os)
    by_test true r = absurd (not_refused sts (rw r at e))
    by_test false r =
        let f : oks (stretch at o.0 s.scopes) ++ stretches end o.0 (applied o.1 s) os ≡ oks sts = rw r at e in
        let k : (ys : List Stretch) × (stretches end o.0 (applied o.1 s) os ≡ oks ys) = rest_ok (stretch at o.0 s.scopes) sts (stretches end o.0 (applied o.1 s) os) f in
        (r, others k.0 k.1)

pub all_apply : (end at : ℕ) (s : ScopeStack) (os : List (ℕ × ScopeStackOp)) (sts : List Stretch) → stretches end at s os ≡ oks sts → AllApply s os
all_apply end at s [] sts e = tt
all_apply end at s (o ∷ os) sts e = apply_first end at s o os sts e (λ ys f. all_apply end o.0 (applied o.1 s) os ys f)

-- a refused operation is reached only where one is
pub refused_somewhere : (end at : ℕ) (s : ScopeStack) (os : List (ℕ × ScopeStackOp)) (sts : List Stretch) → stretches end at s os ≡ oks sts ++ Err NoClearedScopesToRestore ∷ [] → ¬ AllApply s os
refused_somewhere end at s os sts e a = ends sts (cuts end at s os) (sym e ∙ stretches_cuts end at s os a)
  where
    ends : (xs ys : List Stretch) → oks xs ++ Err NoClearedScopesToRestore ∷ [] ≡ oks ys → ⊥
    ends [] ys f = not_refused ys f
    ends (x ∷ xs) [] f = cc
    ends (x ∷ xs) (y ∷ ys) f = let r : oks xs ++ Err NoClearedScopesToRestore ∷ [] ≡ oks ys = cc in ends xs ys r

-- the stack that is left is that of the replay
pub last_replayed : (s : ScopeStack) (os : List (ℕ × ScopeStackOp)) (bs : List (List (List ℕ))) → AllApply s os → last_stack s os ≡ (replay os (record { bytes = bs; stack = s })).stack
last_replayed s [] bs a = refl
last_replayed s (o ∷ os) bs a = rw a.0 (last_replayed (applied o.1 s) os _ a.1)

-- ---- the scopes of bytes ----

pub order_le : (text : List ℕ) (from : ℕ) (os : List (ℕ × ScopeStackOp)) (to : ℕ) → InOrder text from os to → from ≤ to
order_le text from [] to h = h
order_le text from (o ∷ os) to h = let i : o.0 ≤ to = order_le text o.0 os to h.2 in let j : from ≤ o.0 = h.0 in omega arith

stretch_bytes : (from to : ℕ) (ss : List (List ℕ)) → from ≤ to → bytes_of_cuts (stretch from to ss) ≡ replicate (to - from) ss
stretch_bytes from to ss l = by_test (nat_lt from to) refl
  where
    by_test : (b : Bool) → nat_lt from to ≡ b → bytes_of_cuts (stretch from to ss) ≡ replicate (to - from) ss
    by_test true r = rw r (append-nil (replicate (to - from) ss))
    by_test false r = let e : to - from ≡ 0 = grind (arith, nat_tests) in rw (r, e) refl

pub cuts_bytes : (text : List ℕ) (end at : ℕ) (s : ScopeStack) (os : List (ℕ × ScopeStackOp)) (bs : List (List (List ℕ))) → length bs ≡ at → InOrder text at os end
    → bytes_to (replay os (record { bytes = bs; stack = s })) end ≡ bs ++ bytes_of_cuts (cuts end at s os)
cuts_bytes text end at s [] bs e h = ap (λ l. bs ++ l) (rw e (sym (stretch_bytes at end s.scopes h)))
cuts_bytes text end at s (o ∷ os) bs e h =
    let l : at ≤ o.0 = h.0 in
    let n : length (bs ++ replicate (o.0 - length bs) s.scopes) ≡ o.0 = omega (arith, length-append bs (replicate (o.0 - length bs) s.scopes), length-replicate (o.0 - length bs) s.scopes) in
    let k : bytes_of_cuts (stretch at o.0 s.scopes ++ cuts end o.0 (applied o.1 s) os) ≡ replicate (o.0 - length bs) s.scopes ++ bytes_of_cuts (cuts end o.0 (applied o.1 s) os)
    = flat_map-append (λ (x : Stretch). replicate (x.to - x.from) x.scopes) (stretch at o.0 s.scopes) (cuts end o.0 (applied o.1 s) os)
    ∙ ap (λ (b : List (List (List ℕ))). b ++ bytes_of_cuts (cuts end o.0 (applied o.1 s) os)) (stretch_bytes at o.0 s.scopes l ∙ rw e refl) in
    cuts_bytes text end o.0 (applied o.1 s) os (bs ++ replicate (o.0 - length bs) s.scopes) n h.2
    ∙ append_assoc bs (replicate (o.0 - length bs) s.scopes) (bytes_of_cuts (cuts end o.0 (applied o.1 s) os))
    ∙ ap (λ (b : List (List (List ℕ))). bs ++ b) (sym k)

-- ---- the text of the stretches ----

stretch_text : (text : List ℕ) (from to : ℕ) (ss : List (List ℕ)) → from ≤ to → text_of_cuts text (stretch from to ss) ≡ slice_range text from to
stretch_text text from to ss l = by_test (nat_lt from to) refl
  where
    by_test : (b : Bool) → nat_lt from to ≡ b → text_of_cuts text (stretch from to ss) ≡ slice_range text from to
    by_test true r = rw r (append-nil (slice_range text from to))
    by_test false r = let e : to - from ≡ 0 = grind (arith, nat_tests) in rw (r, e) refl

pub cuts_text : (text : List ℕ) (at : ℕ) (s : ScopeStack) (os : List (ℕ × ScopeStackOp)) → InOrder text at os (length text) → text_of_cuts text (cuts (length text) at s os) ≡ drop at text
cuts_text text at s [] h = stretch_text text at (length text) s.scopes h ∙ take_rest text at
cuts_text text at s (o ∷ os) h =
    flat_map-append (λ (x : Stretch). slice_range text x.from x.to) (stretch at o.0 s.scopes) (cuts (length text) o.0 (applied o.1 s) os)
    ∙ ap (λ l. l ++ text_of_cuts text (cuts (length text) o.0 (applied o.1 s) os)) (stretch_text text at o.0 s.scopes h.0)
    ∙ ap (λ l. slice_range text at o.0 ++ l) (cuts_text text o.0 (applied o.1 s) os h.2)
    ∙ sym (drop_split text at o.0 h.0)

-- every stretch lies in the text, and is not empty
abbrev pub Within : ℕ → List Stretch → Type 0
Within end [] = Unit {0}
Within end (x ∷ xs) = (x.from < x.to) × (x.to ≤ end) × Within end xs

within-append : (end : ℕ) (xs ys : List Stretch) → Within end xs → Within end ys → Within end (xs ++ ys)
within-append end [] ys h k = k
within-append end (x ∷ xs) ys h k = (h.0, h.1, within-append end xs ys h.2 k)

stretch_within : (end from to : ℕ) (ss : List (List ℕ)) → to ≤ end → Within end (stretch from to ss)
stretch_within end from to ss l = by_test (nat_lt from to) refl
  where
    by_test : (b : Bool) → nat_lt from to ≡ b → Within end (stretch from to ss)
    by_test true r = let m : from < to = grind (arith, nat_tests) in rw r (m, l, tt)
    by_test false r = rw r tt

pub cuts_within : (text : List ℕ) (end at : ℕ) (s : ScopeStack) (os : List (ℕ × ScopeStackOp)) → InOrder text at os end → Within end (cuts end at s os)
cuts_within text end at s [] h = stretch_within end at end s.scopes (omega arith)
cuts_within text end at s (o ∷ os) h =
    within-append end (stretch at o.0 s.scopes) (cuts end o.0 (applied o.1 s) os) (stretch_within end at o.0 s.scopes (order_le text o.0 os end h.2)) (cuts_within text end o.0 (applied o.1 s) os h.2)

-- ---- pieces that show stretches ----

pub record ShowsOne (theme : Theme) (text : List ℕ) (tells : Type 0) (st : Stretch) (p : Style × Bor (List ℕ)) : Type 0 where
  pub style : tells → p.0 ≡ shown_style theme st.scopes
  pub text_of : p.1.now ≡ slice_range text st.from st.to

abbrev pub ShowEach : Theme → List ℕ → Type 0 → List Stretch → List (Style × Bor (List ℕ)) → Type 0
ShowEach theme text tells [] [] = Unit {0}
ShowEach theme text tells (x ∷ xs) (p ∷ ps) = ShowsOne theme text tells x p × ShowEach theme text tells xs ps
ShowEach theme text tells [] (p ∷ ps) = ⊥
ShowEach theme text tells (x ∷ xs) [] = ⊥

pub show_more : (theme : Theme) (text : List ℕ) (tells : Type 0) (xs : List Stretch) (ps : List (Style × Bor (List ℕ))) (x : Stretch) (p : Style × Bor (List ℕ))
    → ShowEach theme text tells xs ps → ShowsOne theme text tells x p → ShowEach theme text tells (xs ++ x ∷ []) (ps ++ p ∷ [])
show_more theme text tells [] [] x p h k = (k, tt)
show_more theme text tells (y ∷ xs) (q ∷ ps) x p h k = (h.0, show_more theme text tells xs ps x p h.1 k)
show_more theme text tells [] (q ∷ ps) x p h k = absurd h
show_more theme text tells (y ∷ xs) [] x p h k = absurd h

slice_len : (text : List ℕ) (a b : ℕ) → a < b → b ≤ length text → length (slice_range text a b) ≡ b - a
slice_len text a b h l = length-take-le (b - a) (drop a text) (rw length-drop (omega arith))

replicate_map : (theme : Theme) (n : ℕ) (ss : List (List ℕ)) → map (shown_style theme) (replicate n ss) ≡ replicate n (shown_style theme ss)
replicate_map theme zero ss = refl
replicate_map theme (suc n) ss = ap (λ (l : List Style). shown_style theme ss ∷ l) (replicate_map theme n ss)

pub joins_of : (theme : Theme) (text : List ℕ) (tells : Type 0) (xs : List Stretch) (ps : List (Style × Bor (List ℕ))) → Within (length text) xs → ShowEach theme text tells xs ps → Joins (text_of_cuts text xs) ps
joins_of theme text tells [] [] w h = record { joined = refl; filled = λ i d l. absurd (omega arith) }
joins_of theme text tells [] (p ∷ ps) w h = absurd h
joins_of theme text tells (x ∷ xs) [] w h = absurd h
joins_of theme text tells (x ∷ xs) (p ∷ ps) w h =
    let i : Joins (text_of_cuts text xs) ps = joins_of theme text tells xs ps w.2 h.1 in
    let n : length p.1.now ≡ x.to - x.from = ap length h.0.text_of ∙ slice_len text x.from x.to w.0 w.1 in
    let b : x.from < x.to = w.0 in
    record {
      joined = rw h.0.text_of (ap (λ l. slice_range text x.from x.to ++ l) i.joined);
      filled = All-cons (λ (q : Style × Bor (List ℕ)). 0 < length q.1.now) p ps (omega arith) i.filled;
    }

pub styled_of : (theme : Theme) (text : List ℕ) (tells : Type 0) (xs : List Stretch) (ps : List (Style × Bor (List ℕ))) → tells → Within (length text) xs → ShowEach theme text tells xs ps
    → IsStyled theme (bytes_of_cuts xs) ps
styled_of theme text tells [] [] k w h = refl
styled_of theme text tells [] (p ∷ ps) k w h = absurd h
styled_of theme text tells (x ∷ xs) [] k w h = absurd h
styled_of theme text tells (x ∷ xs) (p ∷ ps) k w h =
    let i : IsStyled theme (bytes_of_cuts xs) ps = styled_of theme text tells xs ps k w.2 h.1 in
    let n : length p.1.now ≡ x.to - x.from = ap length h.0.text_of ∙ slice_len text x.from x.to w.0 w.1 in
    rw (map-append (shown_style theme) (replicate (x.to - x.from) x.scopes) (bytes_of_cuts xs), replicate_map theme (x.to - x.from) x.scopes, n, h.0.style k)
    (ap (λ (l : List Style). replicate (x.to - x.from) (shown_style theme x.scopes) ++ l) i)
