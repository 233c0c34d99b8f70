-- Parts of a text that are read one after another into a repository.
use Rattle.std.proofs.Common.{◌≡◌, ℕ, zero, suc, ◌+◌, ◌<◌, ◌≤◌, Bool, true, false, List, [], ◌∷◌, ◌++◌, length, take, drop, get_or, map, refl, ap, sym, ◌∙◌, arith, subst, inl, inr, Option, Some, None, Bor, append_assoc, take-append-drop}
use Rattle.std.specs.Prelude.{if◌then◌else◌, nat_lt, ◌==◌, ◌&&◌}
use Rattle.std.specs.List.{flat_map}
use Rattle.std.specs.Str.Pattern.{LacksTextAt, FindsText, SplitsAroundMatch}
use Rattle.std.specs.Str.{IsUtf8, IsCharBoundary}
use Rattle.std.proofs.lemmas.Bool.Decides.{eqb_tells}
use Rattle.std.proofs.lemmas.Str.{IsUtf8-drop}
use Rattle.std.proofs.lemmas.List.{take-append-le, length-take, map-append}
use Rattle.syntect_scope.specs.Repository.{with_atoms, with_scopes, atom_texts, scope_in, first_refusal, is_too_long, IsRefusalOrMemory}
use Rattle.syntect_scope.specs.Stack.{plain}
use Rattle.syntect_scope.specs.Words.{words}
use Rattle.syntect_scope.specs.SelectorText.{hyphen_parts, selector_words, stack_in, selector_of, selector_in}
use Rattle.syntect_scope.specs.declared.repository.ParseScopeError.{ParseScopeError}
use Rattle.syntect_scope.specs.declared.repository.ParseScopeError.TheVariants.{TooLong, TooManyAtoms, Memory}
use Rattle.syntect_scope.specs.declared.stack.ScopeStack.{ScopeStack}
use Rattle.syntect_scope.proofs.RepositoryLaws.{scope_stays}

-- ---- more scopes ----

pub scopes_append : (r xs ys : List (List ℕ)) → with_scopes r (xs ++ ys) ≡ with_scopes (with_scopes r xs) ys
scopes_append r [] ys = refl
scopes_append r (x ∷ xs) ys = scopes_append (with_atoms r (atom_texts x)) xs ys

-- scopes keep their numbers while others are read
pub scopes_stay : (r ts rest : List (List ℕ)) → map (scope_in (with_scopes (with_scopes r ts) rest)) ts ≡ map (scope_in (with_scopes r ts)) ts
scopes_stay r [] rest = refl
scopes_stay r (t ∷ ts) rest =
    let early : scope_in (with_scopes (with_scopes (with_atoms r (atom_texts t)) ts) rest) t ≡ scope_in (with_atoms r (atom_texts t)) t =
    ap (λ (l : List (List ℕ)). scope_in l t) (sym (scopes_append (with_atoms r (atom_texts t)) ts rest)) ∙ scope_stays r (ts ++ rest) t in
    go (early ∙ sym (scope_stays r ts t)) (scopes_stay (with_atoms r (atom_texts t)) ts rest)
  where
    go : {x y : List ℕ} {xs ys : List (List ℕ)} → x ≡ y → xs ≡ ys → x ∷ xs ≡ y ∷ ys
    go e f = rw (e, f) refl

pub stack_stays : (r rest : List (List ℕ)) (t : List ℕ) → stack_in (with_scopes (with_scopes r (words t)) rest) t ≡ stack_in (with_scopes r (words t)) t
stack_stays r rest t = ap plain (scopes_stay r (words t) rest)

stacks_stay : (r rest ts : List (List ℕ)) → map (stack_in (with_scopes (with_scopes r (flat_map words ts)) rest)) ts ≡ map (stack_in (with_scopes r (flat_map words ts))) ts
stacks_stay r rest [] = refl
stacks_stay r rest (t ∷ ts) =
    let cut : with_scopes r (words t ++ flat_map words ts) ≡ with_scopes (with_scopes r (words t)) (flat_map words ts) = scopes_append r (words t) (flat_map words ts) in
    let more : with_scopes (with_scopes (with_scopes r (words t)) (flat_map words ts)) rest ≡ with_scopes (with_scopes r (words t)) (flat_map words ts ++ rest) = sym (scopes_append (with_scopes r (words t)) (flat_map words ts) rest) in
    let early : stack_in (with_scopes (with_scopes (with_scopes r (words t)) (flat_map words ts)) rest) t ≡ stack_in (with_scopes (with_scopes r (words t)) (flat_map words ts)) t =
    ap (λ (l : List (List ℕ)). stack_in l t) more ∙ stack_stays r (flat_map words ts ++ rest) t ∙ sym (stack_stays r (flat_map words ts) t) in
    subst (λ (m : List (List ℕ)). map (stack_in (with_scopes m rest)) (t ∷ ts) ≡ map (stack_in m) (t ∷ ts)) (sym cut) (go early (stacks_stay (with_scopes r (words t)) rest ts))
  where
    go : {x y : ScopeStack} {xs ys : List ScopeStack} → x ≡ y → xs ≡ ys → x ∷ xs ≡ y ∷ ys
    go e f = rw (e, f) refl

pub selector_stays : (r rest : List (List ℕ)) (t : List ℕ) → selector_in (with_scopes (with_scopes r (selector_words t)) rest) t ≡ selector_in (with_scopes r (selector_words t)) t
selector_stays r rest t = ap selector_of (stacks_stay r rest (hyphen_parts t))

-- ---- the first refusal ----

go_on : (a b : Bool) (o p q : Option ParseScopeError) → (o ≡ None → p ≡ q) → (if a then Some TooLong else if b then Some TooManyAtoms else o) ≡ None → (if a then Some TooLong else if b then Some TooManyAtoms else p) ≡ q
go_on true b o p q h e = cc
go_on false true o p q h e = cc
go_on false false o p q h e = h e

stop : (a b : Bool) (o p : Option ParseScopeError) (x : ParseScopeError) → (o ≡ Some x → p ≡ Some x) → (if a then Some TooLong else if b then Some TooManyAtoms else o) ≡ Some x → (if a then Some TooLong else if b then Some TooManyAtoms else p) ≡ Some x
stop true b o p x h e = e
stop false true o p x h e = e
stop false false o p x h e = h e

-- where the first ones are taken, the refusal is that of the others
pub refusal_after : (r xs ys : List (List ℕ)) → first_refusal r xs ≡ None → first_refusal r (xs ++ ys) ≡ first_refusal (with_scopes r xs) ys
refusal_after r [] ys e = refl
refusal_after r (x ∷ xs) ys e =
    go_on (is_too_long x) (nat_lt 65534 (length (with_atoms r (atom_texts x)))) (first_refusal (with_atoms r (atom_texts x)) xs) (first_refusal (with_atoms r (atom_texts x)) (xs ++ ys)) _
    (refusal_after (with_atoms r (atom_texts x)) xs ys) e

refusal_first : (r xs ys : List (List ℕ)) (x : ParseScopeError) → first_refusal r xs ≡ Some x → first_refusal r (xs ++ ys) ≡ Some x
refusal_first r [] ys x e = cc
refusal_first r (t ∷ xs) ys x e =
    stop (is_too_long t) (nat_lt 65534 (length (with_atoms r (atom_texts t)))) (first_refusal (with_atoms r (atom_texts t)) xs) (first_refusal (with_atoms r (atom_texts t)) (xs ++ ys)) x
    (refusal_first (with_atoms r (atom_texts t)) xs ys x) e

may_refuse : (o p : Option ParseScopeError) (e : ParseScopeError) → ((x : ParseScopeError) → o ≡ Some x → p ≡ Some x) → IsRefusalOrMemory o e → IsRefusalOrMemory p e
may_refuse o p Memory h m = tt
may_refuse o p TooLong h m = h TooLong m
may_refuse o p TooManyAtoms h m = h TooManyAtoms m

-- ---- one part after another ----

pub kept_on : (old self new : List (List ℕ)) → take (length old) self ≡ old → take (length self) new ≡ self → take (length old) new ≡ old
kept_on old self new e h =
    let n : length old ≤ length self = omega (arith, ap length (sym e), length-take {A = List ℕ} (length old) self) in
    let whole : new ≡ self ++ drop (length self) new = sym (take-append-drop (length self) new) ∙ ap (λ (l : List (List ℕ)). l ++ drop (length self) new) h in
    subst (λ (l : List (List ℕ)). take (length old) l ≡ old) (sym whole) (take-append-le (length old) self (drop (length self) new) n ∙ e)

-- the texts from the one at an index on
pub texts_from : (d : Bor (List ℕ)) (parts : List (Bor (List ℕ))) (i : ℕ) → i < length parts → map (λ x. x.now) (drop i parts) ≡ (get_or parts i d).now ∷ map (λ x. x.now) (drop (i + 1) parts)
texts_from d [] i l = absurd (omega arith)
texts_from d (p ∷ parts) zero l = refl
texts_from d (p ∷ parts) (suc i) l = let z : suc i + 1 ≡ suc (i + 1) = omega arith in rw z (texts_from d parts i (omega arith))

module _ {X : Type 0} (f : List ℕ → List (List ℕ)) (G : List (List ℕ) → List ℕ → X) (stays : (r rest : List (List ℕ)) (t : List ℕ) → G (with_scopes (with_scopes r (f t)) rest) t ≡ G (with_scopes r (f t)) t) where
  pub more_added : (d : Bor (List ℕ)) {new all : List (List ℕ)} (self : List (List ℕ)) (parts : List (Bor (List ℕ))) (i : ℕ) → i < length parts → new ≡ with_scopes self (f (get_or parts i d).now)
      → with_scopes self (flat_map f (map (λ x. x.now) (drop i parts))) ≡ all → with_scopes new (flat_map f (map (λ x. x.now) (drop (i + 1) parts))) ≡ all
  more_added d {new} {all} self parts i l e a =
      let rest : List (List ℕ) = map (λ x. x.now) (drop (i + 1) parts) in
      ap (λ (l : List (List ℕ)). with_scopes l (flat_map f rest)) e ∙ sym (scopes_append self (f (get_or parts i d).now) (flat_map f rest))
      ∙ ap (λ (ts : List (List ℕ)). with_scopes self (flat_map f ts)) (sym (texts_from d parts i l)) ∙ a

  pub more_given : (d : Bor (List ℕ)) {new all : List (List ℕ)} {x : X} {goal : List X} (self : List (List ℕ)) (made : List X) (parts : List (Bor (List ℕ))) (i : ℕ) → i < length parts
      → new ≡ with_scopes self (f (get_or parts i d).now) → x ≡ G new (get_or parts i d).now
      → with_scopes self (flat_map f (map (λ x. x.now) (drop i parts))) ≡ all → made ++ map (G all) (map (λ x. x.now) (drop i parts)) ≡ goal
      → (made ++ x ∷ []) ++ map (G all) (map (λ x. x.now) (drop (i + 1) parts)) ≡ goal
  more_given d {new} {all} {x} {goal} self made parts i l e g a h =
      let t : List ℕ = (get_or parts i d).now in
      let rest : List (List ℕ) = map (λ x. x.now) (drop (i + 1) parts) in
      let here : with_scopes self (flat_map f (t ∷ rest)) ≡ all = ap (λ (ts : List (List ℕ)). with_scopes self (flat_map f ts)) (sym (texts_from d parts i l)) ∙ a in
      let same : x ≡ G all t =
      g ∙ ap (λ (l : List (List ℕ)). G l t) e ∙ sym (stays self (flat_map f rest) t) ∙ ap (λ (l : List (List ℕ)). G l t) (sym (scopes_append self (f t) (flat_map f rest)) ∙ here) in
      append_assoc made (x ∷ []) (map (G all) rest) ∙ ap (λ (y : X). made ++ y ∷ map (G all) rest) same
      ∙ ap (λ (ts : List (List ℕ)). made ++ map (G all) ts) (sym (texts_from d parts i l)) ∙ h

  pub more_refused : (d : Bor (List ℕ)) {new : List (List ℕ)} {o : Option ParseScopeError} (self : List (List ℕ)) (parts : List (Bor (List ℕ))) (i : ℕ) → i < length parts → new ≡ with_scopes self (f (get_or parts i d).now)
      → first_refusal self (f (get_or parts i d).now) ≡ None → first_refusal self (flat_map f (map (λ x. x.now) (drop i parts))) ≡ o
      → first_refusal new (flat_map f (map (λ x. x.now) (drop (i + 1) parts))) ≡ o
  more_refused d self parts i l e n h =
      let rest : List (List ℕ) = map (λ x. x.now) (drop (i + 1) parts) in
      ap (λ (l : List (List ℕ)). first_refusal l (flat_map f rest)) e ∙ sym (refusal_after self (f (get_or parts i d).now) (flat_map f rest) n)
      ∙ ap (λ (ts : List (List ℕ)). first_refusal self (flat_map f ts)) (sym (texts_from d parts i l)) ∙ h

  pub now_refused : (d : Bor (List ℕ)) {o : Option ParseScopeError} (self : List (List ℕ)) (parts : List (Bor (List ℕ))) (i : ℕ) (e : ParseScopeError) → i < length parts
      → IsRefusalOrMemory (first_refusal self (f (get_or parts i d).now)) e → first_refusal self (flat_map f (map (λ x. x.now) (drop i parts))) ≡ o → IsRefusalOrMemory o e
  now_refused d {o} self parts i e l m h =
      let t : List ℕ = (get_or parts i d).now in
      let rest : List (List ℕ) = map (λ x. x.now) (drop (i + 1) parts) in
      may_refuse (first_refusal self (f t)) o e
      (λ x k. sym h ∙ ap (λ (ts : List (List ℕ)). first_refusal self (flat_map f ts)) (texts_from d parts i l) ∙ refusal_first self (f t) (flat_map f rest) x k) m

-- ---- parts between hyphens ----

no_mark : (b c : ℕ) (rest : List ℕ) → LacksTextAt (32 ∷ 45 ∷ []) (b ∷ c ∷ rest) 0 → ((b == 32) && (c == 45)) ≡ false
no_mark b c rest h =
    elim (eqb_tells b 32) [
      | inl e ↦ elim (eqb_tells c 45) [ inl g ↦ absurd (h rest (same e.1 g.1)) | inr g ↦ rw (e.0, g.0) refl ]
      | inr e ↦ rw e.0 refl
    ]
  where
    same : b ≡ 32 → c ≡ 45 → b ∷ c ∷ rest ≡ 32 ∷ 45 ∷ rest
    same e g = rw (e, g) refl

pub no_hyphen : (s : List ℕ) → ((i : ℕ) → i ≤ length s → LacksTextAt (32 ∷ 45 ∷ []) s i) → hyphen_parts s ≡ s ∷ []
no_hyphen [] h = refl
no_hyphen (b ∷ []) h = refl
no_hyphen (b ∷ c ∷ rest) h = rw (no_mark b c rest (h 0 (omega arith)), no_hyphen (c ∷ rest) (λ i l. h (suc i) (omega arith))) refl

first_hyphen : (s rest : List ℕ) (i : ℕ) → ((k : ℕ) → k < i → LacksTextAt (32 ∷ 45 ∷ []) s k) → drop i s ≡ 32 ∷ 45 ∷ rest → hyphen_parts s ≡ take i s ∷ hyphen_parts rest
first_hyphen [] rest zero h e = cc
first_hyphen [] rest (suc i) h e = cc
first_hyphen (b ∷ []) rest zero h e = cc
first_hyphen (b ∷ []) rest (suc zero) h e = cc
first_hyphen (b ∷ []) rest (suc (suc i)) h e = cc
first_hyphen (b ∷ c ∷ tail) rest zero h e = ap hyphen_parts e
first_hyphen (b ∷ c ∷ tail) rest (suc i) h e =
    rw (no_mark b c tail (h 0 (omega arith)), first_hyphen (c ∷ tail) rest i (λ k l. h (suc k) (omega arith)) e) refl

-- a part comes off the front
pub one_part : (s front back : List ℕ) → SplitsAroundMatch (FindsText (32 ∷ 45 ∷ [])) s front back → hyphen_parts s ≡ front ∷ hyphen_parts back
one_part s front back h =
    first_hyphen s (drop h.1 s) h.0 h.2.0 h.2.1.split ∙ go (sym h.3) (sym h.4)
  where
    go : {x y a b : List ℕ} → x ≡ y → a ≡ b → x ∷ hyphen_parts a ≡ y ∷ hyphen_parts b
    go e f = rw (e, f) refl

pub part_shorter : (s front back : List ℕ) → SplitsAroundMatch (FindsText (32 ∷ 45 ∷ [])) s front back → length back < length s
part_shorter s front back h = omega (arith, h.2.1.ends, h.5, h.6, h.7)

pub parts_more : (made : List (Bor (List ℕ))) (part : Bor (List ℕ)) (s back all : List ℕ) → hyphen_parts s ≡ part.now ∷ hyphen_parts back → map (λ x. x.now) made ++ hyphen_parts s ≡ hyphen_parts all
    → map (λ x. x.now) (made ++ part ∷ []) ++ hyphen_parts back ≡ hyphen_parts all
parts_more made part s back all e h = ap (λ (l : List (List ℕ)). l ++ hyphen_parts back) (map-append (λ x. x.now) made (part ∷ [])) ∙ (append_assoc (map (λ x. x.now) made) (part.now ∷ []) (hyphen_parts back) ∙ ap (λ (l : List (List ℕ)). map (λ x. x.now) made ++ l) (sym e) ∙ h)

pub part_utf8 : (s front back : List ℕ) → IsUtf8 s → SplitsAroundMatch (FindsText (32 ∷ 45 ∷ [])) s front back → IsUtf8 back
part_utf8 s front back u h = subst IsUtf8 (sym h.4) (IsUtf8-drop s h.1 u (subst (IsCharBoundary s) (sym h.2.1.ends) h.2.1.after))

pub last_part : (made : List (Bor (List ℕ))) (part : Bor (List ℕ)) (all : List ℕ) → hyphen_parts part.now ≡ part.now ∷ [] → map (λ x. x.now) made ++ hyphen_parts part.now ≡ hyphen_parts all → map (λ x. x.now) (made ++ part ∷ []) ≡ hyphen_parts all
last_part made part all e h = map-append (λ x. x.now) made (part ∷ []) ∙ ap (λ (l : List (List ℕ)). map (λ x. x.now) made ++ l) (sym e) ∙ h
