-- Steps of linking contexts.
use Rattle.std.proofs.Common.{◌≡◌, ℕ, zero, suc, ◌+◌, ◌<◌, get_or, Bool, true, false, cond, List, [], ◌∷◌, ◌++◌, length, take, drop, append_assoc, slice_get, not, ◌&&◌, Option, Some, None, refl, ap, sym, ◌∙◌, arith, if◌then◌else◌}
use Rattle.std.specs.Option.{option_map, option_or}
use Rattle.std.specs.List.{zip}
use Rattle.std.specs.Prelude.{codes}
use Rattle.std.proofs.lemmas.List.{append-nil}
use Rattle.syntect_grammar_linker.specs.References.{last_that, context_named}
use Rattle.syntect_grammar_linker.specs.Reached.{is_reached, unless_reached, prototype_for, is_marked_in_set}
use Rattle.syntect_grammar_linker.specs.LinkedContexts.{linked_context, linked_contexts}
use Rattle.syntect_grammar_linker.specs.Gifts.{Gift, gift_for, gifts_in, given_all, given_from}
use Rattle.syntect_grammar_contexts.specs.declared.context.ContextId.{ContextId}
use Rattle.syntect_grammar_contexts.specs.declared.context.Context.{Context}
use Rattle.syntect_grammar_contexts.specs.declared.syntax_reference.SyntaxReference.{SyntaxReference}

-- ---- tables ----

abbrev first_place : Bool → Option ℕ
first_place b = if b then Some 0 else None

-- the last of a list with one more at its end
last_more : {A : Type 0} (test : A → Bool) (xs : List A) (x : A) → last_that test (xs ++ x ∷ []) ≡ cond (test x) (Some (length xs)) (last_that test xs)
last_more test [] x = by (test x)
  where
    by : (b : Bool) → first_place b ≡ cond b (Some zero) None
    by true = refl
    by false = refl
last_more test (y ∷ xs) x = ap (λ o. option_or (option_map suc o) (first_place (test y))) (last_more test xs x) ∙ by (test x) (last_that test xs)
  where
    by : (b : Bool) (o : Option ℕ) → option_or (option_map suc (cond b (Some (length xs)) o)) (first_place (test y)) ≡ cond b (Some (suc (length xs))) (option_or (option_map suc o) (first_place (test y)))
    by true o = refl
    by false o = refl

pub take_more : {A : Type 0} (xs : List A) (k : ℕ) (x : A) → slice_get xs k ≡ Some x → take (suc k) xs ≡ take k xs ++ x ∷ []
take_more [] k x e = cc
take_more (y ∷ xs) zero x e = let f : y ≡ x = cc in ap (λ z. z ∷ []) f
take_more (y ∷ xs) (suc k) x e = ap (λ l. y ∷ l) (take_more xs k x e)

take_all : {A : Type 0} (xs : List A) (k : ℕ) (x : A) → slice_get xs k ≡ Some x → length (take k xs) ≡ k
take_all [] k x e = cc
take_all (y ∷ xs) zero x e = refl
take_all (y ∷ xs) (suc k) x e = ap suc (take_all xs k x e)

pub held_at : {A : Type 0} (xs : List A) (k : ℕ) (d : A) → k < length xs → slice_get xs k ≡ Some (get_or xs k d)
held_at [] k d l = absurd (omega arith)
held_at (y ∷ xs) zero d l = refl
held_at (y ∷ xs) (suc k) d l = held_at xs k d (omega arith)

-- a table of the last place of each, with one more
pub table_more : {A : Type 0} (test : A → Bool) (xs : List A) (k : ℕ) (x : A) (after before : Option ℕ) → k < length xs → x ≡ get_or xs k x → before ≡ last_that test (take k xs)
    → after ≡ cond (test x) (Some k) before → after ≡ last_that test (take (k + 1) xs)
table_more test xs k x after before l g b a =
    let e : slice_get xs k ≡ Some x = held_at xs k x l ∙ ap Some (sym g) in
    let n : k + 1 ≡ suc k = omega arith in
    a ∙ ap (λ o. cond (test x) (Some k) o) b ∙ ap (λ n. cond (test x) (Some n) (last_that test (take k xs))) (sym (take_all xs k x e))
    ∙ sym (last_more test (take k xs) x) ∙ ap (last_that test) (sym (take_more xs k x e)) ∙ ap (λ n. last_that test (take n xs)) (sym n)

-- ---- pairs ----

-- where one of two lists has ended
pub first_ends : {A B C : Type 0} (g : List (A × B) → List C) (xs : List A) (ys : List B) (out all : List C) → g [] ≡ [] → length xs ≡ 0 → out ++ g (zip xs ys) ≡ all → out ≡ all
first_ends g [] ys out all n l e = sym (append-nil out) ∙ ap (λ z. out ++ z) (sym n) ∙ e
first_ends g (x ∷ xs) ys out all n l e = absurd (omega (arith, l))

pub second_ends : {A B C : Type 0} (g : List (A × B) → List C) (xs : List A) (ys : List B) (out all : List C) → g [] ≡ [] → length ys ≡ 0 → out ++ g (zip xs ys) ≡ all → out ≡ all
second_ends g [] ys out all n l e = sym (append-nil out) ∙ ap (λ z. out ++ z) (sym n) ∙ e
second_ends g (x ∷ xs) [] out all n l e = sym (append-nil out) ∙ ap (λ z. out ++ z) (sym n) ∙ e
second_ends g (x ∷ xs) (y ∷ ys) out all n l e = absurd (omega (arith, l))

-- ---- gifts ----

given_more_from : (heads : List SyntaxReference) (i n : ℕ) (gs : List (List Context × List Gift)) (g : List Context × List Gift) → n ≡ i + length gs
    → given_from heads i (gs ++ g ∷ []) ≡ given_from heads i gs ++ given_all heads n g.1 g.0 ∷ []
given_more_from heads i n [] g e = let k : n ≡ i = omega (arith, e) in rw k refl
given_more_from heads i n (x ∷ gs) g e = ap (λ (l : List (List Context)). given_all heads i x.1 x.0 ∷ l) (given_more_from heads (i + 1) n gs g (omega (arith, e)))

pub given_more : (heads : List SyntaxReference) (n : ℕ) (gs : List (List Context × List Gift)) (g : List Context × List Gift) → n ≡ length gs
    → given_from heads 0 (gs ++ g ∷ []) ≡ given_from heads 0 gs ++ given_all heads n g.1 g.0 ∷ []
given_more heads n gs g e = given_more_from heads 0 n gs g (omega (arith, e))

-- contexts with their gifts are linked contexts
pub contexts_together : (heads : List SyntaxReference) (bodies : List (List Context)) (index place : ℕ) (cs : List Context)
    → given_all heads index (gifts_in heads bodies index place cs) cs ≡ linked_contexts heads bodies index place cs
contexts_together heads bodies index place [] = refl
contexts_together heads bodies index place (c ∷ cs) =
    ap (λ (l : List Context). linked_context heads bodies (record { syntax_index = index; context_index = place }) c ∷ l) (contexts_together heads bodies index (place + 1) cs)

-- ---- prototypes ----

abbrev no_id : Option ContextId
no_id = None

-- what is given is the prototype of the definition
pub prototype_given : (heads : List SyntaxReference) (bodies : List (List Context)) (id : ContextId) (c : Context) (prototype : Option ContextId) (reached : Bool)
    → prototype ≡ context_named heads id.syntax_index (codes "prototype") → ((p : ContextId) → prototype ≡ Some p → reached ≡ is_reached heads bodies p id)
    → option_or c.prototype (if c.meta_include_prototype && not reached then prototype else None) ≡ prototype_for heads bodies id c
prototype_given heads bodies id c prototype reached e h = ap (option_or c.prototype) (by c.meta_include_prototype prototype h ∙ ap (λ o. if c.meta_include_prototype then unless_reached heads bodies id o else None) e)
  where
    inner : (p : ContextId) (r : Bool) → (if not r then Some p else None) ≡ (if r then None else Some p)
    inner p true = refl
    inner p false = refl

    nothing : (r : Bool) → (if r then no_id else no_id) ≡ no_id
    nothing true = refl
    nothing false = refl

    by : (m : Bool) (o : Option ContextId) → ((p : ContextId) → o ≡ Some p → reached ≡ is_reached heads bodies p id) → (if m && not reached then o else None) ≡ (if m then unless_reached heads bodies id o else None)
    by false o k = refl
    by true None k = nothing (not reached)
    by true (Some p) k = inner p reached ∙ ap (λ r. if r then None else Some p) (k p refl)

-- what a context is given
pub gift_given : (heads : List SyntaxReference) (bodies : List (List Context)) (index place : ℕ) (cs : List Context) (c : Context) (gifts after all : List Gift) (prototype given : Option ContextId) (reached marked : Bool)
    → place < length cs → c ≡ get_or cs place c
    → prototype ≡ context_named heads index (codes "prototype")
    → ((p : ContextId) → prototype ≡ Some p → reached ≡ is_reached heads bodies p (record { syntax_index = index; context_index = place }))
    → marked ≡ is_marked_in_set heads bodies (record { syntax_index = index; context_index = place })
    → given ≡ option_or c.prototype (if c.meta_include_prototype && not reached then prototype else None)
    → after ≡ gifts ++ (given, marked) ∷ []
    → gifts ++ gifts_in heads bodies index place (drop place cs) ≡ all
    → after ++ gifts_in heads bodies index (place + 1) (drop (place + 1) cs) ≡ all
gift_given heads bodies index place cs c gifts after all prototype given reached marked l f p r m g a e =
    let n : place + 1 ≡ suc place = omega arith in
    let id : ContextId = record { syntax_index = index; context_index = place } in
    let same : (given, marked) ≡ gift_for heads bodies id c =
    ap (λ (x : Option ContextId). (x, marked)) (g ∙ prototype_given heads bodies id c prototype reached p r) ∙ ap (λ (b : Bool). (prototype_for heads bodies id c, b)) m in
    let next : drop place cs ≡ c ∷ drop (suc place) cs = drop_next cs place c l ∙ ap (λ (x : Context). x ∷ drop (suc place) cs) (sym f) in
    ap (λ (x : List Gift). x ++ gifts_in heads bodies index (place + 1) (drop (place + 1) cs)) a
    ∙ append_assoc gifts ((given, marked) ∷ []) (gifts_in heads bodies index (place + 1) (drop (place + 1) cs))
    ∙ ap (λ (x : Gift). gifts ++ x ∷ gifts_in heads bodies index (place + 1) (drop (place + 1) cs)) same
    ∙ ap (λ (k : ℕ). gifts ++ gift_for heads bodies id c ∷ gifts_in heads bodies index (place + 1) (drop k cs)) n
    ∙ ap (λ (x : List Context). gifts ++ gifts_in heads bodies index place x) (sym next) ∙ e
  where
    drop_next : (cs : List Context) (k : ℕ) (d : Context) → k < length cs → drop k cs ≡ get_or cs k d ∷ drop (suc k) cs
    drop_next [] k d l = absurd (omega arith)
    drop_next (c ∷ cs) zero d l = refl
    drop_next (c ∷ cs) (suc k) d l = drop_next cs k d (omega arith)
