-- What walks over the contexts of definitions reach.
use Rattle.std.proofs.Common.{◌≡◌, ◌↔◌, ℕ, zero, suc, ◌+◌, Bool, true, false, ◌||◌, ◌&&◌, List, [], ◌∷◌, ◌++◌, length, map, filter, Option, Some, None, slice_get, refl, ap, sym, ◌∙◌, subst, arith, if◌then◌else◌}
use Rattle.std.specs.List.{list_any, flat_map}
use Rattle.std.specs.Option.{option_and_then, option_map_or}
use Rattle.std.proofs.lemmas.List.Folds.{list_any-append}
use Rattle.syntect_grammar_contexts.specs.Contexts.{is_same}
use Rattle.syntect_grammar_contexts.specs.Contexts.{count_contexts}
use Rattle.syntect_grammar_linker.specs.Reached.{has_path_in, HasPath, here, there, given_at, entries_given, entry_steps, prototype_steps, included_by, includes_of, is_marked, is_marked_in_set}
use Rattle.syntect_grammar_linker.specs.Inclusions.{Among, From, first, onward, Inclusion, each_in, each_from, inclusions_by, includers_in, if_marked}
use Rattle.syntect_grammar_contexts.specs.declared.context.ContextId.{ContextId}
use Rattle.syntect_grammar_contexts.specs.declared.context.Context.{Context}
use Rattle.syntect_grammar_contexts.specs.declared.syntax_reference.SyntaxReference.{SyntaxReference}
use Rattle.syntect_grammar_linker.proofs.Numbers.{number, numbers_from, listed_from, length_from, is_same_self, same_id}
use Rattle.syntect_grammar_linker.proofs.Walks.{either, or_left, or_right, both_ways, among_one, one_among}
use Rattle.syntect_grammar_linker.proofs.LeadsLaws.{leads_so, leads_all}

-- ---- what no body has ----

given_listed : (bodies : List (List Context)) (a : ContextId) (c : Context) → given_at bodies a ≡ Some c → Among a (numbers_from 0 bodies)
given_listed bodies a c e =
    let z : 0 + a.syntax_index ≡ a.syntax_index = omega arith in
    let h : list_any (is_same (number (0 + a.syntax_index) a.context_index)) (numbers_from 0 bodies) ≡ true = listed_from 0 a.syntax_index a.context_index bodies c e in
    rw z at h

pub nothing_outside : (bodies : List (List Context)) (a : ContextId) → list_any (is_same a) (numbers_from 0 bodies) ≡ false → entries_given bodies a ≡ []
nothing_outside bodies a h = by (given_at bodies a) refl
  where
    by : (o : Option Context) → given_at bodies a ≡ o → option_map_or (λ (c : Context). c.patterns) o [] ≡ []
    by None e = refl
    by (Some c) e = let k : true ≡ false = sym (given_listed bodies a c e) ∙ h in cc

pub no_steps_outside : (bodies : List (List Context)) (home : ℕ) (names : List (List ℕ)) (a : ContextId) → list_any (is_same a) (numbers_from 0 bodies) ≡ false → prototype_steps bodies home names a ≡ []
no_steps_outside bodies home names a h = ap (flat_map (entry_steps home names)) (nothing_outside bodies a h)

no_includes_outside : (heads : List SyntaxReference) (bodies : List (List Context)) (a : ContextId) → list_any (is_same a) (numbers_from 0 bodies) ≡ false → includes_of heads bodies a ≡ []
no_includes_outside heads bodies a h = ap (flat_map (included_by heads a.syntax_index)) (nothing_outside bodies a h)

-- ---- so many steps are enough ----

module _ (bodies : List (List Context)) (home : ℕ) (names : List (List ℕ)) (prototype id : ContextId) where
  pub prototype_leads : HasPath (prototype_steps bodies home names) (is_same id) prototype → has_path_in (prototype_steps bodies home names) (is_same id) (count_contexts bodies) prototype ≡ true
  prototype_leads l =
      let h : has_path_in (prototype_steps bodies home names) (is_same id) (length (numbers_from 0 bodies)) prototype ≡ true
      = leads_all (prototype_steps bodies home names) (is_same id) (numbers_from 0 bodies) (no_steps_outside bodies home names) prototype l in
      rw (length_from 0 bodies) at h

pub marks_lead : (heads : List SyntaxReference) (bodies : List (List Context)) (id : ContextId) → HasPath (includes_of heads bodies) (is_marked bodies) id → is_marked_in_set heads bodies id ≡ true
marks_lead heads bodies id l =
    let h : has_path_in (includes_of heads bodies) (is_marked bodies) (length (numbers_from 0 bodies)) id ≡ true
    = leads_all (includes_of heads bodies) (is_marked bodies) (numbers_from 0 bodies) (no_includes_outside heads bodies) id l in
    rw (length_from 0 bodies) at h

-- ---- the walk from a prototype ----

module _ (steps : ContextId → List ContextId) (p : ContextId) where
  leads_from : (id a : ContextId) → From steps (p ∷ []) a → HasPath steps (is_same id) a → From steps (p ∷ []) id
  leads_from id a f (here e) = subst (From steps (p ∷ [])) (sym (same_id id a e)) f
  leads_from id a f (there {next = next} e l) = leads_from id next (onward f e) l

  extend : (a q next : ContextId) → Among next (steps a) → HasPath steps (is_same a) q → HasPath steps (is_same next) q
  extend a q next e (here h) = there (subst (λ x. Among next (steps x)) (same_id a q h) e) (here (is_same_self next))
  extend a q next e (there {next = m} h l) = there h (extend a m next e l)

  from_leads : (id : ContextId) → From steps (p ∷ []) id → HasPath steps (is_same id) p
  from_leads id (first e) = subst (λ x. HasPath steps (is_same id) x) (among_one id p e) (here (is_same_self id))
  from_leads id (onward {id = a} f e) = extend a p id e (from_leads a f)

pub walk_reaches : (bodies : List (List Context)) (home : ℕ) (names : List (List ℕ)) (p id : ContextId) (has : Bool)
    → (From (prototype_steps bodies home names) (p ∷ []) id → has ≡ true) → (has ≡ true → From (prototype_steps bodies home names) (p ∷ []) id)
    → has ≡ has_path_in (prototype_steps bodies home names) (is_same id) (count_contexts bodies) p
walk_reaches bodies home names p id has f g =
    both_ways has (has_path_in (prototype_steps bodies home names) (is_same id) (count_contexts bodies) p)
    (λ e. prototype_leads bodies home names p id (from_leads (prototype_steps bodies home names) p id (g e)))
    (λ e. f (leads_from (prototype_steps bodies home names) p id p (first (one_among p)) (leads_so (prototype_steps bodies home names) (is_same id) (count_contexts bodies) p e)))

-- ---- what each context gives ----

module _ {A : Type 0} (p : A → Bool) (f : ContextId → Context → List A) where
  any_left : (xs ys : List A) → list_any p xs ≡ true → list_any p (xs ++ ys) ≡ true
  any_left xs ys h = list_any-append p xs ys ∙ or_left (list_any p xs) (list_any p ys) h

  any_right : (xs ys : List A) → list_any p ys ≡ true → list_any p (xs ++ ys) ≡ true
  any_right xs ys h = list_any-append p xs ys ∙ or_right (list_any p xs) (list_any p ys) h

  any_either : {C : Type 0} (xs ys : List A) → list_any p (xs ++ ys) ≡ true → (list_any p xs ≡ true → C) → (list_any p ys ≡ true → C) → C
  any_either xs ys h k l = either (list_any p xs) (list_any p ys) (sym (list_any-append p xs ys) ∙ h) k l

  in_row : (i j k : ℕ) (cs : List Context) (c : Context) → slice_get cs k ≡ Some c → list_any p (f (number i (j + k)) c) ≡ true → list_any p (each_in f i j cs) ≡ true
  in_row i j k [] c e h = cc
  in_row i j zero (d ∷ cs) c e h =
      let s : d ≡ c = cc in
      let z : j + 0 ≡ j = omega arith in
      any_left (f (number i j) d) (each_in f i (j + 1) cs) (rw (z, ← s) at h)
  in_row i j (suc k) (d ∷ cs) c e h =
      let m : j + suc k ≡ (j + 1) + k = omega arith in
      any_right (f (number i j) d) (each_in f i (j + 1) cs) (in_row i (j + 1) k cs c e (rw m at h))

  in_rows : (i k n : ℕ) (css : List (List Context)) (c : Context) → option_and_then (λ (cs : List Context). slice_get cs n) (slice_get css k) ≡ Some c
      → list_any p (f (number (i + k) n) c) ≡ true → list_any p (each_from f i css) ≡ true
  in_rows i k n [] c e h = cc
  in_rows i zero n (cs ∷ css) c e h =
      let z : i + 0 ≡ i = omega arith in
      let y : 0 + n ≡ n = omega arith in
      let g : list_any p (f (number i n) c) ≡ true = rw z at h in
      any_left (each_in f i 0 cs) (each_from f (i + 1) css) (in_row i 0 n cs c e (rw y g))
  in_rows i (suc k) n (cs ∷ css) c e h =
      let m : i + suc k ≡ (i + 1) + k = omega arith in
      any_right (each_in f i 0 cs) (each_from f (i + 1) css) (in_rows (i + 1) k n css c e (rw m at h))

  pub has_given : (bodies : List (List Context)) (id : ContextId) (c : Context) → given_at bodies id ≡ Some c → list_any p (f id c) ≡ true → list_any p (each_from f 0 bodies) ≡ true
  has_given bodies id c e h =
      let z : 0 + id.syntax_index ≡ id.syntax_index = omega arith in
      let g : list_any p (f (number (0 + id.syntax_index) id.context_index) c) ≡ true = rw z h in
      in_rows 0 id.syntax_index id.context_index bodies c e g

  of_row : {C : Type 0} (i j : ℕ) (cs : List Context) → list_any p (each_in f i j cs) ≡ true → ((k : ℕ) (c : Context) → slice_get cs k ≡ Some c → list_any p (f (number i (j + k)) c) ≡ true → C) → C
  of_row i j [] h k = cc
  of_row i j (c ∷ cs) h k =
      any_either (f (number i j) c) (each_in f i (j + 1) cs) h
      (λ e. let z : j + 0 ≡ j = omega arith in k 0 c refl (rw z e))
      (λ e. of_row i (j + 1) cs e (λ n d g l. let m : (j + 1) + n ≡ j + suc n = omega arith in k (suc n) d g (rw m at l)))

  of_rows : {C : Type 0} (i : ℕ) (css : List (List Context)) → list_any p (each_from f i css) ≡ true
      → ((m n : ℕ) (c : Context) → option_and_then (λ (cs : List Context). slice_get cs n) (slice_get css m) ≡ Some c → list_any p (f (number (i + m) n) c) ≡ true → C) → C
  of_rows i [] h k = cc
  of_rows i (cs ∷ css) h k =
      any_either (each_in f i 0 cs) (each_from f (i + 1) css) h
      (λ e. of_row i 0 cs e (λ n c g l. let z : i + 0 ≡ i = omega arith in let y : 0 + n ≡ n = omega arith in
      let l2 : list_any p (f (number i n) c) ≡ true = rw y at l in k 0 n c g (rw z l2)))
      (λ e. of_rows (i + 1) css e (λ m n c g l. let s : (i + 1) + m ≡ i + suc m = omega arith in k (suc m) n c g (rw s at l)))

  pub of_given : {C : Type 0} (bodies : List (List Context)) → list_any p (each_from f 0 bodies) ≡ true → ((id : ContextId) (c : Context) → given_at bodies id ≡ Some c → list_any p (f id c) ≡ true → C) → C
  of_given bodies h k = of_rows 0 bodies h (λ m n c g l. let z : 0 + m ≡ m = omega arith in k (number m n) c g (rw z at l))

-- ---- marks that are given ----

mark_of : (bodies : List (List Context)) (id : ContextId) → Among id (each_from if_marked 0 bodies) → is_marked bodies id ≡ true
mark_of bodies id h = of_given (is_same id) if_marked bodies h (λ a c e l. by a c e c.uses_backrefs refl l)
  where
    by : (a : ContextId) (c : Context) → given_at bodies a ≡ Some c → (b : Bool) → c.uses_backrefs ≡ b → list_any (is_same id) (if b then a ∷ [] else []) ≡ true → is_marked bodies id ≡ true
    by a c e true m l =
        let s : id ≡ a = among_one id a l in
        ap (λ x. option_map_or (λ (c : Context). c.uses_backrefs) (given_at bodies x) false) s ∙ ap (λ o. option_map_or (λ (c : Context). c.uses_backrefs) o false) e ∙ m
    by a c e false m l = cc

mark_in : (bodies : List (List Context)) (id : ContextId) → is_marked bodies id ≡ true → Among id (each_from if_marked 0 bodies)
mark_in bodies id h = by (given_at bodies id) refl h
  where
    by : (o : Option Context) → given_at bodies id ≡ o → option_map_or (λ (c : Context). c.uses_backrefs) o false ≡ true → Among id (each_from if_marked 0 bodies)
    by None e m = cc
    by (Some c) e m = has_given (is_same id) if_marked bodies id c e (rw m (one_among id))

-- ---- inclusions ----

abbrev pair : ContextId → ContextId → Inclusion → Bool
pair a b q = is_same a q.0 && is_same b q.1

paired : (a b : ContextId) (qs : List Inclusion) → list_any (is_same b) (includers_in qs a) ≡ list_any (pair a b) qs
paired a b [] = refl
paired a b (q ∷ qs) = by (is_same a q.0) (paired a b qs)
  where
    by : (t : Bool) → list_any (is_same b) (includers_in qs a) ≡ list_any (pair a b) qs
        → list_any (is_same b) (map (λ (i : Inclusion). i.1) (if t then q ∷ filter (λ (i : Inclusion). is_same a i.0) qs else filter (λ (i : Inclusion). is_same a i.0) qs)) ≡ ((t && is_same b q.1) || list_any (pair a b) qs)
    by true h = ap (λ t. is_same b q.1 || t) h
    by false h = h

both : {C : Type 0} (x y : Bool) → (x && y) ≡ true → (x ≡ true → y ≡ true → C) → C
both true true h k = k refl refl
both true false h k = cc
both false y h k = cc

of_targets : {C : Type 0} (a b id : ContextId) (ts : List ContextId) → list_any (pair a b) (map (λ t. (t, id)) ts) ≡ true → (b ≡ id → Among a ts → C) → C
of_targets a b id [] h k = cc
of_targets a b id (t ∷ ts) h k =
    either (pair a b (t, id)) (list_any (pair a b) (map (λ t. (t, id)) ts)) h
    (λ e. both (is_same a t) (is_same b id) e (λ x y. k (same_id b id y) (or_left (is_same a t) (list_any (is_same a) ts) x)))
    (λ e. of_targets a b id ts e (λ x y. k x (or_right (is_same a t) (list_any (is_same a) ts) y)))

in_targets : (a id : ContextId) (ts : List ContextId) → Among a ts → list_any (pair a id) (map (λ t. (t, id)) ts) ≡ true
in_targets a id [] h = cc
in_targets a id (t ∷ ts) h =
    either (is_same a t) (list_any (is_same a) ts) h
    (λ e. or_left (pair a id (t, id)) (list_any (pair a id) (map (λ t. (t, id)) ts)) (rw (e, is_same_self id) refl))
    (λ e. or_right (pair a id (t, id)) (list_any (pair a id) (map (λ t. (t, id)) ts)) (in_targets a id ts e))

module _ (heads : List SyntaxReference) (bodies : List (List Context)) where
  abbrev inclusions : List Inclusion
  inclusions = each_from (inclusions_by heads) 0 bodies

  included : (a b : ContextId) → Among b (includers_in inclusions a) → Among a (includes_of heads bodies b)
  included a b h = of_given (pair a b) (inclusions_by heads) bodies (sym (paired a b inclusions) ∙ h)
      (λ id c e l. of_targets a b id (flat_map (included_by heads id.syntax_index) c.patterns) l
      (λ s m. subst (λ x. Among a (includes_of heads bodies x)) (sym s) (subst (λ o. Among a (flat_map (included_by heads id.syntax_index) (option_map_or (λ (c : Context). c.patterns) o []))) (sym e) m)))

  includes : (a b : ContextId) → Among a (includes_of heads bodies b) → Among b (includers_in inclusions a)
  includes a b h = paired a b inclusions ∙ by (given_at bodies b) refl h
    where
      by : (o : Option Context) → given_at bodies b ≡ o → Among a (flat_map (included_by heads b.syntax_index) (option_map_or (λ (c : Context). c.patterns) o [])) → list_any (pair a b) inclusions ≡ true
      by None e l = cc
      by (Some c) e l = has_given (pair a b) (inclusions_by heads) bodies b c e (in_targets a b (flat_map (included_by heads b.syntax_index) c.patterns) l)

  module _ (steps : ContextId → List ContextId) (same : (id : ContextId) → steps id ≡ includers_in inclusions id) where
    marks_found : (id : ContextId) → From steps (each_from if_marked 0 bodies) id → HasPath (includes_of heads bodies) (is_marked bodies) id
    marks_found id (first e) = here (mark_of bodies id e)
    marks_found id (onward {id = a} f e) = there (included a id (subst (λ l. Among id l) (same a) e)) (marks_found a f)

    marks_of : (id : ContextId) → HasPath (includes_of heads bodies) (is_marked bodies) id → From steps (each_from if_marked 0 bodies) id
    marks_of id (here e) = first (mark_in bodies id e)
    marks_of id (there {next = next} e l) = onward (marks_of next l) (subst (λ l. Among id l) (sym (same next)) (includes next id e))

    pub marks_spread : (has : ContextId → Bool) → ((id : ContextId) → (has id ≡ true) ↔ From steps (each_from if_marked 0 bodies) id) → (id : ContextId) → has id ≡ is_marked_in_set heads bodies id
    marks_spread has h id =
        both_ways (has id) (is_marked_in_set heads bodies id)
        (λ e. marks_lead heads bodies id (marks_found id ((h id).0 e)))
        (λ e. (h id).1 (marks_of id (leads_so (includes_of heads bodies) (is_marked bodies) (count_contexts bodies) id e)))

  pub marks_all : (steps : ContextId → List ContextId) (qs : List Inclusion) (given : List ContextId) (has : ContextId → Bool) → qs ≡ each_from (inclusions_by heads) 0 bodies → given ≡ each_from if_marked 0 bodies
      → ((id : ContextId) → steps id ≡ includers_in qs id) → ((id : ContextId) → (has id ≡ true) ↔ From steps given id) → (id : ContextId) → has id ≡ is_marked_in_set heads bodies id
  marks_all steps qs given has e f s h = marks_spread steps (λ id. s id ∙ ap (λ x. includers_in x id) e) has (λ id. subst (λ x. (has id ≡ true) ↔ From steps x id) f (h id))
