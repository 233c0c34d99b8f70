-- Walks from context to context: what is marked and what waits.
use Rattle.std.proofs.Common.{◌≡◌, ◌↔◌, ℕ, suc, ◌+◌, ◌≤◌, ◌<◌, Bool, true, false, ◌||◌, cond, List, [], ◌∷◌, ◌++◌, length, refl, ap, sym, ◌∙◌, subst, arith, length-append, map, filter, take, get_or, Option, Some, None, if◌then◌else◌}
use Rattle.std.specs.List.{list_any}
use Rattle.std.specs.Map.{keys_of, lookup}
use Rattle.std.specs.Option.{option_map_or}
use Rattle.syntect_grammar_contexts.specs.Contexts.{is_same}
use Rattle.syntect_grammar_linker.specs.Inclusions.{Among, From, first, onward, Inclusion, includers_in}
use Rattle.syntect_grammar_contexts.specs.declared.context.ContextId.{ContextId}
use Rattle.syntect_grammar_linker.proofs.LinkLaws.{take_more, held_at}
use Rattle.syntect_grammar_linker.proofs.Numbers.{any_append, is_same_self, same_id}

-- ---- truth values ----

pub either : {C : Type 0} (a b : Bool) → (a || b) ≡ true → (a ≡ true → C) → (b ≡ true → C) → C
either true b h f g = f refl
either false b h f g = g h

pub or_left : (a b : Bool) → a ≡ true → (a || b) ≡ true
or_left true b h = refl
or_left false b h = cc

pub or_right : (a b : Bool) → b ≡ true → (a || b) ≡ true
or_right true b h = refl
or_right false b h = h

pub both_ways : (a b : Bool) → (a ≡ true → b ≡ true) → (b ≡ true → a ≡ true) → a ≡ b
both_ways true true f g = refl
both_ways true false f g = sym (f refl)
both_ways false true f g = g refl
both_ways false false f g = refl

pub known : {C : Type 0} (a : Bool) → (a ≡ true → C) → (a ≡ false → C) → C
known true f g = f refl
known false f g = g refl

-- ---- ids among others ----

pub among_append : {C : Type 0} (id : ContextId) (xs ys : List ContextId) → Among id (xs ++ ys) → (Among id xs → C) → (Among id ys → C) → C
among_append id xs ys h f g = either (list_any (is_same id) xs) (list_any (is_same id) ys) (sym (any_append (is_same id) xs ys) ∙ h) f g

pub among_left : (id : ContextId) (xs ys : List ContextId) → Among id xs → Among id (xs ++ ys)
among_left id xs ys h = any_append (is_same id) xs ys ∙ or_left (list_any (is_same id) xs) (list_any (is_same id) ys) h

pub among_right : (id : ContextId) (xs ys : List ContextId) → Among id ys → Among id (xs ++ ys)
among_right id xs ys h = any_append (is_same id) xs ys ∙ or_right (list_any (is_same id) xs) (list_any (is_same id) ys) h

pub among_one : (id x : ContextId) → Among id (x ∷ []) → id ≡ x
among_one id x h = either (is_same id x) false h (same_id id x) (λ e. cc)

pub one_among : (x : ContextId) → Among x (x ∷ [])
one_among x = or_left (is_same x x) false (is_same_self x)

-- ---- walks ----

abbrev pub is_seen : (ContextId → Bool) → List ContextId → ContextId → Bool
is_seen has waiting id = has id || list_any (is_same id) waiting

-- All that is marked or waits is reached, and what is marked leads to what is marked or waits.
pub record IsWalked (steps : ContextId → List ContextId) (start : List ContextId) (has : ContextId → Bool) (waiting : List ContextId) : Type 0 where
  pub sound : (id : ContextId) → is_seen has waiting id ≡ true → From steps start id
  pub closed : (id next : ContextId) → has id ≡ true → Among next (steps id) → is_seen has waiting next ≡ true
  pub started : (id : ContextId) → Among id start → is_seen has waiting id ≡ true

module _ (steps : ContextId → List ContextId) (start : List ContextId) where
  pub begun : (has : ContextId → Bool) → ((id : ContextId) → has id ≡ false) → IsWalked steps start has start
  begun has none = record {
    sound = λ id h. either (has id) (list_any (is_same id) start) h (λ e. let f : true ≡ false = sym e ∙ none id in cc) (λ e. first e);
    closed = λ id next h e. let f : true ≡ false = sym h ∙ none id in cc;
    started = λ id e. or_right (has id) (list_any (is_same id) start) e;
  }

  module _ (has : ContextId → Bool) (front : List ContextId) (x : ContextId) (before : IsWalked steps start has (front ++ x ∷ [])) where
    still : has x ≡ true → (id : ContextId) → is_seen has (front ++ x ∷ []) id ≡ true → is_seen has front id ≡ true
    still old id h = either (has id) (list_any (is_same id) (front ++ x ∷ [])) h (or_left (has id) (list_any (is_same id) front))
        (λ e. among_append id front (x ∷ []) e (or_right (has id) (list_any (is_same id) front))
        (λ o. or_left (has id) (list_any (is_same id) front) (ap has (among_one id x o) ∙ old)))

    -- one that is marked already
    pub passed : has x ≡ true → IsWalked steps start has front
    passed old = record {
      sound = λ id h. before.sound id (either (has id) (list_any (is_same id) front) h (or_left (has id) (list_any (is_same id) (front ++ x ∷ [])))
          (λ e. or_right (has id) (list_any (is_same id) (front ++ x ∷ [])) (among_left id front (x ∷ []) e)));
      closed = λ id next h e. still old next (before.closed id next h e);
      started = λ id e. still old id (before.started id e);
    }

    module _ (after : ContextId → Bool) (more : (q : ContextId) → after q ≡ cond (is_same x q) true (has q)) where
      after_self : after x ≡ true
      after_self = more x ∙ ap (λ t. cond t true (has x)) (is_same_self x)

      after_old : (q : ContextId) → has q ≡ true → after q ≡ true
      after_old q e = more q ∙ by (is_same x q) (has q) e
        where
          by : (a b : Bool) → b ≡ true → cond a true b ≡ true
          by true b h = refl
          by false b h = h

      after_either : {C : Type 0} (q : ContextId) → after q ≡ true → (x ≡ q → C) → (has q ≡ true → C) → C
      after_either {C} q h f g = by (is_same x q) refl
        where
          by : (a : Bool) → is_same x q ≡ a → C
          by true e = f (same_id x q e)
          by false e = g (sym (more q ∙ ap (λ t. cond t true (has q)) e) ∙ h)

      kept : (id : ContextId) → is_seen has (front ++ x ∷ []) id ≡ true → is_seen after (front ++ steps x) id ≡ true
      kept id h = either (has id) (list_any (is_same id) (front ++ x ∷ [])) h (λ e. or_left (after id) (list_any (is_same id) (front ++ steps x)) (after_old id e))
          (λ e. among_append id front (x ∷ []) e (λ l. or_right (after id) (list_any (is_same id) (front ++ steps x)) (among_left id front (steps x) l))
          (λ o. or_left (after id) (list_any (is_same id) (front ++ steps x)) (ap after (among_one id x o) ∙ after_self)))

      here : From steps start x
      here = before.sound x (or_right (has x) (list_any (is_same x) (front ++ x ∷ [])) (among_right x front (x ∷ []) (one_among x)))

      -- one that is new
      pub visited : IsWalked steps start after (front ++ steps x)
      visited = record {
        sound = λ id h. either (after id) (list_any (is_same id) (front ++ steps x)) h
            (λ e. after_either id e (λ o. subst (From steps start) o here) (λ o. before.sound id (or_left (has id) (list_any (is_same id) (front ++ x ∷ [])) o)))
            (λ e. among_append id front (steps x) e (λ l. before.sound id (or_right (has id) (list_any (is_same id) (front ++ x ∷ [])) (among_left id front (x ∷ []) l)))
            (λ l. onward here l));
        closed = λ id next h e. after_either id h
            (λ o. or_right (after next) (list_any (is_same next) (front ++ steps x)) (among_right next front (steps x) (subst (λ y. Among next (steps y)) (sym o) e)))
            (λ o. kept next (before.closed id next o e));
        started = λ id e. kept id (before.started id e);
      }

  ended_seen : (has : ContextId → Bool) (id : ContextId) → is_seen has [] id ≡ true → has id ≡ true
  ended_seen has id h = either (has id) false h (λ e. e) (λ e. cc)

  -- at the end, what is marked is what is reached
  pub ended : (has : ContextId → Bool) → IsWalked steps start has [] → (id : ContextId) → From steps start id → has id ≡ true
  ended has w id (first e) = ended_seen has id (w.started id e)
  ended has w id (onward {id = before} f e) = ended_seen has id (w.closed before id (ended has w before f) e)

  pub reached : (has : ContextId → Bool) → IsWalked steps start has [] → (id : ContextId) → has id ≡ true → From steps start id
  reached has w id e = w.sound id (or_left (has id) false e)

-- ---- the work that is left ----

-- the steps of what isn't marked yet, each counted with itself
abbrev pub weight : (ContextId → List ContextId) → List ContextId → (ContextId → Bool) → ℕ
weight steps [] has = 0
weight steps (a ∷ all) has = (if has a then 0 else length (steps a) + 1) + weight steps all has

module _ (steps : ContextId → List ContextId) (has after : ContextId → Bool) (x : ContextId) (more : (q : ContextId) → after q ≡ cond (is_same x q) true (has q)) where
  one_less : (a h : Bool) (t n : ℕ) → n ≡ (if cond a true h then 0 else t) → n ≤ (if h then 0 else t)
  one_less true true t n e = omega (arith, e)
  one_less true false t n e = omega (arith, e)
  one_less false true t n e = omega (arith, e)
  one_less false false t n e = omega (arith, e)

  own_less : (a : ContextId) → (if after a then 0 else length (steps a) + 1) ≤ (if has a then 0 else length (steps a) + 1)
  own_less a = one_less (is_same x a) (has a) (length (steps a) + 1) _ (ap (λ t. if t then 0 else length (steps a) + 1) (more a))

  pub weight_stays : (all : List ContextId) → weight steps all after ≤ weight steps all has
  weight_stays [] = omega arith
  weight_stays (a ∷ all) = omega (arith, own_less a, weight_stays all)

  own_falls : (a : ContextId) → has x ≡ false → is_same x a ≡ true → (if after a then 0 else length (steps a) + 1) + (length (steps x) + 1) ≤ (if has a then 0 else length (steps a) + 1)
  own_falls a new e =
      let s : x ≡ a = same_id x a e in
      let h : has a ≡ false = ap has (sym s) ∙ new in
      let t : after a ≡ true = more a ∙ ap (λ t. cond t true (has a)) e in
      let l : length (steps x) ≡ length (steps a) = ap (λ y. length (steps y)) s in
      let f : (if after a then 0 else length (steps a) + 1) ≡ 0 = rw t refl in
      let g : (if has a then 0 else length (steps a) + 1) ≡ length (steps a) + 1 = rw h refl in
      omega (arith, f, g, l)

  pub weight_falls : (all : List ContextId) → has x ≡ false → Among x all → weight steps all after + (length (steps x) + 1) ≤ weight steps all has
  weight_falls [] new e = cc
  weight_falls (a ∷ all) new e =
      either (is_same x a) (list_any (is_same x) all) e
      (λ f. omega (arith, own_falls a new f, weight_stays all))
      (λ f. omega (arith, own_less a, weight_falls all new f))

  -- the work gets less: one that has steps is among all
  pub less_work : (all front : List ContextId) → has x ≡ false → (list_any (is_same x) all ≡ false → steps x ≡ [])
      → weight steps all after + length (front ++ steps x) < weight steps all has + length (front ++ x ∷ [])
  less_work all front new outside =
      known (list_any (is_same x) all)
      (λ e. omega (arith, weight_falls all new e, length-append front (steps x), length-append front (x ∷ [])))
      (λ e. let n : length (steps x) ≡ 0 = ap length (outside e) in
      omega (arith, n, weight_stays all, length-append front (steps x), length-append front (x ∷ [])))

-- ---- the steps of a loop ----

module _ (steps : ContextId → List ContextId) (start : List ContextId) (has : ContextId → Bool) where
  pub walk_begins : (waiting : List ContextId) → ((id : ContextId) → has id ≡ false) → waiting ≡ start → IsWalked steps start has waiting
  walk_begins waiting none e = subst (IsWalked steps start has) (sym e) (begun steps start has none)

  pub walk_ends : (waiting : List ContextId) → IsWalked steps start has waiting → waiting ≡ [] → (id : ContextId) → (has id ≡ true) ↔ From steps start id
  walk_ends waiting w e id =
      let v : IsWalked steps start has [] = subst (IsWalked steps start has) e w in
      (reached steps start has v id, ended steps start has v id)

  module _ (old front : List ContextId) (x : ContextId) (after : ContextId → Bool) (before : old ≡ front ++ x ∷ []) where
    nothing_new : has x ≡ true → (q : ContextId) → cond (is_same x q) true (has q) ≡ has q
    nothing_new t q = by (is_same x q) refl
      where
        by : (b : Bool) → is_same x q ≡ b → cond b true (has q) ≡ has q
        by true e = sym (ap has (sym (same_id x q e)) ∙ t)
        by false e = refl

    pub walk_passes : IsWalked steps start has old → has x ≡ true → ((q : ContextId) → after q ≡ cond (is_same x q) true (has q)) → IsWalked steps start after front
    walk_passes w t more =
        let v : IsWalked steps start has front = passed steps start has front x (subst (IsWalked steps start has) before w) t in
        let same : (q : ContextId) → after q ≡ has q = λ q. more q ∙ nothing_new t q in
        record {
          sound = λ id h. v.sound id (ap (λ b. b || list_any (is_same id) front) (sym (same id)) ∙ h);
          closed = λ id next h e. ap (λ b. b || list_any (is_same next) front) (same next) ∙ v.closed id next (sym (same id) ∙ h) e;
          started = λ id e. ap (λ b. b || list_any (is_same id) front) (same id) ∙ v.started id e;
        }

    module _ (waiting : List ContextId) (behind : waiting ≡ front ++ steps x) (more : (q : ContextId) → after q ≡ cond (is_same x q) true (has q)) where
      pub walk_visits : IsWalked steps start has old → IsWalked steps start after waiting
      walk_visits w = subst (IsWalked steps start after) (sym behind) (visited steps start has front x (subst (IsWalked steps start has) before w) after more)

      pub work_falls : (all : List ContextId) → has x ≡ false → (list_any (is_same x) all ≡ false → steps x ≡ [])
          → weight steps all after + length waiting < weight steps all has + length old
      work_falls all new outside = rw (behind, before) (less_work steps has after x more all front new outside)

-- what isn't among the keys has no entry
pub nothing_held : {X : Type 0} (entries : List (ContextId × X)) (id : ContextId) (f : X → List ContextId) → list_any (is_same id) (keys_of entries) ≡ false → option_map_or f (lookup (is_same id) entries) [] ≡ []
nothing_held [] id f h = refl
nothing_held (e ∷ es) id f h = by (is_same id e.0) (λ t. nothing_held es id f t) h
  where
    by : (b : Bool) → (list_any (is_same id) (keys_of es) ≡ false → option_map_or f (lookup (is_same id) es) [] ≡ []) → (b || list_any (is_same id) (keys_of es)) ≡ false
        → option_map_or f (cond b (Some e.1) (lookup (is_same id) es)) [] ≡ []
    by true k t = cc
    by false k t = k t

-- a table of lists: a key that is new
pub put_first : {V : Type 0} (items : V → List ContextId) (old after : ContextId → Option V) (x y : ContextId) (v : V) → old x ≡ None → items v ≡ y ∷ [] → ((q : ContextId) → after q ≡ cond (is_same x q) (Some v) (old q))
    → (q : ContextId) → option_map_or items (after q) [] ≡ cond (is_same x q) (option_map_or items (old q) [] ++ y ∷ []) (option_map_or items (old q) [])
put_first items old after x y v n i u q = ap (λ o. option_map_or items o []) (u q) ∙ by (is_same x q) refl
  where
    by : (b : Bool) → is_same x q ≡ b → option_map_or items (cond b (Some v) (old q)) [] ≡ cond b (option_map_or items (old q) [] ++ y ∷ []) (option_map_or items (old q) [])
    by true e = i ∙ sym (ap (λ o. option_map_or items o [] ++ y ∷ []) (ap old (sym (same_id x q e)) ∙ n))
    by false e = refl

same_sym : (a b : ContextId) → is_same a b ≡ is_same b a
same_sym a b = both_ways (is_same a b) (is_same b a) (λ e. subst (λ x. is_same x a ≡ true) (same_id a b e) (is_same_self a)) (λ e. subst (λ x. is_same x b ≡ true) (same_id b a e) (is_same_self b))

includers_push : (qs : List Inclusion) (q : Inclusion) (id : ContextId) → includers_in (qs ++ q ∷ []) id ≡ cond (is_same id q.0) (includers_in qs id ++ q.1 ∷ []) (includers_in qs id)
includers_push [] q id = by (is_same id q.0)
  where
    by : (b : Bool) → map (λ (i : Inclusion). i.1) (cond b (q ∷ []) []) ≡ cond b (q.1 ∷ []) []
    by true = refl
    by false = refl
includers_push (x ∷ qs) q id = by (is_same id x.0) (is_same id q.0) (includers_push qs q id)
  where
    by : (a b : Bool) → includers_in (qs ++ q ∷ []) id ≡ cond b (includers_in qs id ++ q.1 ∷ []) (includers_in qs id)
        → map (λ (i : Inclusion). i.1) (cond a (x ∷ filter (λ (i : Inclusion). is_same id i.0) (qs ++ q ∷ [])) (filter (λ (i : Inclusion). is_same id i.0) (qs ++ q ∷ [])))
        ≡ cond b (map (λ (i : Inclusion). i.1) (cond a (x ∷ filter (λ (i : Inclusion). is_same id i.0) qs) (filter (λ (i : Inclusion). is_same id i.0) qs)) ++ q.1 ∷ []) (map (λ (i : Inclusion). i.1) (cond a (x ∷ filter (λ (i : Inclusion). is_same id i.0) qs) (filter (λ (i : Inclusion). is_same id i.0) qs)))
    by true true h = ap (λ l. x.1 ∷ l) h
    by true false h = ap (λ l. x.1 ∷ l) h
    by false true h = h
    by false false h = h

pub includers_more : (qs : List Inclusion) (k : ℕ) (d : Inclusion) (id : ContextId) (before after : List ContextId) → k < length qs → before ≡ includers_in (take k qs) id
    → after ≡ cond (is_same (get_or qs k d).0 id) (before ++ (get_or qs k d).1 ∷ []) before → after ≡ includers_in (take (k + 1) qs) id
includers_more qs k d id before after l b a =
    let n : k + 1 ≡ suc k = omega arith in
    a ∙ ap (λ t. cond t (before ++ (get_or qs k d).1 ∷ []) before) (same_sym (get_or qs k d).0 id) ∙ ap (λ x. cond (is_same id (get_or qs k d).0) (x ++ (get_or qs k d).1 ∷ []) x) b
    ∙ sym (includers_push (take k qs) (get_or qs k d) id) ∙ ap (λ x. includers_in x id) (sym (take_more qs k (get_or qs k d) (held_at qs k d l)) ∙ ap (λ n. take n qs) (sym n))
