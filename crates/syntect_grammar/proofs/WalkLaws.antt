-- A walk that enters each context once gives what the walk by include paths gives, but for patterns
-- that came before.
use Rattle.std.proofs.Common.{◌≡◌, ℕ, suc, ◌+◌, ◌≤◌, ◌<◌, Bool, true, false, ◌||◌, ◌==◌, List, [], ◌∷◌, ◌++◌, length, map, find, Option, Some, None, refl, ap, sym, ◌∙◌, subst, arith, append_assoc, append-nil, length-append, if◌then◌else◌}
use Rattle.std.specs.List.{list_any}
use Rattle.std.proofs.lemmas.Bool.Decides.{nat_tests}
use Rattle.syntect_grammar.specs.syntect_grammar_contexts.Contexts.{is_same, target}
use Rattle.syntect_grammar.specs.Contexts.{context_at, contexts_of}
use Rattle.syntect_grammar.specs.Patterns.{entries, patterns_of, unresolved, lacking, around, Walks, ended, own, passed_over, followed}
use Rattle.syntect_grammar.proofs.Room.{listed, room_is_not_felt_at}
use Rattle.syntect_grammar_linker.proofs.Numbers.{any_append, is_same_self, same_id, numbers_from}
use Rattle.syntect_grammar.specs.Walk.{FindsSame, frame_of, entering}
use Rattle.syntect_grammar.proofs.SameLaws.{found_past, none_first, none_left, none_right, none_here}
use Rattle.syntect_grammar.specs.syntect_grammar_contexts.declared.context.ContextId.{ContextId}
use Rattle.syntect_grammar.specs.syntect_grammar_contexts.declared.context.ContextReference.{ContextReference}
use Rattle.syntect_grammar.specs.syntect_grammar_contexts.declared.context.MatchPattern.{MatchPattern}
use Rattle.syntect_grammar.specs.syntect_grammar_contexts.declared.context.Pattern.{Pattern}
use Rattle.syntect_grammar.specs.syntect_grammar_contexts.declared.context.Pattern.TheVariants.{Match, Include}
use Rattle.syntect_grammar.specs.syntect_grammar_contexts.declared.context.Context.{Context}
use Rattle.syntect_grammar.specs.declared.syntax_set.SyntaxSet.{SyntaxSet}

-- ---- contexts among others ----

neither_left : (a b : Bool) → (a || b) ≡ false → a ≡ false
neither_left true b h = cc
neither_left false b h = refl

neither_right : (a b : Bool) → (a || b) ≡ false → b ≡ false
neither_right true b h = cc
neither_right false b h = h

either_left : (a b : Bool) → a ≡ true → (a || b) ≡ true
either_left true b h = refl
either_left false b h = cc

either_right : (a b : Bool) → b ≡ true → (a || b) ≡ true
either_right true b h = refl
either_right false b h = h

one_of : {C : Type 0} (a b : Bool) → (a || b) ≡ true → (a ≡ true → C) → (b ≡ true → C) → C
one_of true b h f g = f refl
one_of false b h f g = g h

abbrev pub is_in : ContextId → List ContextId → Bool
is_in id xs = list_any (is_same id) xs

out_left : (id : ContextId) (xs ys : List ContextId) → is_in id (xs ++ ys) ≡ false → is_in id xs ≡ false
out_left id xs ys h = neither_left (is_in id xs) (is_in id ys) (sym (any_append (is_same id) xs ys) ∙ h)

out_right : (id : ContextId) (xs ys : List ContextId) → is_in id (xs ++ ys) ≡ false → is_in id ys ≡ false
out_right id xs ys h = neither_right (is_in id xs) (is_in id ys) (sym (any_append (is_same id) xs ys) ∙ h)

out_both : (id : ContextId) (xs ys : List ContextId) → is_in id xs ≡ false → is_in id ys ≡ false → is_in id (xs ++ ys) ≡ false
out_both id xs ys h k = any_append (is_same id) xs ys ∙ by (is_in id xs) (is_in id ys) h k
  where
    by : (a b : Bool) → a ≡ false → b ≡ false → (a || b) ≡ false
    by true b e f = cc
    by false b e f = f

in_left : (id : ContextId) (xs ys : List ContextId) → is_in id xs ≡ true → is_in id (xs ++ ys) ≡ true
in_left id xs ys h = any_append (is_same id) xs ys ∙ either_left (is_in id xs) (is_in id ys) h

in_right : (id : ContextId) (xs ys : List ContextId) → is_in id ys ≡ true → is_in id (xs ++ ys) ≡ true
in_right id xs ys h = any_append (is_same id) xs ys ∙ either_right (is_in id xs) (is_in id ys) h

is_one : (id x : ContextId) → is_in id (x ∷ []) ≡ true → id ≡ x
is_one id x h = one_of (is_same id x) false h (same_id id x) (λ e. cc)

one_is : (x : ContextId) → is_in x (x ∷ []) ≡ true
one_is x = either_left (is_same x x) false (is_same_self x)

-- ---- what the rest of a walk gives ----

abbrev pub Visit : Type 0
Visit = ContextId × List Pattern

abbrev pub ids : List Visit → List ContextId
ids fs = map (λ f. f.0) fs

-- what is left of the walks of these contexts, each included by the one before it,
-- the last one first
abbrev pub IsLeft : SyntaxSet → List ContextId → List Visit → List MatchPattern → Type 0
IsLeft set path [] rest = rest ≡ []
IsLeft set path (f ∷ fs) rest = (inner : List MatchPattern) × (ms : List MatchPattern)
    × IsLeft set (path ++ f.0 ∷ []) fs inner × Walks set (path ++ f.0 ∷ []) f.1 ms × (rest ≡ inner ++ ms)

-- the last one, and those before it
pub record Top (set : SyntaxSet) (path : List ContextId) (fs : List Visit) (id : ContextId) (ps : List Pattern) (rest : List MatchPattern) : Type 0 where
  pub ms : List MatchPattern
  pub below : List MatchPattern
  pub walk : Walks set ((path ++ ids fs) ++ id ∷ []) ps ms
  pub is_left : IsLeft set path fs below
  pub joins : rest ≡ ms ++ below

pub top_of : (set : SyntaxSet) (path : List ContextId) (fs : List Visit) (id : ContextId) (ps : List Pattern) (rest : List MatchPattern)
    → IsLeft set path (fs ++ (id, ps) ∷ []) rest → Top set path fs id ps rest
top_of set path [] id ps rest h = record {
  ms = h.1;
  below = [];
  walk = subst (λ (q : List ContextId). Walks set (q ++ id ∷ []) ps h.1) (sym (append-nil path)) h.3;
  is_left = refl;
  joins = h.4 ∙ ap (λ (l : List MatchPattern). l ++ h.1) h.2 ∙ sym (append-nil h.1);
}
top_of set path (f ∷ fs) id ps rest h =
    let t : Top set (path ++ f.0 ∷ []) fs id ps h.0 = top_of set (path ++ f.0 ∷ []) fs id ps h.0 h.2 in
    record {
      ms = t.ms;
      below = t.below ++ h.1;
      walk = subst (λ (q : List ContextId). Walks set (q ++ id ∷ []) ps t.ms) (append_assoc path (f.0 ∷ []) (ids fs)) t.walk;
      is_left = (t.below, h.1, t.is_left, h.3, refl);
      joins = h.4 ∙ ap (λ (l : List MatchPattern). l ++ h.1) t.joins ∙ append_assoc t.ms t.below h.1;
    }

pub with_top : (set : SyntaxSet) (path : List ContextId) (fs : List Visit) (id : ContextId) (ps : List Pattern) (ms below : List MatchPattern)
    → Walks set ((path ++ ids fs) ++ id ∷ []) ps ms → IsLeft set path fs below → IsLeft set path (fs ++ (id, ps) ∷ []) (ms ++ below)
with_top set path [] id ps ms below w h =
    ([], ms, refl, subst (λ (q : List ContextId). Walks set (q ++ id ∷ []) ps ms) (append-nil path) w, ap (λ (l : List MatchPattern). ms ++ l) h ∙ append-nil ms)
with_top set path (f ∷ fs) id ps ms below w h =
    let v : Walks set (((path ++ f.0 ∷ []) ++ ids fs) ++ id ∷ []) ps ms = subst (λ (q : List ContextId). Walks set (q ++ id ∷ []) ps ms) (sym (append_assoc path (f.0 ∷ []) (ids fs))) w in
    (ms ++ h.0, h.1, with_top set (path ++ f.0 ∷ []) fs id ps ms h.0 v h.2, h.3, ap (λ (l : List MatchPattern). ms ++ l) h.4 ∙ sym (append_assoc ms h.0 h.1))

-- ---- contexts that were walked ----

-- what is included was entered, or gives nothing
abbrev pub IsKnown : SyntaxSet → List ContextId → Option ContextId → Type 0
IsKnown set seen None = Unit {0}
IsKnown set seen (Some id) = is_in id seen ≡ false → entries set id ≡ []

-- entries of which a test passes none, and whose includes are known
abbrev pub AreThrough : SyntaxSet → (MatchPattern → Bool) → List ContextId → List Pattern → Type 0
AreThrough set test seen [] = Unit {0}
AreThrough set test seen (Match m ∷ ps) = (test m ≡ false) × AreThrough set test seen ps
AreThrough set test seen (Include r ∷ ps) = IsKnown set seen (target r) × AreThrough set test seen ps

known_more : (set : SyntaxSet) (seen : List ContextId) (t : ContextId) (o : Option ContextId) → IsKnown set seen o → IsKnown set (seen ++ t ∷ []) o
known_more set seen t None h = tt
known_more set seen t (Some id) h = λ e. h (out_left id seen (t ∷ []) e)

pub through_more : (set : SyntaxSet) (test : MatchPattern → Bool) (seen : List ContextId) (t : ContextId) (ps : List Pattern)
    → AreThrough set test seen ps → AreThrough set test (seen ++ t ∷ []) ps
through_more set test seen t [] h = tt
through_more set test seen t (Match m ∷ ps) h = (h.0, through_more set test seen t ps h.1)
through_more set test seen t (Include r ∷ ps) h = (known_more set seen t (target r) h.0, through_more set test seen t ps h.1)

through_append : (set : SyntaxSet) (test : MatchPattern → Bool) (seen : List ContextId) (ps qs : List Pattern)
    → AreThrough set test seen ps → AreThrough set test seen qs → AreThrough set test seen (ps ++ qs)
through_append set test seen [] qs h k = k
through_append set test seen (Match m ∷ ps) qs h k = (h.0, through_append set test seen ps qs h.1 k)
through_append set test seen (Include r ∷ ps) qs h k = (h.0, through_append set test seen ps qs h.1 k)

-- what was entered, and isn't on the path, is through
abbrev pub LeavesThrough : SyntaxSet → (MatchPattern → Bool) → List ContextId → List ContextId → Type 0
LeavesThrough set test seen path = (id : ContextId) → is_in id seen ≡ true → is_in id path ≡ false → AreThrough set test seen (entries set id)

-- then nothing that is through gives anything new
pub nothing_new : (set : SyntaxSet) (test : MatchPattern → Bool) (seen path : List ContextId) (ps : List Pattern) (ms : List MatchPattern)
    → Walks set path ps ms → LeavesThrough set test seen path → AreThrough set test seen ps → find test ms ≡ None
nothing_new set test seen path ps ms ended a h = refl
nothing_new set test seen path ps ms (own {m = m} {ps = qs} {ms = ns} w) a h = rw h.0 (nothing_new set test seen path qs ns w a h.1)
nothing_new set test seen path ps ms (passed_over {r = r} {ps = qs} {ms = ns} g w) a h = nothing_new set test seen path qs ns w a h.1
nothing_new set test seen path ps ms (followed {r = r} {id = id} {c = c} {ps = qs} {inner = inner} {ms = ns} e f k v w) a h =
    let known : IsKnown set seen (Some id) = subst (IsKnown set seen) e h.0 in
    let es : entries set id ≡ c.patterns = rw k refl in
    none_first test inner ns
    (nothing_new set test seen (path ++ id ∷ []) c.patterns inner v (λ x s n. a x s (out_left x path (id ∷ []) n)) (subst (AreThrough set test seen) es (by known (is_in id seen) refl)))
    ∙ nothing_new set test seen path qs ns w a h.1
  where
    by : IsKnown set seen (Some id) → (b : Bool) → is_in id seen ≡ b → AreThrough set test seen (entries set id)
    by known true s = a id s f
    by known false s = subst (AreThrough set test seen) (sym (known s)) tt

-- ---- the contexts that are being walked ----

-- the entries that were passed are through
abbrev pub IsPassed : SyntaxSet → (MatchPattern → Bool) → List ContextId → Visit → Type 0
IsPassed set test seen f = (done : List Pattern) × (entries set f.0 ≡ done ++ f.1) × AreThrough set test seen done

abbrev pub ArePassed : SyntaxSet → (MatchPattern → Bool) → List ContextId → List Visit → Type 0
ArePassed set test seen [] = Unit {0}
ArePassed set test seen (f ∷ fs) = (IsPassed set test seen f) × (ArePassed set test seen fs)

passed_more : (set : SyntaxSet) (test : MatchPattern → Bool) (seen : List ContextId) (t : ContextId) (fs : List Visit)
    → ArePassed set test seen fs → ArePassed set test (seen ++ t ∷ []) fs
passed_more set test seen t [] h = tt
passed_more set test seen t (f ∷ fs) h = ((h.0.0, h.0.1, through_more set test seen t h.0.0 h.0.2), passed_more set test seen t fs h.1)

passed_below : (set : SyntaxSet) (test : MatchPattern → Bool) (seen : List ContextId) (fs : List Visit) (f : Visit)
    → ArePassed set test seen (fs ++ f ∷ []) → ArePassed set test seen fs
passed_below set test seen [] f h = tt
passed_below set test seen (g ∷ fs) f h = (h.0, passed_below set test seen fs f h.1)

passed_top : (set : SyntaxSet) (test : MatchPattern → Bool) (seen : List ContextId) (fs : List Visit) (f : Visit)
    → ArePassed set test seen (fs ++ f ∷ []) → IsPassed set test seen f
passed_top set test seen [] f h = h.0
passed_top set test seen (g ∷ fs) f h = passed_top set test seen fs f h.1

passed_join : (set : SyntaxSet) (test : MatchPattern → Bool) (seen : List ContextId) (fs : List Visit) (f : Visit)
    → ArePassed set test seen fs → IsPassed set test seen f → ArePassed set test seen (fs ++ f ∷ [])
passed_join set test seen [] f h k = (k, tt)
passed_join set test seen (g ∷ fs) f h k = (h.0, passed_join set test seen fs f h.1 k)

ids_top : (fs : List Visit) (id : ContextId) (ps : List Pattern) → ids (fs ++ (id, ps) ∷ []) ≡ ids fs ++ id ∷ []
ids_top [] id ps = refl
ids_top (f ∷ fs) id ps = ap (λ (l : List ContextId). f.0 ∷ l) (ids_top fs id ps)

-- ---- the walk ----

-- What was given and what is left find what the context's walk finds, and are no more than that. As
-- long as a test finds nothing, what was entered is through, or being walked, and there what was
-- passed is through.
pub record IsWalk (set : SyntaxSet) (root : ContextId) (seen : List ContextId) (fs : List Visit) (out : List MatchPattern) : Type 0 where
  pub rest : List MatchPattern
  pub is_left : IsLeft set [] fs rest
  pub same : (test : MatchPattern → Bool) → find test (out ++ rest) ≡ find test (patterns_of set root)
  pub few : length out + length rest ≤ length (patterns_of set root)
  pub through : (test : MatchPattern → Bool) → find test out ≡ None → LeavesThrough set test seen (ids fs)
  pub passed : (test : MatchPattern → Bool) → find test out ≡ None → ArePassed set test seen fs
  pub entered : (id : ContextId) → is_in id (ids fs) ≡ true → is_in id seen ≡ true

pub walk_begins : (set : SyntaxSet) (root : ContextId) → IsWalk set root (root ∷ []) (frame_of set root ∷ []) []
walk_begins set root = record {
  rest = [] ++ patterns_of set root;
  is_left = ([], patterns_of set root, refl, (room_is_not_felt_at set root).0, refl);
  same = λ test. refl;
  few = omega arith;
  through = λ test n id s e. let k : true ≡ false = sym s ∙ e in cc;
  passed = λ test n. (([], refl, tt), tt);
  entered = λ id h. h;
}

pub walk_pops : (set : SyntaxSet) (root : ContextId) (seen : List ContextId) (fs : List Visit) (id : ContextId) (ps : List Pattern) (out : List MatchPattern)
    → ps ≡ [] → IsWalk set root seen (fs ++ (id, ps) ∷ []) out → IsWalk set root seen fs out
walk_pops set root seen fs id ps out nil w =
    let t = top_of set [] fs id ps w.rest w.is_left in
    record {
      rest = t.below;
      is_left = t.is_left;
      same = λ test. ap (λ (l : List MatchPattern). find test (out ++ l)) (sym (t.joins ∙ ap (λ (l : List MatchPattern). l ++ t.below) (gives_nothing ps t.ms nil t.walk))) ∙ w.same test;
      few = omega (arith, w.few, ap length t.joins, length-append t.ms t.below);
      through = λ test n x s e. by test n x s e (is_same x id) refl;
      passed = λ test n. passed_below set test seen fs (id, ps) (w.passed test n);
      entered = λ x h. w.entered x (ap (is_in x) (ids_top fs id ps) ∙ in_left x (ids fs) (id ∷ []) h);
    }
  where
    gives_nothing : (qs : List Pattern) (ms : List MatchPattern) → qs ≡ [] → Walks set ((ids fs) ++ id ∷ []) qs ms → ms ≡ []
    gives_nothing qs ms e ended = refl
    gives_nothing qs ms e (own v) = cc
    gives_nothing qs ms e (passed_over g v) = cc
    gives_nothing qs ms e (followed a b c d v) = cc

    by : (test : MatchPattern → Bool) → find test out ≡ None → (x : ContextId) → is_in x seen ≡ true → is_in x (ids fs) ≡ false → (b : Bool) → is_same x id ≡ b → AreThrough set test seen (entries set x)
    by test n x s e true m =
        let p = passed_top set test seen fs (id, ps) (w.passed test n) in
        subst (λ (y : ContextId). AreThrough set test seen (entries set y)) (sym (same_id x id m))
        (subst (AreThrough set test seen) (sym (p.1 ∙ ap (λ (l : List Pattern). p.0 ++ l) nil ∙ append-nil p.0)) p.2)
    by test n x s e false m =
        w.through test n x s (ap (is_in x) (ids_top fs id ps) ∙ out_both x (ids fs) (id ∷ []) e (rw m refl))

-- the top one goes on after an entry that is through once it was passed
goes_on : (set : SyntaxSet) (test : MatchPattern → Bool) (seen : List ContextId) (fs : List Visit) (id : ContextId) (p : Pattern) (ps : List Pattern)
    → AreThrough set test seen (p ∷ []) → ArePassed set test seen (fs ++ (id, p ∷ ps) ∷ []) → ArePassed set test seen (fs ++ (id, ps) ∷ [])
goes_on set test seen fs id p ps h a =
    let t = passed_top set test seen fs (id, p ∷ ps) a in
    passed_join set test seen fs (id, ps) (passed_below set test seen fs (id, p ∷ ps) a)
    (t.0 ++ p ∷ [], t.1 ∙ sym (append_assoc t.0 (p ∷ []) ps), through_append set test seen t.0 (p ∷ []) t.2 h)

pub walk_takes : (set : SyntaxSet) (root : ContextId) (seen : List ContextId) (fs : List Visit) (id : ContextId) (m : MatchPattern) (ps : List Pattern) (out : List MatchPattern)
    → IsWalk set root seen (fs ++ (id, Match m ∷ ps) ∷ []) out → IsWalk set root seen (fs ++ (id, ps) ∷ []) (out ++ m ∷ [])
walk_takes set root seen fs id m ps out w = by (top_of set [] fs id (Match m ∷ ps) w.rest w.is_left)
  where
    same_ids : ids (fs ++ (id, ps) ∷ []) ≡ ids (fs ++ (id, Match m ∷ ps) ∷ [])
    same_ids = ids_top fs id ps ∙ sym (ids_top fs id (Match m ∷ ps))

    with_rest : (rest below : List MatchPattern) → IsLeft set [] fs below → w.rest ≡ (m ∷ rest) ++ below → Walks set ((ids fs) ++ id ∷ []) ps rest
        → IsWalk set root seen (fs ++ (id, ps) ∷ []) (out ++ m ∷ [])
    with_rest rest below l e v = record {
      rest = rest ++ below;
      is_left = with_top set [] fs id ps rest below v l;
      same = λ test. ap (find test) (append_assoc out (m ∷ []) (rest ++ below)) ∙ ap (λ (x : List MatchPattern). find test (out ++ x)) (sym e) ∙ w.same test;
      few = omega (arith, w.few, ap length e, length-append out (m ∷ []), length-append rest below, length-append (m ∷ rest) below);
      through = λ test n x s k. w.through test (none_left test out (m ∷ []) n) x s (sym (ap (is_in x) same_ids) ∙ k);
      passed = λ test n. goes_on set test seen fs id (Match m) ps (none_here test m (none_right test out (m ∷ []) n), tt) (w.passed test (none_left test out (m ∷ []) n));
      entered = λ x h. w.entered x (sym (ap (is_in x) same_ids) ∙ h);
    }

    by_walk : (qs : List Pattern) (ms below : List MatchPattern) → qs ≡ Match m ∷ ps → Walks set ((ids fs) ++ id ∷ []) qs ms → IsLeft set [] fs below → w.rest ≡ ms ++ below
        → IsWalk set root seen (fs ++ (id, ps) ∷ []) (out ++ m ∷ [])
    by_walk qs ms below q ended l e = cc
    by_walk qs ms below q (own {m = n} {ps = rs} {ms = ns} v) l e =
        let a : n ≡ m = cc in
        let b : rs ≡ ps = cc in
        with_rest ns below l (e ∙ ap (λ (x : MatchPattern). (x ∷ ns) ++ below) a) (subst (λ (x : List Pattern). Walks set ((ids fs) ++ id ∷ []) x ns) b v)
    by_walk qs ms below q (passed_over g v) l e = cc
    by_walk qs ms below q (followed a b c d v) l e = cc

    by : Top set [] fs id (Match m ∷ ps) w.rest → IsWalk set root seen (fs ++ (id, ps) ∷ []) (out ++ m ∷ [])
    by t = by_walk (Match m ∷ ps) t.ms t.below refl t.walk t.is_left t.joins

-- ---- includes ----

tested : (n : ℕ) → (n == 0) ≡ true → n ≡ 0
tested n h = grind (arith, nat_tests)

no_entries : (ps : List Pattern) → (length ps == 0) ≡ true → ps ≡ []
no_entries [] h = refl
no_entries (p ∷ ps) h = let k : length (p ∷ ps) ≡ 0 = tested (length (p ∷ ps)) h in cc

entering_none : (set : SyntaxSet) (seen : List ContextId) (o : Option ContextId) → entering set seen o ≡ None → IsKnown set seen o
entering_none set seen None h = tt
entering_none set seen (Some id) h = λ e. by (length (entries set id) == 0) refl (is_in id seen) e h
  where
    by : (a : Bool) → (length (entries set id) == 0) ≡ a → (b : Bool) → b ≡ false → (if a || b then None else Some id) ≡ None → entries set id ≡ []
    by true e b f k = no_entries (entries set id) e
    by false e true f k = cc
    by false e false f k = cc

-- what an include enters has entries and was not entered before
pub record Enters (set : SyntaxSet) (seen : List ContextId) (o : Option ContextId) (t : ContextId) : Type 0 where
  pub is_target : o ≡ Some t
  pub is_new : is_in t seen ≡ false
  pub context : Context
  pub held : context_at set t ≡ Some context

enters : (set : SyntaxSet) (seen : List ContextId) (o : Option ContextId) (t : ContextId) → entering set seen o ≡ Some t → Enters set seen o t
enters set seen None t h = cc
enters set seen (Some id) t h = by (length (entries set id) == 0) refl (is_in id seen) refl h
  where
    by_context : id ≡ t → is_in id seen ≡ false → (o : Option Context) → context_at set id ≡ o → (length (entries set id) == 0) ≡ false → Enters set seen (Some id) t
    by_context e f None k n = let m : true ≡ false = (rw k at n) in cc
    by_context e f (Some c) k n = record {
      is_target = ap Some e;
      is_new = sym (ap (λ (x : ContextId). is_in x seen) e) ∙ f;
      context = c;
      held = sym (ap (context_at set) e) ∙ k;
    }

    by : (a : Bool) → (length (entries set id) == 0) ≡ a → (b : Bool) → is_in id seen ≡ b → (if a || b then None else Some id) ≡ Some t → Enters set seen (Some id) t
    by true e b f k = cc
    by false e true f k = cc
    by false e false f k = let i : id ≡ t = cc in by_context i f (context_at set id) refl e

pub walk_passes : (set : SyntaxSet) (root : ContextId) (seen : List ContextId) (fs : List Visit) (id : ContextId) (r : ContextReference) (ps : List Pattern) (out : List MatchPattern)
    → entering set seen (target r) ≡ None → IsWalk set root seen (fs ++ (id, Include r ∷ ps) ∷ []) out → IsWalk set root seen (fs ++ (id, ps) ∷ []) out
walk_passes set root seen fs id r ps out none w = by (top_of set [] fs id (Include r ∷ ps) w.rest w.is_left)
  where
    same_ids : ids (fs ++ (id, ps) ∷ []) ≡ ids (fs ++ (id, Include r ∷ ps) ∷ [])
    same_ids = ids_top fs id ps ∙ sym (ids_top fs id (Include r ∷ ps))

    known : IsKnown set seen (target r)
    known = entering_none set seen (target r) none

    through_path : (test : MatchPattern → Bool) → find test out ≡ None → LeavesThrough set test seen ((ids fs) ++ id ∷ [])
    through_path test n = λ x s k. w.through test n x s (ap (is_in x) (ids_top fs id (Include r ∷ ps)) ∙ k)

    with_rest : (inner rest below : List MatchPattern) → IsLeft set [] fs below → w.rest ≡ (inner ++ rest) ++ below → Walks set ((ids fs) ++ id ∷ []) ps rest
        → ((test : MatchPattern → Bool) → find test out ≡ None → find test inner ≡ None) → IsWalk set root seen (fs ++ (id, ps) ∷ []) out
    with_rest inner rest below l e v h = record {
      rest = rest ++ below;
      is_left = with_top set [] fs id ps rest below v l;
      same = λ test. found_past test out (rest ++ below) w.rest (λ n. sym (ap (find test) (e ∙ append_assoc inner rest below) ∙ none_first test inner (rest ++ below) (h test n))) ∙ w.same test;
      few = omega (arith, w.few, ap length e, length-append (inner ++ rest) below, length-append inner rest, length-append rest below);
      through = λ test n x s k. w.through test n x s (sym (ap (is_in x) same_ids) ∙ k);
      passed = λ test n. goes_on set test seen fs id (Include r) ps (known, tt) (w.passed test n);
      entered = λ x k. w.entered x (sym (ap (is_in x) same_ids) ∙ k);
    }

    by_walk : (qs : List Pattern) (ms below : List MatchPattern) → qs ≡ Include r ∷ ps → Walks set ((ids fs) ++ id ∷ []) qs ms → IsLeft set [] fs below → w.rest ≡ ms ++ below
        → IsWalk set root seen (fs ++ (id, ps) ∷ []) out
    by_walk qs ms below q ended l e = cc
    by_walk qs ms below q (own v) l e = cc
    by_walk qs ms below q (passed_over {r = s} {ps = rs} {ms = ns} g v) l e =
        let b : rs ≡ ps = cc in
        with_rest [] ns below l e (subst (λ (x : List Pattern). Walks set ((ids fs) ++ id ∷ []) x ns) b v) (λ test n. refl)
    by_walk qs ms below q (followed {r = s} {id = t} {c = c} {ps = rs} {inner = inner} {ms = ns} a f k u v) l e =
        let b : rs ≡ ps = cc in
        let d : s ≡ r = cc in
        let es : entries set t ≡ c.patterns = rw k refl in
        let o : target r ≡ Some t = sym (ap target d) ∙ a in
        with_rest inner ns below l e (subst (λ (x : List Pattern). Walks set ((ids fs) ++ id ∷ []) x ns) b v)
        (λ test n. nothing_new set test seen (((ids fs) ++ id ∷ []) ++ t ∷ []) c.patterns inner u
        (λ x s k. through_path test n x s (out_left x ((ids fs) ++ id ∷ []) (t ∷ []) k))
        (subst (AreThrough set test seen) es (through_target test n t o f (is_in t seen) refl)))
      where
        through_target : (test : MatchPattern → Bool) → find test out ≡ None → (t : ContextId) → target r ≡ Some t → is_in t ((ids fs) ++ id ∷ []) ≡ false → (b : Bool) → is_in t seen ≡ b → AreThrough set test seen (entries set t)
        through_target test n t o f true s = through_path test n t s f
        through_target test n t o f false s =
            let here : IsKnown set seen (Some t) = subst (IsKnown set seen) o known in
            subst (AreThrough set test seen) (sym (here s)) tt

    by : Top set [] fs id (Include r ∷ ps) w.rest → IsWalk set root seen (fs ++ (id, ps) ∷ []) out
    by t = by_walk (Include r ∷ ps) t.ms t.below refl t.walk t.is_left t.joins

pub walk_enters : (set : SyntaxSet) (root : ContextId) (seen : List ContextId) (fs : List Visit) (id : ContextId) (r : ContextReference) (ps : List Pattern) (out : List MatchPattern) (t : ContextId)
    → entering set seen (target r) ≡ Some t → IsWalk set root seen (fs ++ (id, Include r ∷ ps) ∷ []) out
    → IsWalk set root (seen ++ t ∷ []) ((fs ++ (id, ps) ∷ []) ++ frame_of set t ∷ []) out
walk_enters set root seen fs id r ps out t some w = by (top_of set [] fs id (Include r ∷ ps) w.rest w.is_left)
  where
    new : Enters set seen (target r) t
    new = enters set seen (target r) t some

    old_ids : ids (fs ++ (id, Include r ∷ ps) ∷ []) ≡ (ids fs) ++ id ∷ []
    old_ids = ids_top fs id (Include r ∷ ps)

    new_ids : ids ((fs ++ (id, ps) ∷ []) ++ frame_of set t ∷ []) ≡ ((ids fs) ++ id ∷ []) ++ t ∷ []
    new_ids = ids_top (fs ++ (id, ps) ∷ []) t (entries set t) ∙ ap (λ (l : List ContextId). l ++ t ∷ []) (ids_top fs id ps)

    off_path : is_in t ((ids fs) ++ id ∷ []) ≡ false
    off_path = off (is_in t ((ids fs) ++ id ∷ [])) refl
      where
        off : (b : Bool) → is_in t ((ids fs) ++ id ∷ []) ≡ b → b ≡ false
        off true e = let k : true ≡ false = sym (w.entered t (ap (is_in t) old_ids ∙ e)) ∙ new.is_new in cc
        off false e = refl

    through : (test : MatchPattern → Bool) → find test out ≡ None → LeavesThrough set test (seen ++ t ∷ []) (ids ((fs ++ (id, ps) ∷ []) ++ frame_of set t ∷ []))
    through test n = λ x s k.
        let off : is_in x (((ids fs) ++ id ∷ []) ++ t ∷ []) ≡ false = sym (ap (is_in x) new_ids) ∙ k in
        let off_t : is_in x (t ∷ []) ≡ false = out_right x ((ids fs) ++ id ∷ []) (t ∷ []) off in
        let old : is_in x seen ≡ true = one_of (is_in x seen) (is_in x (t ∷ [])) (sym (any_append (is_same x) seen (t ∷ [])) ∙ s) (λ h. h) (λ h. let z : true ≡ false = sym h ∙ off_t in cc) in
        through_more set test seen t (entries set x) (w.through test n x old (ap (is_in x) old_ids ∙ out_left x ((ids fs) ++ id ∷ []) (t ∷ []) off))

    known : IsKnown set (seen ++ t ∷ []) (target r)
    known = subst (IsKnown set (seen ++ t ∷ [])) (sym new.is_target) (λ e. let z : true ≡ false = sym (in_right t seen (t ∷ []) (one_is t)) ∙ e in cc)

    with_rest : (inner rest below : List MatchPattern) → IsLeft set [] fs below → w.rest ≡ (inner ++ rest) ++ below → Walks set ((ids fs) ++ id ∷ []) ps rest
        → Walks set (((ids fs) ++ id ∷ []) ++ t ∷ []) (entries set t) inner → IsWalk set root (seen ++ t ∷ []) ((fs ++ (id, ps) ∷ []) ++ frame_of set t ∷ []) out
    with_rest inner rest below l e v u = record {
      rest = inner ++ (rest ++ below);
      is_left = with_top set [] (fs ++ (id, ps) ∷ []) t (entries set t) inner (rest ++ below) (subst (λ (q : List ContextId). Walks set (q ++ t ∷ []) (entries set t) inner) (sym (ids_top fs id ps)) u) (with_top set [] fs id ps rest below v l);
      same = λ test. ap (λ (x : List MatchPattern). find test (out ++ x)) (sym (e ∙ append_assoc inner rest below)) ∙ w.same test;
      few = omega (arith, w.few, ap length e, ap length (append_assoc inner rest below));
      through = through;
      passed = λ test n. passed_join set test (seen ++ t ∷ []) (fs ++ (id, ps) ∷ []) (frame_of set t)
          (goes_on set test (seen ++ t ∷ []) fs id (Include r) ps (known, tt) (passed_more set test seen t (fs ++ (id, Include r ∷ ps) ∷ []) (w.passed test n)))
          ([], refl, tt);
      entered = λ x h. one_of (is_in x ((ids fs) ++ id ∷ [])) (is_in x (t ∷ [])) (sym (any_append (is_same x) ((ids fs) ++ id ∷ []) (t ∷ [])) ∙ sym (ap (is_in x) new_ids) ∙ h)
          (λ k. in_left x seen (t ∷ []) (w.entered x (ap (is_in x) old_ids ∙ k))) (λ k. in_right x seen (t ∷ []) k);
    }

    by_walk : (qs : List Pattern) (ms below : List MatchPattern) → qs ≡ Include r ∷ ps → Walks set ((ids fs) ++ id ∷ []) qs ms → IsLeft set [] fs below → w.rest ≡ ms ++ below
        → IsWalk set root (seen ++ t ∷ []) ((fs ++ (id, ps) ∷ []) ++ frame_of set t ∷ []) out
    by_walk qs ms below q ended l e = cc
    by_walk qs ms below q (own v) l e = cc
    by_walk qs ms below q (passed_over {r = s} {ps = rs} {ms = ns} (unresolved a) v) l e =
        let d : s ≡ r = cc in
        let z : None ≡ Some t = sym a ∙ ap target d ∙ new.is_target in
        cc
    by_walk qs ms below q (passed_over {r = s} {ps = rs} {ms = ns} (lacking {id = x} a k) v) l e =
        let d : s ≡ r = cc in
        let y : Some x ≡ Some t = sym a ∙ ap target d ∙ new.is_target in
        let i : x ≡ t = cc in
        let z : None ≡ Some new.context = sym k ∙ ap (context_at set) i ∙ new.held in
        cc
    by_walk qs ms below q (passed_over {r = s} {ps = rs} {ms = ns} (around {id = x} a k) v) l e =
        let d : s ≡ r = cc in
        let y : Some x ≡ Some t = sym a ∙ ap target d ∙ new.is_target in
        let i : x ≡ t = cc in
        let z : true ≡ false = sym k ∙ ap (λ (c : ContextId). is_in c ((ids fs) ++ id ∷ [])) i ∙ off_path in
        cc
    by_walk qs ms below q (followed {r = s} {id = x} {c = c} {ps = rs} {inner = inner} {ms = ns} a f k u v) l e =
        let b : rs ≡ ps = cc in
        let d : s ≡ r = cc in
        let y : Some x ≡ Some t = sym a ∙ ap target d ∙ new.is_target in
        let i : x ≡ t = cc in
        let es : c.patterns ≡ entries set t = sym (rw k refl) ∙ ap (entries set) i in
        with_rest inner ns below l e (subst (λ (z : List Pattern). Walks set ((ids fs) ++ id ∷ []) z ns) b v)
        (subst (λ (z : List Pattern). Walks set (((ids fs) ++ id ∷ []) ++ t ∷ []) z inner) es (subst (λ (z : ContextId). Walks set (((ids fs) ++ id ∷ []) ++ z ∷ []) c.patterns inner) i u))

    by : Top set [] fs id (Include r ∷ ps) w.rest → IsWalk set root (seen ++ t ∷ []) ((fs ++ (id, ps) ∷ []) ++ frame_of set t ∷ []) out
    by u = by_walk (Include r ∷ ps) u.ms u.below refl u.walk u.is_left u.joins

-- a walk gives no more than the context's walk
pub walk_gives : (set : SyntaxSet) (root : ContextId) (seen : List ContextId) (fs : List Visit) (out : List MatchPattern) → IsWalk set root seen fs out → length out ≤ length (patterns_of set root)
walk_gives set root seen fs out w = omega (arith, w.few)

pub walk_ends : (set : SyntaxSet) (root : ContextId) (seen : List ContextId) (out : List MatchPattern) → IsWalk set root seen [] out → FindsSame out (patterns_of set root)
walk_ends set root seen out w = λ test. ap (find test) (sym (ap (λ (l : List MatchPattern). out ++ l) w.is_left ∙ append-nil out)) ∙ w.same test

-- ---- how much is left to do ----

abbrev pub of_new : Bool → ℕ → ℕ
of_new true n = 0
of_new false n = suc n

-- the entries of the contexts that weren't entered, one more for each
abbrev pub weight : SyntaxSet → List ContextId → List ContextId → ℕ
weight set seen [] = 0
weight set seen (x ∷ xs) = of_new (is_in x seen) (length (entries set x)) + weight set seen xs

-- the entries that are left, one more for each context that is walked
abbrev pub pending : List Visit → ℕ
pending [] = 0
pending (f ∷ fs) = suc (length f.1) + pending fs

abbrev pub work : SyntaxSet → List ContextId → List Visit → ℕ
work set seen fs = weight set seen (numbers_from 0 (contexts_of set)) + pending fs

pub pending_top : (fs : List Visit) (id : ContextId) (ps : List Pattern) → pending (fs ++ (id, ps) ∷ []) ≡ pending fs + suc (length ps)
pending_top [] id ps = omega arith
pending_top (f ∷ fs) id ps = omega (arith, pending_top fs id ps)

new_less : (a b c : Bool) (n : ℕ) → c ≡ (a || b) → of_new c n ≤ of_new a n
new_less true b c n e = rw e (omega arith)
new_less false true c n e = rw e (omega arith)
new_less false false c n e = rw e (omega arith)

weight_le : (set : SyntaxSet) (seen : List ContextId) (t : ContextId) (xs : List ContextId) → weight set (seen ++ t ∷ []) xs ≤ weight set seen xs
weight_le set seen t [] = omega arith
weight_le set seen t (x ∷ xs) =
    omega (arith, new_less (is_in x seen) (is_in x (t ∷ [])) (is_in x (seen ++ t ∷ [])) (length (entries set x)) (any_append (is_same x) seen (t ∷ [])), weight_le set seen t xs)

weight_less : (set : SyntaxSet) (seen : List ContextId) (t : ContextId) (xs : List ContextId) → is_in t seen ≡ false → is_in t xs ≡ true
    → weight set (seen ++ t ∷ []) xs + suc (length (entries set t)) ≤ weight set seen xs
weight_less set seen t [] f e = cc
weight_less set seen t (x ∷ xs) f e = by (λ h. weight_less set seen t xs f h) (is_same t x) refl e
  where
    was_new : t ≡ x → is_in x seen ≡ false
    was_new k = sym (ap (λ (y : ContextId). is_in y seen) k) ∙ f

    is_taken : t ≡ x → is_in x (seen ++ t ∷ []) ≡ true
    is_taken k = in_right x seen (t ∷ []) (ap (λ (y : ContextId). is_in x (y ∷ [])) k ∙ one_is x)

    by : (is_in t xs ≡ true → weight set (seen ++ t ∷ []) xs + suc (length (entries set t)) ≤ weight set seen xs) → (b : Bool) → is_same t x ≡ b → (b || is_in t xs) ≡ true
        → of_new (is_in x (seen ++ t ∷ [])) (length (entries set x)) + weight set (seen ++ t ∷ []) xs + suc (length (entries set t)) ≤ of_new (is_in x seen) (length (entries set x)) + weight set seen xs
    by later true m _ =
        let k : t ≡ x = same_id t x m in
        let a : of_new (is_in x (seen ++ t ∷ [])) (length (entries set x)) ≡ 0 = ap (λ (b : Bool). of_new b (length (entries set x))) (is_taken k) in
        let c : of_new (is_in x seen) (length (entries set x)) ≡ suc (length (entries set x)) = ap (λ (b : Bool). of_new b (length (entries set x))) (was_new k) in
        let n : length (entries set t) ≡ length (entries set x) = ap (λ (y : ContextId). length (entries set y)) k in
        omega (arith, a, c, n, weight_le set seen t xs)
    by later false m h =
        omega (arith, new_less (is_in x seen) (is_in x (t ∷ [])) (is_in x (seen ++ t ∷ [])) (length (entries set x)) (any_append (is_same x) seen (t ∷ [])), later h)

-- ---- each turn of the walk leaves less to do ----

pub work_pops : (set : SyntaxSet) (seen : List ContextId) (fs : List Visit) (id : ContextId) (ps : List Pattern) → work set seen fs < work set seen (fs ++ (id, ps) ∷ [])
work_pops set seen fs id ps = omega (arith, pending_top fs id ps)

pub work_passes : (set : SyntaxSet) (seen : List ContextId) (fs : List Visit) (id : ContextId) (p : Pattern) (ps : List Pattern)
    → work set seen (fs ++ (id, ps) ∷ []) < work set seen (fs ++ (id, p ∷ ps) ∷ [])
work_passes set seen fs id p ps = omega (arith, pending_top fs id ps, pending_top fs id (p ∷ ps))

pub work_enters : (set : SyntaxSet) (seen : List ContextId) (fs : List Visit) (id : ContextId) (r : ContextReference) (ps : List Pattern) (t : ContextId)
    → entering set seen (target r) ≡ Some t → work set (seen ++ t ∷ []) ((fs ++ (id, ps) ∷ []) ++ frame_of set t ∷ []) < work set seen (fs ++ (id, Include r ∷ ps) ∷ [])
work_enters set seen fs id r ps t some =
    let e : Enters set seen (target r) t = enters set seen (target r) t some in
    let l = weight_less set seen t (numbers_from 0 (contexts_of set)) e.is_new (listed set t e.context e.held) in
    omega (arith, l, pending_top (fs ++ (id, ps) ∷ []) t (entries set t), pending_top fs id ps, pending_top fs id (Include r ∷ ps))
