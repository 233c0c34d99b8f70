-- An include path has no context twice, so there is always room.
use Rattle.std.proofs.Common.{◌≡◌, ℕ, zero, suc, ◌+◌, ◌≤◌, ◌<◌, Bool, true, false, not, ◌&&◌, ◌||◌, List, [], ◌∷◌, ◌++◌, length, Option, Some, None, refl, ap, sym, ◌∙◌, arith, if◌then◌else◌}
use Rattle.std.specs.List.{list_any}
use Rattle.syntect_grammar.specs.syntect_grammar_contexts.Contexts.{is_same, target}
use Rattle.syntect_grammar.specs.Contexts.{context_at, contexts_of}
use Rattle.syntect_grammar.specs.Patterns.{RoomIsNotFeltAt, entries, included, walk_patterns, walk, room_in, GivesNothing, unresolved, lacking, around, Walks, ended, own, passed_over, followed}
use Rattle.syntect_grammar.specs.Patterns.{RoomIsNotFelt}
use Rattle.syntect_grammar.specs.syntect_grammar_contexts.declared.context.ContextId.{ContextId}
use Rattle.syntect_grammar.specs.syntect_grammar_contexts.declared.context.ContextReference.{ContextReference}
use Rattle.syntect_grammar.specs.syntect_grammar_contexts.declared.context.MatchPattern.{MatchPattern}
use Rattle.syntect_grammar.specs.syntect_grammar_contexts.declared.context.Pattern.{Pattern}
use Rattle.syntect_grammar.specs.syntect_grammar_contexts.declared.context.Pattern.TheVariants.{Match, Include}
use Rattle.syntect_grammar.specs.syntect_grammar_contexts.declared.context.Context.{Context}
use Rattle.syntect_grammar_linker.proofs.Numbers.{number, numbers_from, length_from, any_append, is_same_self, same_id, listed_from}
use Rattle.syntect_grammar.specs.declared.syntax_set.SyntaxSet.{SyntaxSet}

pub listed : (set : SyntaxSet) (id : ContextId) (c : Context) → context_at set id ≡ Some c → list_any (is_same id) (numbers_from 0 (contexts_of set)) ≡ true
listed set id c e =
    let z : 0 + id.syntax_index ≡ id.syntax_index = omega arith in
    let h : list_any (is_same (number (0 + id.syntax_index) id.context_index)) (numbers_from 0 (contexts_of set)) ≡ true = listed_from 0 id.syntax_index id.context_index (contexts_of set) c e in
    rw z at h

-- ---- the contexts that aren't on a path ----

abbrev pub is_free : List ContextId → ContextId → Bool
is_free path id = not (list_any (is_same id) path)

free_more : (path : List ContextId) (id x : ContextId) → is_free (path ++ id ∷ []) x ≡ (is_free path x && not (is_same x id))
free_more path id x = rw (any_append (is_same x) path (id ∷ [])) (by (list_any (is_same x) path) (is_same x id))
  where
    by : (a b : Bool) → not (a || (b || false)) ≡ (not a && not b)
    by true b = refl
    by false true = refl
    by false false = refl

abbrev pub one : Bool → ℕ
one true = 1
one false = 0

-- how many pass a test
abbrev pub count : (ContextId → Bool) → List ContextId → ℕ
count p [] = 0
count p (x ∷ xs) = one (p x) + count p xs

one_le : (b : Bool) → one b ≤ 1
one_le true = omega arith
one_le false = omega arith

pub count_le_length : (p : ContextId → Bool) (xs : List ContextId) → count p xs ≤ length xs
count_le_length p [] = omega arith
count_le_length p (x ∷ xs) = omega (arith, one_le (p x), count_le_length p xs)

one_fewer : (a b c : Bool) → c ≡ (a && b) → one c ≤ one a
one_fewer true b c e = one_le c
one_fewer false b c e = rw e (omega arith)

pub count_fewer : (path : List ContextId) (id : ContextId) (xs : List ContextId) → count (is_free (path ++ id ∷ [])) xs ≤ count (is_free path) xs
count_fewer path id [] = omega arith
count_fewer path id (x ∷ xs) =
    omega (arith, one_fewer (is_free path x) (not (is_same x id)) (is_free (path ++ id ∷ []) x) (free_more path id x), count_fewer path id xs)

taken : (path : List ContextId) (id x : ContextId) → id ≡ x → is_free (path ++ id ∷ []) x ≡ false
taken path id x e =
    let m : is_same x id ≡ true = rw e (is_same_self x) in
    free_more path id x ∙ rw m (by (is_free path x))
  where
    by : (a : Bool) → (a && not true) ≡ false
    by true = refl
    by false = refl

pub count_less : (path : List ContextId) (id : ContextId) (xs : List ContextId) → is_free path id ≡ true → list_any (is_same id) xs ≡ true
    → count (is_free (path ++ id ∷ [])) xs < count (is_free path) xs
count_less path id [] f e = cc
count_less path id (x ∷ xs) f e = by (λ h. count_less path id xs f h) (is_same id x) refl e
  where
    by : (list_any (is_same id) xs ≡ true → count (is_free (path ++ id ∷ [])) xs < count (is_free path) xs) → (b : Bool) → is_same id x ≡ b → (b || list_any (is_same id) xs) ≡ true → count (is_free (path ++ id ∷ [])) (x ∷ xs) < count (is_free path) (x ∷ xs)
    by later true m _ =
        let k : id ≡ x = same_id id x m in
        let here : is_free path x ≡ true = ap (λ (y : ContextId). is_free path y) (sym k) ∙ f in
        omega (arith, ap one here, ap one (taken path id x k), count_fewer path id xs)
    by later false m h =
        omega (arith, one_fewer (is_free path x) (not (is_same x id)) (is_free (path ++ id ∷ []) x) (free_more path id x), later h)

-- ---- walks ----

-- what a walk makes of an include
included_walks : (set : SyntaxSet) (path : List ContextId) (r : ContextReference) (ps : List Pattern) (ms : List MatchPattern) (inner : ContextId → List MatchPattern)
    → ((id : ContextId) (c : Context) → is_free path id ≡ true → context_at set id ≡ Some c → Walks set (path ++ id ∷ []) c.patterns (inner id))
    → ((id : ContextId) → context_at set id ≡ None → inner id ≡ []) → Walks set path ps ms → Walks set path (Include r ∷ ps) (included inner path (target r) ++ ms)
included_walks set path r ps ms inner h n w = by (target r) refl
  where
    by_held : (id : ContextId) → target r ≡ Some id → list_any (is_same id) path ≡ false → (o : Option Context) → context_at set id ≡ o → Walks set path (Include r ∷ ps) (inner id ++ ms)
    by_held id e f None k = rw (n id k) (passed_over (lacking e k) w)
    by_held id e f (Some c) k = followed e f k (h id c (ap not f) k) w

    by_path : (id : ContextId) → target r ≡ Some id → (b : Bool) → list_any (is_same id) path ≡ b → Walks set path (Include r ∷ ps) ((if b then [] else inner id) ++ ms)
    by_path id e true f = passed_over (around e f) w
    by_path id e false f = by_held id e f (context_at set id) refl

    by : (o : Option ContextId) → target r ≡ o → Walks set path (Include r ∷ ps) (included inner path o ++ ms)
    by None e = passed_over (unresolved e) w
    by (Some id) e = by_path id e (list_any (is_same id) path) refl

patterns_walk : (set : SyntaxSet) (path : List ContextId) (inner : ContextId → List MatchPattern)
    → ((id : ContextId) (c : Context) → is_free path id ≡ true → context_at set id ≡ Some c → Walks set (path ++ id ∷ []) c.patterns (inner id))
    → ((id : ContextId) → context_at set id ≡ None → inner id ≡ []) → (ps : List Pattern) → Walks set path ps (walk_patterns inner path ps)
patterns_walk set path inner h n [] = ended
patterns_walk set path inner h n (Match m ∷ ps) = own (patterns_walk set path inner h n ps)
patterns_walk set path inner h n (Include r ∷ ps) = included_walks set path r ps (walk_patterns inner path ps) inner h n (patterns_walk set path inner h n ps)

pub walk_nothing : (room : ℕ) (set : SyntaxSet) (path : List ContextId) → walk room set path [] ≡ []
walk_nothing zero set path = refl
walk_nothing (suc room) set path = refl

none_held : (room : ℕ) (set : SyntaxSet) (path : List ContextId) (id : ContextId) → context_at set id ≡ None → walk room set path (entries set id) ≡ []
none_held room set path id e = rw e (walk_nothing room set path)

pub walks : (room : ℕ) (set : SyntaxSet) (path : List ContextId) → count (is_free path) (numbers_from 0 (contexts_of set)) < room → (ps : List Pattern) → Walks set path ps (walk room set path ps)
walks zero set path l ps = absurd (omega arith)
walks (suc room) set path l ps =
    patterns_walk set path (λ id. walk room set (path ++ id ∷ []) (entries set id)) (inner (λ id k. walks room set (path ++ id ∷ []) k)) (λ id e. none_held room set (path ++ id ∷ []) id e) ps
  where
    inner : ((id : ContextId) → count (is_free (path ++ id ∷ [])) (numbers_from 0 (contexts_of set)) < room → (qs : List Pattern) → Walks set (path ++ id ∷ []) qs (walk room set (path ++ id ∷ []) qs))
        → (id : ContextId) (c : Context) → is_free path id ≡ true → context_at set id ≡ Some c → Walks set (path ++ id ∷ []) c.patterns (walk room set (path ++ id ∷ []) (entries set id))
    inner below id c f e =
        let less : count (is_free (path ++ id ∷ [])) (numbers_from 0 (contexts_of set)) < count (is_free path) (numbers_from 0 (contexts_of set)) = count_less path id (numbers_from 0 (contexts_of set)) f (listed set id c e) in
        rw e (below id (omega arith) c.patterns)

-- an include that gives nothing
nothing_included : (room : ℕ) (set : SyntaxSet) (path : List ContextId) (r : ContextReference) → GivesNothing set path r
    → included (λ id. walk room set (path ++ id ∷ []) (entries set id)) path (target r) ≡ []
nothing_included room set path r (unresolved e) = rw e refl
nothing_included room set path r (lacking {id = id} e k) = rw e (by (list_any (is_same id) path))
  where
    by : (b : Bool) → (if b then [] else walk room set (path ++ id ∷ []) (entries set id)) ≡ []
    by true = refl
    by false = none_held room set (path ++ id ∷ []) id k
nothing_included room set path r (around e k) = rw (e, k) refl

pub walked : (set : SyntaxSet) (path : List ContextId) (ps : List Pattern) (ms : List MatchPattern) → Walks set path ps ms
    → (room : ℕ) → count (is_free path) (numbers_from 0 (contexts_of set)) < room → ms ≡ walk room set path ps
walked set path ps ms w zero l = absurd (omega arith)
walked set path ps ms ended (suc room) l = refl
walked set path ps ms (own {m = m} {ps = qs} {ms = ns} w) (suc room) l = ap (λ (x : List MatchPattern). m ∷ x) (walked set path qs ns w (suc room) l)
walked set path ps ms (passed_over {r = r} {ps = qs} {ms = ns} g w) (suc room) l = rw (nothing_included room set path r g) (walked set path qs ns w (suc room) l)
walked set path ps ms (followed {r = r} {id = id} {c = c} {ps = qs} {inner = inner} {ms = ns} e f k v w) (suc room) l =
    let less : count (is_free (path ++ id ∷ [])) (numbers_from 0 (contexts_of set)) < count (is_free path) (numbers_from 0 (contexts_of set)) = count_less path id (numbers_from 0 (contexts_of set)) (ap not f) (listed set id c k) in
    let a : inner ≡ walk room set (path ++ id ∷ []) c.patterns = walked set (path ++ id ∷ []) c.patterns inner v room (omega arith) in
    let b : ns ≡ walk (suc room) set path qs = walked set path qs ns w (suc room) l in
    rw (e, f, k) (ap (λ (x : List MatchPattern). x ++ ns) a ∙ ap (λ (x : List MatchPattern). walk room set (path ++ id ∷ []) c.patterns ++ x) b)

pub room_is_not_felt : RoomIsNotFelt
room_is_not_felt set ps =
    let l : count (is_free []) (numbers_from 0 (contexts_of set)) < room_in set = omega (arith, count_le_length (is_free []) (numbers_from 0 (contexts_of set)), length_from 0 (contexts_of set)) in
    (walks (room_in set) set [] l ps, λ ms w. walked set [] ps ms w (room_in set) l)

pub room_is_not_felt_at : RoomIsNotFeltAt
room_is_not_felt_at set id =
    let l : count (is_free (id ∷ [])) (numbers_from 0 (contexts_of set)) < room_in set = omega (arith, count_le_length (is_free (id ∷ [])) (numbers_from 0 (contexts_of set)), length_from 0 (contexts_of set)) in
    (walks (room_in set) set (id ∷ []) l (entries set id), λ ms w. walked set (id ∷ []) (entries set id) ms w (room_in set) l)
