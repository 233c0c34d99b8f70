-- Each turn that goes on makes fewer to come.
use Rattle.std.proofs.Common.{◌≡◌, ◌≢◌, ℕ, zero, suc, ◌==◌, ◌+◌, ◌-◌, ◌*◌, ◌≤◌, ◌<◌, nat_lt, Bool, true, false, not, ◌&&◌, List, [], ◌∷◌, ◌++◌, length, map, find, Option, Some, None, slice_get, refl, ap, arith, length-append, if◌then◌else◌}
use Rattle.std.proofs.lemmas.List.{length-take}
use Rattle.std.proofs.lemmas.Str.{len_utf8_bounds}
use Rattle.std.specs.Char.{len_utf8}
use Rattle.syntect_parsing.specs.syntect_pattern.Text.{char_at}
use Rattle.std.proofs.lemmas.Bool.Decides.{nat_tests}
use Rattle.std.proofs.Math.Nat.{mul-le-mul_left}
use Rattle.std.specs.List.{filter_map, cons_option, flat_map, list_any}
use Rattle.std.specs.Option.{option_map_or, option_and_then, option_to_list}
use Rattle.syntect_reading_choice.specs.Engine.{Engine}
use Rattle.syntect_parsing.specs.syntect_grammar_contexts.Substitution.{Groups, Opening}
use Rattle.syntect_parsing.specs.syntect_grammar_contexts.Contexts.{is_same, target}
use Rattle.syntect_parsing.specs.syntect_grammar.Contexts.{context_at, contexts_of}
use Rattle.syntect_reading_choice.specs.Chain.{Member, last, entries, included, walk_patterns, walk, room_in, patterns_of, members, chain, in_sight, prototypes_in}
use Rattle.syntect_parsing.specs.Turn.{new_levels, without_last, opened, levels_by, levels_after, idle_by, position_after, trimmed}
use Rattle.syntect_reading_choice.specs.Turn.{Live, Choice, Take, Skip, End, counts, counted, matched, live, live_match, searched_text, group_at, choice_of, winner, is_least, loops, turns_back, char_len, list_of, missing, refusal}
use Rattle.syntect_parsing.specs.Scopes.{Scopes, scopes_passed}
use Rattle.syntect_parsing.specs.Line.{Step, Goes, Ends, Refused, turn, turn_on, turn_in, step, unless_refused}
use Rattle.syntect_parsing.specs.Laws.{longest_in, longest_of, longest}
use Rattle.syntect_reading_choice.proofs.Finds.{FindsInOrder}
use Rattle.syntect_parsing.specs.syntect_grammar_contexts.declared.context.ContextId.{ContextId}
use Rattle.syntect_parsing.specs.syntect_grammar_contexts.declared.context.ContextReference.{ContextReference}
use Rattle.syntect_parsing.specs.syntect_grammar_contexts.declared.context.MatchOperation.{MatchOperation}
use Rattle.syntect_parsing.specs.syntect_grammar_contexts.declared.context.MatchOperation.TheVariants as op
use Rattle.syntect_parsing.specs.syntect_grammar_contexts.declared.context.MatchPattern.{MatchPattern}
use Rattle.syntect_parsing.specs.syntect_grammar_contexts.declared.context.Pattern.{Pattern}
use Rattle.syntect_parsing.specs.syntect_grammar_contexts.declared.context.Pattern.TheVariants.{Match, Include}
use Rattle.syntect_parsing.specs.syntect_grammar_contexts.declared.context.Context.{Context}
use Rattle.syntect_parsing.specs.syntect_grammar.declared.syntax_set.SyntaxSet.{SyntaxSet}
use Rattle.syntect_reading_choice.specs.declared.level.Level.{Level}
use Rattle.syntect_reading_choice.specs.declared.position.Position.{Position}
use Rattle.syntect_parsing.specs.syntect_grammar_contexts.declared.error.ParsingError.{ParsingError}

-- ---- each element of a list ----

data Each {X : Type 0} (P : X → Type 0) : List X → Type 0 where
  no_more : Each P []
  and_more : {x : X} {xs : List X} → P x → Each P xs → Each P (x ∷ xs)

each_append : {X : Type 0} (P : X → Type 0) (xs ys : List X) → Each P xs → Each P ys → Each P (xs ++ ys)
each_append P [] ys no_more s = s
each_append P (x ∷ xs) ys (and_more h r) s = and_more h (each_append P xs ys r s)

each_of_flat : {X Y : Type 0} (P : Y → Type 0) (f : X → List Y) → ((x : X) → Each P (f x)) → (xs : List X) → Each P (flat_map f xs)
each_of_flat P f h [] = no_more
each_of_flat P f h (x ∷ xs) = each_append P (f x) (flat_map f xs) (h x) (each_of_flat P f h xs)

-- ---- the patterns of a set have lists up to its longest ----

abbrev length_of_list : MatchPattern → ℕ
length_of_list m = option_map_or length (list_of m.operation) 0

abbrev IsUpTo : ℕ → MatchPattern → Type 0
IsUpTo r m = length_of_list m ≤ r

included_up_to : (r : ℕ) (inner : ContextId → List MatchPattern) (path : List ContextId) → ((id : ContextId) → Each (IsUpTo r) (inner id)) → (o : Option ContextId) → Each (IsUpTo r) (included inner path o)
included_up_to r inner path h None = no_more
included_up_to r inner path h (Some id) = by (list_any (λ x. is_same id x) path)
  where
    by : (b : Bool) → Each (IsUpTo r) (if b then [] else inner id)
    by true = no_more
    by false = h id

patterns_up_to : (r : ℕ) (inner : ContextId → List MatchPattern) (path : List ContextId) → ((id : ContextId) → Each (IsUpTo r) (inner id)) → (ps : List Pattern) → longest_in ps ≤ r → Each (IsUpTo r) (walk_patterns inner path ps)
patterns_up_to r inner path h [] l = no_more
patterns_up_to r inner path h (Match m ∷ ps) l = and_more (let k : IsUpTo r m = omega arith in k) (patterns_up_to r inner path h ps (omega arith))
patterns_up_to r inner path h (Include q ∷ ps) l =
    each_append (IsUpTo r) (included inner path (target q)) (walk_patterns inner path ps) (included_up_to r inner path h (target q)) (patterns_up_to r inner path h ps l)

in_row : (cs : List Context) (n : ℕ) (c : Context) → slice_get cs n ≡ Some c → longest_in c.patterns ≤ longest_of cs
in_row [] n c e = cc
in_row (d ∷ cs) zero c e = let k : d ≡ c = cc in rw (← k) (omega arith)
in_row (d ∷ cs) (suc n) c e = omega (arith, in_row cs n c e)

least_of : (cs : List Context) → 1 ≤ longest_of cs
least_of [] = omega arith
least_of (c ∷ cs) = omega (arith, least_of cs)

-- the longest list counts as one at least
least : (css : List (List Context)) → 1 ≤ longest css
least [] = omega arith
least (cs ∷ css) = omega (arith, least css)

in_rows : (css : List (List Context)) (k n : ℕ) (c : Context) → option_and_then (λ (cs : List Context). slice_get cs n) (slice_get css k) ≡ Some c → longest_in c.patterns ≤ longest css
in_rows [] k n c e = cc
in_rows (cs ∷ css) zero n c e = omega (arith, in_row cs n c e)
in_rows (cs ∷ css) (suc k) n c e = omega (arith, in_rows css k n c e)

entries_up_to : (set : SyntaxSet) (id : ContextId) → longest_in (entries set id) ≤ longest (contexts_of set)
entries_up_to set id = by (context_at set id) refl
  where
    by : (o : Option Context) → context_at set id ≡ o → longest_in (option_map_or (λ (c : Context). c.patterns) o []) ≤ longest (contexts_of set)
    by None e = least (contexts_of set)
    by (Some c) e = in_rows (contexts_of set) id.syntax_index id.context_index c e

walk_up_to : (set : SyntaxSet) (room : ℕ) (path : List ContextId) (ps : List Pattern) → longest_in ps ≤ longest (contexts_of set) → Each (IsUpTo (longest (contexts_of set))) (walk room set path ps)
walk_up_to set zero path ps l = no_more
walk_up_to set (suc room) path ps l =
    patterns_up_to (longest (contexts_of set)) (λ id. walk room set (path ++ id ∷ []) (entries set id)) path (λ id. walk_up_to set room (path ++ id ∷ []) (entries set id) (entries_up_to set id)) ps l

abbrev IsMemberUpTo : ℕ → Member → Type 0
IsMemberUpTo r m = IsUpTo r m.pattern

of_patterns : (r : ℕ) (from : Bool) (opening : Option Opening) (ms : List MatchPattern) → Each (IsUpTo r) ms
    → Each (IsMemberUpTo r) (map (λ (m : MatchPattern). let x : Member = record { pattern = m; opening = opening; from_with_prototype = from } in x) ms)
of_patterns r from opening [] no_more = no_more
of_patterns r from opening (m ∷ ms) (and_more h k) = and_more h (of_patterns r from opening ms k)

members_up_to : (set : SyntaxSet) (from : Bool) (opening : Option Opening) (id : ContextId) → Each (IsMemberUpTo (longest (contexts_of set))) (members set from opening id)
members_up_to set from opening id = of_patterns (longest (contexts_of set)) from opening (patterns_of set id) (walk_up_to set (room_in set) (id ∷ []) (entries set id) (entries_up_to set id))

chain_up_to : (set : SyntaxSet) (p : Position) (top : Level) (c : Context) → Each (IsMemberUpTo (longest (contexts_of set))) (chain set p top c)
chain_up_to set p top c =
    let P : Member → Type 0 = IsMemberUpTo (longest (contexts_of set)) in
    let a : List Member = flat_map (λ (l : Level). flat_map (members set true l.opening) l.prototypes) (in_sight p) in
    let b : List Member = flat_map (members set false None) (option_to_list c.prototype) in
    each_append P (a ++ b) (members set false top.opening top.context)
    (each_append P a b
    (each_of_flat P (λ (l : Level). flat_map (members set true l.opening) l.prototypes) (λ l. each_of_flat P (members set true l.opening) (λ id. members_up_to set true l.opening id) l.prototypes) (in_sight p))
    (each_of_flat P (members set false None) (λ id. members_up_to set false None id) (option_to_list c.prototype)))
    (members_up_to set false top.opening top.context)

-- ---- live matches ----

record IsFine (r height : ℕ) (line : List ℕ) (place : ℕ) (m : Live) : Type 0 where
  from : place ≤ m.start
  ordered : m.start ≤ m.end
  within : m.end ≤ length line
  up_to : length_of_list m.pattern ≤ r
  counted : counts height m.pattern.operation m.start m.end ≡ true

abbrev IfFine : ℕ → ℕ → List ℕ → ℕ → Option Live → Type 0
IfFine r height line place None = Unit {0}
IfFine r height line place (Some m) = IsFine r height line place m

counted_fine : (r height : ℕ) (member : Member) (text : List ℕ) (groups : Groups) (line : List ℕ) (place : ℕ) (at : Option (ℕ × ℕ)) → IsMemberUpTo r member
    → ((s e : ℕ) → at ≡ Some (s, e) → (place ≤ s) × (s ≤ e) × (e ≤ length line)) → IfFine r height line place (counted height member text groups at)
counted_fine r height member text groups line place None u h = tt
counted_fine r height member text groups line place (Some at) u h = by (counts height member.pattern.operation at.0 at.1) refl (h at.0 at.1 refl)
  where
    by : (b : Bool) → counts height member.pattern.operation at.0 at.1 ≡ b → (place ≤ at.0) × (at.0 ≤ at.1) × (at.1 ≤ length line)
        → IfFine r height line place (if b then Some (record { pattern = member.pattern; from_with_prototype = member.from_with_prototype; searched = text; groups = groups; start = at.0; end = at.1 }) else None)
    by true e k = record { from = k.0; ordered = k.1; within = k.2; up_to = u; counted = e }
    by false e k = tt

matched_fine : (r height : ℕ) (member : Member) (text line : List ℕ) (place : ℕ) (o : Option Groups) → IsMemberUpTo r member
    → ((groups : Groups) (s e : ℕ) → o ≡ Some groups → group_at groups 0 ≡ Some (s, e) → (place ≤ s) × (s ≤ e) × (e ≤ length line)) → IfFine r height line place (matched height member text o)
matched_fine r height member text line place None u h = tt
matched_fine r height member text line place (Some groups) u h = counted_fine r height member text groups line place (group_at groups 0) u (λ s e k. h groups s e refl k)

live_match_fine : (engine : Engine) (line : List ℕ) → FindsInOrder engine line → (r height : ℕ) (place : ℕ) (member : Member) → IsMemberUpTo r member → IfFine r height line place (live_match engine height line place member)
live_match_fine engine line finds r height place member u =
    let text : List ℕ = searched_text engine member.pattern member.opening in
    matched_fine r height member text line place (engine.found text line place) u (λ groups s e f g. finds text place s e groups f g)

cons_fine : (r height : ℕ) (line : List ℕ) (place : ℕ) (o : Option Live) (ms : List Live) → IfFine r height line place o → Each (IsFine r height line place) ms → Each (IsFine r height line place) (cons_option o ms)
cons_fine r height line place None ms h k = k
cons_fine r height line place (Some m) ms h k = and_more h k

live_fine : (engine : Engine) (line : List ℕ) → FindsInOrder engine line → (r height : ℕ) (place : ℕ) (ms : List Member) → Each (IsMemberUpTo r) ms → Each (IsFine r height line place) (filter_map (live_match engine height line place) ms)
live_fine engine line finds r height place [] no_more = no_more
live_fine engine line finds r height place (m ∷ ms) (and_more u k) =
    cons_fine r height line place (live_match engine height line place m) (filter_map (live_match engine height line place) ms) (live_match_fine engine line finds r height place m u) (live_fine engine line finds r height place ms k)

-- a match that is found in a list is one of it, and passes the test
record IsFound (P : Live → Type 0) (test : Live → Bool) (m : Live) : Type 0 where
  is : P m
  passes : test m ≡ true

abbrev IfFound : (Live → Type 0) → (Live → Bool) → Option Live → Type 0
IfFound P test None = Unit {0}
IfFound P test (Some m) = IsFound P test m

find_found : (P : Live → Type 0) (test : Live → Bool) (ms : List Live) → Each P ms → IfFound P test (find test ms)
find_found P test [] no_more = tt
find_found P test (m ∷ ms) (and_more h k) = by (find_found P test ms k) (test m) refl
  where
    by : IfFound P test (find test ms) → (b : Bool) → test m ≡ b → IfFound P test (if b then Some m else find test ms)
    by later true e = record { is = h; passes = e }
    by later false e = later

-- ---- the count of turns that may come falls ----

abbrev pub left : ℕ → List ℕ → Position → ℕ
left r line p = length p.levels + (r + 1) * ((1000 - p.idle) + 1001 * (length line - p.place))

pub record IsReady (line : List ℕ) (p : Position) : Type 0 where
  pub within : p.place ≤ length line
  pub idle : p.idle ≤ 1000

abbrev pub Falls : ℕ → List ℕ → Position → Step → Type 0
Falls r line p (Goes bytes q) = (left r line q < left r line p) × IsReady line q
Falls r line p (Ends bytes s) = Unit {0}
Falls r line p (Refused e) = Unit {0}

falls_idle : (r h k idle rest : ℕ) → k ≤ h + r → idle < 1000 → k + (r + 1) * ((1000 - (idle + 1)) + 1001 * rest) < h + (r + 1) * ((1000 - idle) + 1001 * rest)
falls_idle r h k idle rest l m =
    let e : (1000 - idle) + 1001 * rest ≡ ((1000 - (idle + 1)) + 1001 * rest) + 1 = omega arith in
    rw e (omega arith)

falls_move : (r h k idle rest rest' : ℕ) → k ≤ h + r → rest' < rest → k + (r + 1) * ((1000 - 0) + 1001 * rest') < h + (r + 1) * ((1000 - idle) + 1001 * rest)
falls_move r h k idle rest rest' l m =
    let e : (1000 - 0) + 1001 * rest' + 1 ≤ (1000 - idle) + 1001 * rest = omega arith in
    omega (arith, mul-le-mul_left (r + 1) e)

new_levels_many : (set : SyntaxSet) (opening : Opening) (kept : List ContextId) (with : Option ContextId) (ids : List ContextId) → length (new_levels set opening kept with ids) ≡ length ids
new_levels_many set opening kept with [] = refl
new_levels_many set opening kept with (id ∷ []) = refl
new_levels_many set opening kept with (id ∷ next ∷ ids) = ap suc (new_levels_many set opening [] with (next ∷ ids))

targets_few : (refs : List ContextReference) → length (filter_map target refs) ≤ length refs
targets_few [] = omega arith
targets_few (r ∷ refs) = by (target r) (targets_few refs)
  where
    by : (o : Option ContextId) → length (filter_map target refs) ≤ length refs → length (cons_option o (filter_map target refs)) ≤ suc (length refs)
    by None l = omega arith
    by (Some id) l = omega arith

opened_few : (set : SyntaxSet) (line : List ℕ) (m : Live) (kept : List ContextId) (refs : List ContextReference) → length (opened set line m kept refs) ≤ length refs
opened_few set line m kept refs =
    omega (arith, new_levels_many set (record { region = m.groups; line = line }) kept (option_and_then target m.pattern.with_prototype) (filter_map target refs), targets_few refs)

fewer : (levels : List Level) → length (without_last levels) ≡ length levels - 1
fewer levels = omega (arith, length-take (length levels - 1) levels)

levels_few : (set : SyntaxSet) (line : List ℕ) (levels : List Level) (m : Live) (o : MatchOperation) → length (levels_by set line levels m o) ≤ length levels + option_map_or length (list_of o) 0
levels_few set line levels m (op.Push refs) = omega (arith, length-append levels (opened set line m [] refs), opened_few set line m [] refs)
levels_few set line levels m (op.Set refs) =
    let kept : List ContextId = option_map_or (λ (l : Level). l.prototypes) (last levels) [] in
    omega (arith, length-append (without_last levels) (opened set line m kept refs), opened_few set line m kept refs, fewer levels)
levels_few set line levels m op.Pop = omega (arith, fewer levels)
levels_few set line levels m op.None = omega arith

tested_true : (a b : ℕ) → (a == b) ≡ true → a ≡ b
tested_true a b e = grind (arith, nat_tests)

tested_false : (a b : ℕ) → (a == b) ≡ false → a ≢ b
tested_false a b e = grind (arith, nat_tests)

-- what is counted after a match with this operation and what may come then, if the place stays or
-- if it doesn't
abbrev idle_if : Position → MatchOperation → Bool → ℕ
idle_if p o b = if b then p.idle + option_map_or (λ (refs : List ContextReference). 1) (list_of o) 0 else 0

abbrev FallsTo : ℕ → List ℕ → Position → ℕ → ℕ → ℕ → Type 0
FallsTo r line p height end idle = (height + (r + 1) * ((1000 - idle) + 1001 * (length line - end)) < left r line p) × (idle ≤ 1000)

moved_falls : (r : ℕ) (line : List ℕ) (p : Position) (height end : ℕ) → p.place < end → end ≤ length line → height ≤ length p.levels + r → FallsTo r line p height end 0
moved_falls r line p height end l w h = (falls_move r (length p.levels) height p.idle (length line - p.place) (length line - end) h (omega arith), omega arith)

idle_falls : (r : ℕ) (line : List ℕ) (p : Position) (height end : ℕ) → end ≡ p.place → p.idle < 1000 → height ≤ length p.levels + r → FallsTo r line p height end (p.idle + 1)
idle_falls r line p height end e l h = rw e (falls_idle r (length p.levels) height p.idle (length line - p.place) h l, omega arith)

pop_falls : (r : ℕ) (line : List ℕ) (p : Position) (height end : ℕ) → end ≡ p.place → p.idle ≤ 1000 → height < length p.levels → FallsTo r line p height end (p.idle + 0)
pop_falls r line p height end e l h = let z : p.idle + 0 ≡ p.idle = omega arith in rw (e, z) (omega arith, l)

stays_falls : (r : ℕ) (set : SyntaxSet) (line : List ℕ) (p : Position) (m : Live) (o : MatchOperation) → IsReady line p → 1 ≤ length p.levels
    → p.place ≤ m.start → m.start ≤ m.end → option_map_or length (list_of o) 0 ≤ r → counts (length p.levels) o m.start m.end ≡ true → m.end ≡ p.place → turns_back p o ≡ false
    → FallsTo r line p (length (levels_by set line p.levels m o)) m.end (idle_if p o true)
stays_falls r set line p m (op.Push refs) ready high from ordered up counted e stays =
    let n : p.idle ≢ 1000 = tested_false p.idle 1000 stays in
    idle_falls r line p (length (levels_by set line p.levels m (op.Push refs))) m.end e (omega (arith, ready.idle, n)) (omega (arith, levels_few set line p.levels m (op.Push refs)))
stays_falls r set line p m (op.Set refs) ready high from ordered up counted e stays =
    let n : p.idle ≢ 1000 = tested_false p.idle 1000 stays in
    idle_falls r line p (length (levels_by set line p.levels m (op.Set refs))) m.end e (omega (arith, ready.idle, n)) (omega (arith, levels_few set line p.levels m (op.Set refs)))
stays_falls r set line p m op.Pop ready high from ordered up counted e stays =
    pop_falls r line p (length (without_last p.levels)) m.end e ready.idle (omega (arith, fewer p.levels))
stays_falls r set line p m op.None ready high from ordered up counted e stays =
    let k : m.start ≡ m.end = omega arith in absurd (not_itself m.start m.end k counted)
  where
    not_itself : (a b : ℕ) → a ≡ b → not (a == b) ≡ true → ⊥
    not_itself a b k c = grind (arith, nat_tests)

-- a match with this operation, taken at this position, makes the count fall
taken_falls : (r : ℕ) (set : SyntaxSet) (line : List ℕ) (p : Position) (m : Live) (o : MatchOperation) → IsReady line p → 1 ≤ length p.levels
    → p.place ≤ m.start → m.start ≤ m.end → m.end ≤ length line → option_map_or length (list_of o) 0 ≤ r → counts (length p.levels) o m.start m.end ≡ true
    → ((m.end == p.place) && turns_back p o) ≡ false → FallsTo r line p (length (levels_by set line p.levels m o)) m.end (idle_by p m.end o)
taken_falls r set line p m o ready high from ordered within up counted stays = by (m.end == p.place) refl stays
  where
    by : (b : Bool) → (m.end == p.place) ≡ b → (b && turns_back p o) ≡ false → FallsTo r line p (length (levels_by set line p.levels m o)) m.end (idle_if p o b)
    by true e s = stays_falls r set line p m o ready high from ordered up counted (tested_true m.end p.place e) s
    by false e s =
        let n : m.end ≢ p.place = tested_false m.end p.place e in
        moved_falls r line p (length (levels_by set line p.levels m o)) m.end (omega (arith, n)) within (omega (arith, levels_few set line p.levels m o))

-- ---- a turn ----

char_len_least : (line : List ℕ) (place : ℕ) → 1 ≤ char_len line place
char_len_least line place = by (char_at line place)
  where
    by : (o : Option ℕ) → 1 ≤ option_map_or len_utf8 o 1
    by None = omega arith
    by (Some c) = (len_utf8_bounds c).0

abbrev IsChoiceFine : ℕ → List ℕ → Position → Choice → Type 0
IsChoiceFine r line p (Take m) = IsFine r (length p.levels) line p.place m × (loops p m ≡ false)
IsChoiceFine r line p Skip = p.place + char_len line p.place < length line
IsChoiceFine r line p End = Unit {0}

passed : (a b : Bool) → (a && not b) ≡ true → b ≡ false
passed true false e = refl
passed true true e = cc
passed false b e = cc

skip_fine : (r : ℕ) (line : List ℕ) (p : Position) (b : Bool) → b ≡ nat_lt (p.place + char_len line p.place) (length line) → IsChoiceFine r line p (if b then Skip else End)
skip_fine r line p true e = grind (arith, nat_tests)
skip_fine r line p false e = tt

choice_fine : (r : ℕ) (line : List ℕ) (p : Position) (all ms : List Live) (o : Option Live) → IfFound (IsFine r (length p.levels) line p.place) (λ m. is_least all m && not (loops p m)) o → IsChoiceFine r line p (choice_of line p.place ms o)
choice_fine r line p all ms (Some m) h = (h.is, passed (is_least all m) (loops p m) h.passes)
choice_fine r line p all [] None h = tt
choice_fine r line p all (m ∷ ms) None h = skip_fine r line p (nat_lt (p.place + char_len line p.place) (length line)) refl

unless_falls : (r : ℕ) (line : List ℕ) (p : Position) (o : Option ParsingError) (s : Step) → Falls r line p s → Falls r line p (unless_refused o s)
unless_falls r line p None s h = h
unless_falls r line p (Some e) s h = tt

step_falls : (engine : Engine) (set : SyntaxSet) (line : List ℕ) (p : Position) (choice : Choice) → IsReady line p → 1 ≤ length p.levels → IsChoiceFine (longest (contexts_of set)) line p choice
    → Falls (longest (contexts_of set)) line p (step engine set line p choice)
step_falls engine set line p (Take m) ready high h =
    let r : ℕ = longest (contexts_of set) in
    let k : FallsTo r line p (length (levels_after set line p.levels m)) m.end (idle_by p m.end m.pattern.operation) =
    taken_falls r set line p m m.pattern.operation ready high h.0.from h.0.ordered h.0.within h.0.up_to h.0.counted h.1 in
    unless_falls r line p (refusal set m.pattern) (Goes (scopes_passed engine set p.levels p.place m) (position_after set line p m)) (k.0, record { within = h.0.within; idle = k.1 })
step_falls engine set line p Skip ready high h =
    let one : 1 ≤ char_len line p.place = char_len_least line p.place in
    (falls_move (longest (contexts_of set)) (length p.levels) (length p.levels) p.idle (length line - p.place) (length line - (p.place + char_len line p.place)) (omega arith) (omega arith), record { within = omega arith; idle = omega arith })
step_falls engine set line p End ready high h = tt

turn_in_falls : (engine : Engine) (line : List ℕ) → FindsInOrder engine line → (set : SyntaxSet) (p : Position) (top : Level) (c : Option Context) → IsReady line p → 1 ≤ length p.levels
    → Falls (longest (contexts_of set)) line p (turn_in engine set line p top c)
turn_in_falls engine line finds set p top None ready high = tt
turn_in_falls engine line finds set p top (Some c) ready high =
    let r : ℕ = longest (contexts_of set) in
    let ms : List Live = live engine line p (chain set p top c) in
    let all : Each (IsFine r (length p.levels) line p.place) ms = live_fine engine line finds r (length p.levels) p.place (chain set p top c) (chain_up_to set p top c) in
    unless_falls r line p (missing set (prototypes_in p c)) (step engine set line p (winner line p ms))
    (step_falls engine set line p (winner line p ms) ready high
    (choice_fine r line p ms ms (find (λ m. is_least ms m && not (loops p m)) ms) (find_found (IsFine r (length p.levels) line p.place) (λ m. is_least ms m && not (loops p m)) ms all)))

on_top : (levels : List Level) (top : Level) → last levels ≡ Some top → 1 ≤ length levels
on_top [] top e = cc
on_top (l ∷ ls) top e = omega arith

pub turn_falls : (engine : Engine) (line : List ℕ) → FindsInOrder engine line → (set : SyntaxSet) (p : Position) → IsReady line p → Falls (longest (contexts_of set)) line p (turn engine set line p)
unfolding turn
turn_falls engine line finds set p ready = by (last p.levels) refl
  where
    by : (o : Option Level) → last p.levels ≡ o → Falls (longest (contexts_of set)) line p (turn_on engine set line (trimmed p) o)
    by None e = tt
    by (Some top) e = turn_in_falls engine line finds set (trimmed p) top (context_at set top.context) (record { within = ready.within; idle = ready.idle }) (on_top p.levels top e)

-- each turn that goes on makes fewer to come
pub goes_falls : (engine : Engine) (line : List ℕ) → FindsInOrder engine line → (set : SyntaxSet) (p q : Position) (bytes : List Scopes) → p.place ≤ length line → p.idle ≤ 1000
    → turn engine set line p ≡ Goes bytes q → (left (longest (contexts_of set)) line q < left (longest (contexts_of set)) line p) × (q.idle ≤ 1000)
goes_falls engine line finds set p q bytes l i e =
    let k : Falls (longest (contexts_of set)) line p (Goes bytes q) = rw e at (turn_falls engine line finds set p (record { within = l; idle = i })) in (k.0, k.1.idle)
