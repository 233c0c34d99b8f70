-- Reading in a closed part of a set is that of any set that agrees with it there.
use Rattle.std.proofs.Common.{◌≡◌, ℕ, zero, suc, ◌+◌, ◌-◌, Bool, true, false, ◌||◌, List, [], ◌∷◌, ◌++◌, length, map, fold, find, cond, Option, Some, None, is_none, slice_get, unwrap_or, replicate, refl, ap, sym, ◌∙◌, subst, if◌then◌else◌}
use Rattle.std.specs.List.{filter_map, flat_map, cons_option, list_any, range_with_len}
use Rattle.std.specs.Option.{option_map, option_map_or, option_to_list, option_and_then, option_or}
use Rattle.syntect_closed.specs.syntect_grammar_contexts.Substitution.{Opening}
use Rattle.syntect_closed.specs.syntect_reading_choice.Engine.{Engine}
use Rattle.syntect_closed.specs.syntect_grammar.Contexts.{context_at, part_of}
use Rattle.syntect_closed.specs.syntect_grammar_contexts.Contexts.{target}
use Rattle.syntect_closed.specs.syntect_grammar.Patterns.{RoomIsNotFeltAt, entries, patterns_of, GivesNothing, unresolved, lacking, around, Walks, ended, own, passed_over, followed}
use Rattle.syntect_closed.specs.syntect_reading_choice.Chain.{Member, as_members, chain, last, members, in_sight, prototypes_in}
use Rattle.syntect_parsing.specs.Visible.{clearing, left_by, opened_on, top_clearing, top_part, visible, visible_base}
use Rattle.syntect_parsing.specs.Turn.{uses_backrefs, new_level, new_levels, opened, levels_by, levels_after, position_after, record_by, idle_by, cuts_after, trimmed, without_last}
use Rattle.syntect_closed.specs.syntect_reading_choice.Turn.{Live, Choice, Take, Skip, End, char_len, live, missing, named, refusal, list_of, winner}
use Rattle.syntect_closed.specs.syntect_reading_choice.Turn as names
use Rattle.syntect_parsing.specs.Scopes.{Scopes, scopes_at, scopes_passed}
use Rattle.syntect_parsing.specs.Line.{Step, Goes, Ends, Refused, ended as line_ended, turn, turn_on, turn_in, step, unless_refused, Reads, ends, goes, Refuses, now, later, RefusesLine, no_level, in_turn, Answer, Answers, accepts, refuses, AnswersAll, none, one_more, at_start}
use Rattle.syntect_closed.specs.Closed.{Part, AreIn, leads_of, StaysIn, IsClosedPart, AgreeOn, StandsIn, ClosedReadAlike}
use Rattle.syntect_closed.proofs.syntect_grammar_proofs.Room.{room_is_not_felt_at}
use Rattle.syntect_closed.proofs.syntect_parsing_proofs.EachLaws as below
use Rattle.syntect_closed.proofs.EachLaws.{Each, each-append, each-flat_map, each-map, each_of, each-drop, each-take}
use Rattle.syntect_closed.proofs.syntect_parsing_proofs.ClosedLaws.{wins-each}
use Rattle.syntect_closed.specs.syntect_grammar_contexts.declared.context.ContextId.{ContextId}
use Rattle.syntect_closed.specs.syntect_grammar_contexts.declared.context.ContextReference.{ContextReference}
use Rattle.syntect_closed.specs.syntect_grammar_contexts.declared.context.MatchOperation.{MatchOperation}
use Rattle.syntect_closed.specs.syntect_grammar_contexts.declared.context.MatchOperation.TheVariants as op
use Rattle.syntect_closed.specs.syntect_grammar_contexts.declared.context.MatchPattern.{MatchPattern}
use Rattle.syntect_closed.specs.syntect_grammar_contexts.declared.context.Pattern.{Pattern}
use Rattle.syntect_closed.specs.syntect_grammar_contexts.declared.context.Context.{Context}
use Rattle.syntect_closed.specs.syntect_grammar.declared.syntax_set.SyntaxSet.{SyntaxSet}
use Rattle.syntect_parsing.specs.declared.parser.Standing.{Standing}
use Rattle.syntect_closed.specs.syntect_reading_choice.declared.level.Level.{Level}
use Rattle.syntect_closed.specs.syntect_reading_choice.declared.position.Position.{Position}
use Rattle.syntect_closed.specs.syntect_grammar_contexts.declared.error.ParsingError.{ParsingError}
use Rattle.syntect_closed.specs.syntect_grammar_contexts.declared.error.ParsingError.TheVariants as error

-- ---- functions that are the same on each of a list ----

pub flat_map_same : {A B : Type 0} (P : A → Type 0) (f g : A → List B) (xs : List A) → Each P xs → ((x : A) → P x → f x ≡ g x) → flat_map f xs ≡ flat_map g xs
flat_map_same P f g [] e h = refl
flat_map_same {B = B} P f g (x ∷ xs) e h = ap (λ (ys : List B). ys ++ flat_map f xs) (h x e.0) ∙ ap (λ (ys : List B). g x ++ ys) (flat_map_same P f g xs e.1 h)

pub find_same : {A : Type 0} (P : A → Type 0) (f g : A → Bool) (xs : List A) → Each P xs → ((x : A) → P x → f x ≡ g x) → find f xs ≡ find g xs
find_same P f g [] e h = refl
find_same {A = A} P f g (x ∷ xs) e h = ap (λ (b : Bool). cond b (Some x) (find f xs)) (h x e.0) ∙ ap (λ (o : Option A). cond (g x) (Some x) o) (find_same P f g xs e.1 h)

pub any_same : {A : Type 0} (P : A → Type 0) (f g : A → Bool) (xs : List A) → Each P xs → ((x : A) → P x → f x ≡ g x) → list_any f xs ≡ list_any g xs
any_same P f g [] e h = refl
any_same P f g (x ∷ xs) e h = ap (λ (b : Bool). b || list_any f xs) (h x e.0) ∙ ap (λ (b : Bool). g x || b) (any_same P f g xs e.1 h)

pub fold_same : {A B : Type 0} (P : A → Type 0) (f g : B → A → B) (z : B) (xs : List A) → Each P xs → ((z : B) (x : A) → P x → f z x ≡ g z x) → fold f z xs ≡ fold g z xs
fold_same P f g z [] e h = refl
fold_same {B = B} P f g z (x ∷ xs) e h = ap (λ (w : B). fold f w xs) (h z x e.0) ∙ fold_same P f g (g z x) xs e.1 h

pub map_or_same : {A B : Type 0} (f g : A → B) (z : B) (o : Option A) → ((x : A) → o ≡ Some x → f x ≡ g x) → option_map_or f o z ≡ option_map_or g o z
map_or_same f g z None h = refl
map_or_same f g z (Some x) h = h x refl

pub and_then_same : {A B : Type 0} (f g : A → Option B) (o : Option A) → ((x : A) → o ≡ Some x → f x ≡ g x) → option_and_then f o ≡ option_and_then g o
and_then_same f g None h = refl
and_then_same f g (Some x) h = h x refl

-- ---- members of lists ----

of_option : {A : Type 0} (P : A → Type 0) (o : Option A) (x : A) → Each P (option_to_list o) → o ≡ Some x → P x
of_option P None x e k = cc
of_option P (Some y) x e k = let i : y ≡ x = cc in rw (← i) e.0

get_of : {X : Type 0} (P : X → Type 0) (xs : List X) (i : ℕ) (y : X) → Each P xs → slice_get xs i ≡ Some y → P y
get_of P [] i y e k = cc
get_of P (x ∷ xs) zero y e k = let f : x ≡ y = cc in rw (← f) e.0
get_of P (x ∷ xs) (suc i) y e k = get_of P xs i y e.1 k

last_of : {X : Type 0} (P : X → Type 0) (xs : List X) (y : X) → Each P xs → last xs ≡ Some y → P y
last_of P xs y e k = get_of P xs (length xs - 1) y e k

-- the same in the words of the crate below
each_as : {A : Type 0} (P : A → Type 0) (xs : List A) → Each P xs → below.Each P xs
each_as P [] e = tt
each_as P (x ∷ xs) e = (e.0, each_as P xs e.1)

module _ (part : Part) where
  abbrev pub In : ContextId → Type 0
  In id = part id ≡ true

  abbrev pub InLevel : Level → Type 0
  InLevel l = AreIn part (l.context ∷ l.prototypes)

  -- each context that a match names is of the part
  abbrev pub Leading : MatchPattern → Type 0
  Leading m = AreIn part (filter_map target (named m))

  abbrev pub LeadingMember : Member → Type 0
  LeadingMember m = Leading m.pattern

  abbrev pub Inner : Pattern → Type 0
  Inner p = AreIn part (leads_of p)

  -- a list's targets and that of a `with_prototype`
  prototype_in : (o : Option ContextId) → Each In (cons_option o []) → Each In (option_to_list o)
  prototype_in None h = tt
  prototype_in (Some x) h = h

  target_in : (o : Option ContextId) (xs ys zs : List ContextId) → (Each In xs → Each In ys × Each In zs) → Each In (cons_option o xs) → Each In (cons_option o ys) × Each In zs
  target_in None xs ys zs f h = f h
  target_in (Some x) xs ys zs f h = let k : Each In ys × Each In zs = f h.1 in ((h.0, k.0), k.1)

  pub targets_in : (refs : List ContextReference) (w : Option ContextReference) → Each In (filter_map target (refs ++ option_to_list w)) → Each In (filter_map target refs) × Each In (option_to_list (option_and_then target w))
  targets_in [] None h = (tt, tt)
  targets_in [] (Some r) h = (tt, prototype_in (target r) h)
  targets_in (r ∷ refs) w h =
      target_in (target r) (filter_map target (refs ++ option_to_list w)) (filter_map target refs) (option_to_list (option_and_then target w)) (targets_in refs w) h

  pub kept_in : (levels : List Level) (o : Option Level) → last levels ≡ o → Each InLevel levels → Each In (option_map_or (λ (l : Level). l.prototypes) o [])
  kept_in levels None e k = tt
  kept_in levels (Some l) e k = let h : InLevel l = last_of InLevel levels l k e in h.1

  pub sight_in : (p : Position) → Each InLevel p.levels → Each InLevel (in_sight p)
  sight_in p s = each-drop InLevel (unwrap_or (last p.cuts) 0) p.levels s

module _ (part : Part) (a b : SyntaxSet) (room : RoomIsNotFeltAt) (closed : IsClosedPart a part) (agree : AgreeOn part a b) where
  -- ---- walks ----

  nothing_same : (path : List ContextId) (r : ContextReference) → Each (In part) (option_to_list (target r)) → GivesNothing a path r → GivesNothing b path r
  nothing_same path r h (unresolved e) = unresolved e
  nothing_same path r h (lacking {id = id} e n) = lacking e (agree id (of_option (In part) (target r) id h e) ∙ n)
  nothing_same path r h (around e k) = around e k

  walks_same : (path : List ContextId) (ps : List Pattern) (ms : List MatchPattern) → Walks a path ps ms → Each (Inner part) ps → Walks b path ps ms × Each (Leading part) ms
  walks_same path ps ms ended h = (ended, tt)
  walks_same path ps ms (own {ps = qs} {ms = ns} w) h =
      let k : Walks b path qs ns × Each (Leading part) ns = walks_same path qs ns w h.1 in (own k.0, (h.0, k.1))
  walks_same path ps ms (passed_over {r = r} {ps = qs} {ms = ns} g w) h =
      let k : Walks b path qs ns × Each (Leading part) ns = walks_same path qs ns w h.1 in (passed_over (nothing_same path r h.0 g) k.0, k.1)
  walks_same path ps ms (followed {r = r} {id = id} {c = c} {ps = qs} {inner = inner} {ms = ns} e f k v w) h =
      let i : In part id = of_option (In part) (target r) id h.0 e in
      let s : StaysIn part c = closed id c i k in
      let x : Walks b (path ++ id ∷ []) c.patterns inner × Each (Leading part) inner = walks_same (path ++ id ∷ []) c.patterns inner v s.entries in
      let y : Walks b path qs ns × Each (Leading part) ns = walks_same path qs ns w h.1 in
      (followed e f (agree id i ∙ k) x.0 y.0, each-append (Leading part) inner ns x.1 y.1)

  pub part_same : {X : Type 0} (f : Context → List X) (id : ContextId) → In part id → part_of f b id ≡ part_of f a id
  part_same f id i = ap (λ (o : Option Context). option_map_or f o []) (agree id i)

  entries_in : (id : ContextId) (o : Option Context) → In part id → context_at a id ≡ o → Each (Inner part) (option_map_or (λ (c : Context). c.patterns) o [])
  entries_in id None i e = tt
  entries_in id (Some c) i e = let s : StaysIn part c = closed id c i e in s.entries

  pub patterns_same : (id : ContextId) → In part id → (patterns_of b id ≡ patterns_of a id) × Each (Leading part) (patterns_of a id)
  patterns_same id i =
      let w : Walks a (id ∷ []) (entries a id) (patterns_of a id) = (room a id).0 in
      let k : Walks b (id ∷ []) (entries a id) (patterns_of a id) × Each (Leading part) (patterns_of a id)
      = walks_same (id ∷ []) (entries a id) (patterns_of a id) w (entries_in id (context_at a id) i refl) in
      let v : Walks b (id ∷ []) (entries b id) (patterns_of a id)
      = subst (λ (ps : List Pattern). Walks b (id ∷ []) ps (patterns_of a id)) (sym (part_same (λ (c : Context). c.patterns) id i)) k.0 in
      (sym ((room b id).1 (patterns_of a id) v), k.1)

  -- ---- the chain ----

  members_same : (from : Bool) (opening : Option Opening) (id : ContextId) → In part id → members b from opening id ≡ members a from opening id
  members_same from opening id i = ap (λ (ms : List MatchPattern). as_members from opening ms) (patterns_same id i).0

  members_in : (from : Bool) (opening : Option Opening) (id : ContextId) → In part id → Each (LeadingMember part) (members a from opening id)
  members_in from opening id i =
      each-map (LeadingMember part) (λ m. record { pattern = m; opening = opening; from_with_prototype = from }) (patterns_of a id) (patterns_same id i).1

  abbrev Before : SyntaxSet → Position → List Member
  Before set p = flat_map (λ (l : Level). flat_map (members set true l.opening) l.prototypes) (in_sight p)

  abbrev Given : SyntaxSet → Context → List Member
  Given set c = flat_map (members set false None) (option_to_list c.prototype)

  before_same : (p : Position) → Each (InLevel part) p.levels → Before b p ≡ Before a p
  before_same p s =
      flat_map_same (InLevel part) (λ (l : Level). flat_map (members b true l.opening) l.prototypes) (λ (l : Level). flat_map (members a true l.opening) l.prototypes) (in_sight p) (sight_in part p s)
      (λ l k. flat_map_same (In part) (members b true l.opening) (members a true l.opening) l.prototypes k.1 (λ id i. members_same true l.opening id i))

  given_same : (c : Context) → AreIn part (option_to_list c.prototype) → Given b c ≡ Given a c
  given_same c h = flat_map_same (In part) (members b false None) (members a false None) (option_to_list c.prototype) h (λ id i. members_same false None id i)

  chain_same : (p : Position) (top : Level) (c : Context) → Each (InLevel part) p.levels → In part top.context → AreIn part (option_to_list c.prototype) → chain b p top c ≡ chain a p top c
  chain_same p top c s t h =
      ap (λ (ms : List Member). ms ++ Given b c ++ members b false top.opening top.context) (before_same p s)
      ∙ ap (λ (ms : List Member). Before a p ++ ms ++ members b false top.opening top.context) (given_same c h)
      ∙ ap (λ (ms : List Member). Before a p ++ Given a c ++ ms) (members_same false top.opening top.context t)

  chain_in : (p : Position) (top : Level) (c : Context) → Each (InLevel part) p.levels → In part top.context → AreIn part (option_to_list c.prototype) → Each (LeadingMember part) (chain a p top c)
  chain_in p top c s t h =
      each-append (LeadingMember part) (Before a p ++ Given a c) (members a false top.opening top.context)
      (each-append (LeadingMember part) (Before a p) (Given a c)
      (each-flat_map (LeadingMember part) (λ (l : Level). flat_map (members a true l.opening) l.prototypes) (in_sight p)
      (each_of (InLevel part) (λ (l : Level). Each (LeadingMember part) (flat_map (members a true l.opening) l.prototypes)) (in_sight p)
      (λ l k. each-flat_map (LeadingMember part) (members a true l.opening) l.prototypes (each_of (In part) (λ (id : ContextId). Each (LeadingMember part) (members a true l.opening id)) l.prototypes (λ id i. members_in true l.opening id i) k.1)) (sight_in part p s)))
      (each-flat_map (LeadingMember part) (members a false None) (option_to_list c.prototype) (each_of (In part) (λ (id : ContextId). Each (LeadingMember part) (members a false None id)) (option_to_list c.prototype) (λ id i. members_in false None id i) h)))
      (members_in false top.opening top.context t)

  -- ---- what refuses ----

  missing_same : (ids : List ContextId) → Each (In part) ids → missing b ids ≡ missing a ids
  missing_same ids e =
      ap (λ (o : Option ContextId). option_map error.MissingContext o)
      (find_same (In part) (λ id. is_none (context_at b id)) (λ id. is_none (context_at a id)) ids e (λ id i. ap (λ (o : Option Context). is_none o) (agree id i)))

  refusal_same : (m : MatchPattern) → Leading part m → refusal b m ≡ refusal a m
  refusal_same m h = ap (λ (o : Option ParsingError). option_or (names.unresolved (named m)) o) (missing_same (filter_map target (named m)) h)

  prototypes_same : (p : Position) (c : Context) → Each (InLevel part) p.levels → AreIn part (option_to_list c.prototype) → missing b (prototypes_in p c) ≡ missing a (prototypes_in p c)
  prototypes_same p c s h =
      missing_same (prototypes_in p c)
      (each-append (In part) (flat_map (λ (l : Level). l.prototypes) (in_sight p)) (option_to_list c.prototype)
      (each-flat_map (In part) (λ (l : Level). l.prototypes) (in_sight p) (each_of (InLevel part) (λ (l : Level). Each (In part) l.prototypes) (in_sight p) (λ l k. k.1) (sight_in part p s))) h)

  -- ---- scopes ----

  clearing_same : (id : ContextId) → In part id → clearing b id ≡ clearing a id
  clearing_same id i = ap (λ (o : Option Context). option_and_then (λ c. c.clear_scopes) o) (agree id i)

  opened_on_same : (below : Scopes) (id : ContextId) → In part id → opened_on b below id ≡ opened_on a below id
  opened_on_same below id i =
      ap (λ x. left_by x below ++ part_of (λ c. c.meta_scope) b id) (clearing_same id i)
      ∙ ap (λ (ss : Scopes). left_by (clearing a id) below ++ ss) (part_same (λ c. c.meta_scope) id i)

  visible_same : (levels : List Level) → Each (InLevel part) levels → visible b levels ≡ visible a levels
  visible_same levels s =
      fold_same (InLevel part) (λ below l. opened_on b below l.context ++ part_of (λ c. c.meta_content_scope) b l.context)
      (λ below l. opened_on a below l.context ++ part_of (λ c. c.meta_content_scope) a l.context) [] levels s
      (λ below l k. ap (λ (ss : Scopes). ss ++ part_of (λ c. c.meta_content_scope) b l.context) (opened_on_same below l.context k.0)
      ∙ ap (λ (ss : Scopes). opened_on a below l.context ++ ss) (part_same (λ c. c.meta_content_scope) l.context k.0))

  without_in : (levels : List Level) → Each (InLevel part) levels → Each (InLevel part) (without_last levels)
  without_in levels s = each-take (InLevel part) (length levels - 1) levels s

  top_clearing_same : (levels : List Level) → Each (InLevel part) levels → top_clearing b levels ≡ top_clearing a levels
  top_clearing_same levels s =
      and_then_same (λ (l : Level). clearing b l.context) (λ (l : Level). clearing a l.context) (last levels)
      (λ l e. let k : InLevel part l = last_of (InLevel part) levels l s e in clearing_same l.context k.0)

  top_part_same : (f : Context → Scopes) (levels : List Level) → Each (InLevel part) levels → top_part f b levels ≡ top_part f a levels
  top_part_same f levels s =
      map_or_same (λ (l : Level). part_of f b l.context) (λ (l : Level). part_of f a l.context) [] (last levels)
      (λ l e. let k : InLevel part l = last_of (InLevel part) levels l s e in part_same f l.context k.0)

  base_same : (levels : List Level) (o : MatchOperation) → Each (InLevel part) levels → Each (In part) (filter_map target (option_map_or (λ (refs : List ContextReference). refs) (list_of o) []))
      → visible_base b levels o ≡ visible_base a levels o
  base_same levels (op.Push refs) s h =
      ap (λ (ss : Scopes). fold (opened_on b) ss (filter_map target refs)) (visible_same levels s)
      ∙ fold_same (In part) (opened_on b) (opened_on a) (visible a levels) (filter_map target refs) h (λ below id i. opened_on_same below id i)
  base_same levels (op.Set refs) s h =
      ap (λ (ss : Scopes). ss ++ flat_map (part_of (λ c. c.meta_scope) b) (filter_map target refs)) (visible_same levels s)
      ∙ ap (λ (ss : Scopes). visible a levels ++ ss) (flat_map_same (In part) (part_of (λ c. c.meta_scope) b) (part_of (λ c. c.meta_scope) a) (filter_map target refs) h (λ id i. part_same (λ c. c.meta_scope) id i))
  base_same levels op.Pop s h =
      ap (λ x. left_by x (visible b (without_last levels)) ++ top_part (λ c. c.meta_scope) b levels) (top_clearing_same levels s)
      ∙ ap (λ (ss : Scopes). left_by (top_clearing a levels) ss ++ top_part (λ c. c.meta_scope) b levels) (visible_same (without_last levels) (without_in levels s))
      ∙ ap (λ (ss : Scopes). left_by (top_clearing a levels) (visible a (without_last levels)) ++ ss) (top_part_same (λ c. c.meta_scope) levels s)
  base_same levels op.None s h = visible_same levels s

  refs_in : (o : Option (List ContextReference)) (w : Option ContextReference) → Each (In part) (filter_map target (option_map_or (λ (refs : List ContextReference). refs ++ option_to_list w) o []))
      → Each (In part) (filter_map target (option_map_or (λ (refs : List ContextReference). refs) o []))
  refs_in None w h = tt
  refs_in (Some refs) w h = (targets_in part refs w h).0

  passed_same : (engine : Engine) (levels : List Level) (place : ℕ) (m : Live) → Each (InLevel part) levels → Leading part m.pattern
      → scopes_passed engine b levels place m ≡ scopes_passed engine a levels place m
  passed_same engine levels place m s h =
      ap (λ (ss : Scopes). replicate (m.start - place) ss ++ map (scopes_at engine (visible_base b levels m.pattern.operation) m) (range_with_len m.start (m.end - m.start))) (visible_same levels s)
      ∙ ap (λ (ss : Scopes). replicate (m.start - place) (visible a levels) ++ map (scopes_at engine ss m) (range_with_len m.start (m.end - m.start)))
      (base_same levels m.pattern.operation s (refs_in (list_of m.pattern.operation) m.pattern.with_prototype h))

  -- ---- levels ----

  level_same : (o : Opening) (id : ContextId) (prototypes : List ContextId) → Each (In part) (id ∷ prototypes) → new_level b o id prototypes ≡ new_level a o id prototypes
  level_same o id prototypes h =
      ap (λ (x : Bool). record { context = id; prototypes = prototypes; opening = if x then Some o else None })
      (any_same (In part) (uses_backrefs b) (uses_backrefs a) (id ∷ prototypes) h (λ x i. ap (λ (c : Option Context). option_map_or (λ k. k.uses_backrefs) c false) (agree x i)))

  new_same : (o : Opening) (kept : List ContextId) (w : Option ContextId) (ids : List ContextId) → Each (In part) ids → Each (In part) kept → Each (In part) (option_to_list w)
      → (new_levels b o kept w ids ≡ new_levels a o kept w ids) × Each (InLevel part) (new_levels a o kept w ids)
  new_same o kept w [] h k p = (refl, tt)
  new_same o kept w (x ∷ []) h k p =
      let i : Each (In part) (x ∷ (kept ++ option_to_list w)) = (h.0, each-append (In part) kept (option_to_list w) k p) in
      (ap (λ (l : Level). l ∷ []) (level_same o x (kept ++ option_to_list w) i), (i, tt))
  new_same o kept w (x ∷ y ∷ ids) h k p =
      let i : Each (In part) (x ∷ kept) = (h.0, k) in
      let r : (new_levels b o [] w (y ∷ ids) ≡ new_levels a o [] w (y ∷ ids)) × Each (InLevel part) (new_levels a o [] w (y ∷ ids)) = new_same o [] w (y ∷ ids) h.1 tt p in
      (ap (λ (l : Level). l ∷ new_levels b o [] w (y ∷ ids)) (level_same o x kept i) ∙ ap (λ (ls : List Level). new_level a o x kept ∷ ls) r.0, (i, r.1))

  levels_same : (line : List ℕ) (levels : List Level) (m : Live) (o : MatchOperation) → Each (InLevel part) levels
      → Each (In part) (filter_map target (option_map_or (λ (refs : List ContextReference). refs ++ option_to_list m.pattern.with_prototype) (list_of o) []))
      → (levels_by b line levels m o ≡ levels_by a line levels m o) × Each (InLevel part) (levels_by a line levels m o)
  levels_same line levels m (op.Push refs) s h =
      let t : Each (In part) (filter_map target refs) × Each (In part) (option_to_list (option_and_then target m.pattern.with_prototype)) = targets_in part refs m.pattern.with_prototype h in
      let n : (opened b line m [] refs ≡ opened a line m [] refs) × Each (InLevel part) (opened a line m [] refs)
      = new_same (record { region = m.groups; line = line }) [] (option_and_then target m.pattern.with_prototype) (filter_map target refs) t.0 tt t.1 in
      (ap (λ (ls : List Level). levels ++ ls) n.0, each-append (InLevel part) levels (opened a line m [] refs) s n.1)
  levels_same line levels m (op.Set refs) s h =
      let kept = option_map_or (λ (l : Level). l.prototypes) (last levels) [] in
      let t : Each (In part) (filter_map target refs) × Each (In part) (option_to_list (option_and_then target m.pattern.with_prototype)) = targets_in part refs m.pattern.with_prototype h in
      let n : (opened b line m kept refs ≡ opened a line m kept refs) × Each (InLevel part) (opened a line m kept refs)
      = new_same (record { region = m.groups; line = line }) kept (option_and_then target m.pattern.with_prototype) (filter_map target refs) t.0 (kept_in part levels (last levels) refl s) t.1 in
      (ap (λ (ls : List Level). without_last levels ++ ls) n.0, each-append (InLevel part) (without_last levels) (opened a line m kept refs) (without_in levels s) n.1)
  levels_same line levels m op.Pop s h = (refl, without_in levels s)
  levels_same line levels m op.None s h = (refl, s)

  after_same : (line : List ℕ) (p : Position) (m : Live) → Each (InLevel part) p.levels → Leading part m.pattern
      → (position_after b line p m ≡ position_after a line p m) × Each (InLevel part) (position_after a line p m).levels
  after_same line p m s h =
      let k : (levels_after b line p.levels m ≡ levels_after a line p.levels m) × Each (InLevel part) (levels_after a line p.levels m) = levels_same line p.levels m m.pattern.operation s h in (
        ap (λ (ls : List Level). record {
          levels = ls;
          cuts = cuts_after p m;
          place = m.end;
          last = record_by p m.end m.pattern.operation;
          idle = idle_by p m.end m.pattern.operation;
        }) k.0,
        k.1,
      )

  -- ---- a turn ----

  abbrev pub Stepped : Step → Type 0
  Stepped (Goes bytes q) = Each (InLevel part) q.levels
  Stepped (Ends bytes after) = StandsIn part after
  Stepped (Refused e) = Unit {0}

  unless_in : (o : Option ParsingError) (s : Step) → Stepped s → Stepped (unless_refused o s)
  unless_in None s h = h
  unless_in (Some e) s h = tt

  module _ (engine : Engine) (line : List ℕ) where
    ended_same : (p : Position) → Each (InLevel part) p.levels → line_ended b line p ≡ line_ended a line p
    ended_same p s = ap (λ (ss : Scopes). Ends (replicate (length line - p.place) ss) (record { levels = p.levels; cuts = p.cuts; first_line = false })) (visible_same p.levels s)

    taken_same : (p : Position) (m : Live) → Each (InLevel part) p.levels → Leading part m.pattern
        → (step engine b line p (Take m) ≡ step engine a line p (Take m)) × Stepped (step engine a line p (Take m))
    taken_same p m s h =
        let k : (position_after b line p m ≡ position_after a line p m) × Each (InLevel part) (position_after a line p m).levels = after_same line p m s h in (
          ap (λ (o : Option ParsingError). unless_refused o (Goes (scopes_passed engine b p.levels p.place m) (position_after b line p m))) (refusal_same m.pattern h)
              ∙ ap (λ (ss : List Scopes). unless_refused (refusal a m.pattern) (Goes ss (position_after b line p m))) (passed_same engine p.levels p.place m s h)
              ∙ ap (λ (q : Position). unless_refused (refusal a m.pattern) (Goes (scopes_passed engine a p.levels p.place m) q)) k.0,
          unless_in (refusal a m.pattern) (Goes (scopes_passed engine a p.levels p.place m) (position_after a line p m)) k.1,
        )

    step_same : (p : Position) (choice : Choice) → Each (InLevel part) p.levels → ((m : Live) → choice ≡ Take m → Leading part m.pattern)
        → (step engine b line p choice ≡ step engine a line p choice) × Stepped (step engine a line p choice)
    step_same p (Take m) s h = taken_same p m s (h m refl)
    step_same p Skip s h = (ap (λ (ss : Scopes). Goes (replicate (char_len line p.place) ss) (record p { place = p.place + char_len line p.place; idle = 0 })) (visible_same p.levels s), s)
    step_same p End s h = (ended_same p s, s)

    wins_in : (p : Position) (top : Level) (c : Context) → Each (InLevel part) p.levels → InLevel part top → AreIn part (option_to_list c.prototype)
        → (step engine b line p (winner line p (live engine line p (chain b p top c))) ≡ step engine a line p (winner line p (live engine line p (chain a p top c))))
        × Stepped (step engine a line p (winner line p (live engine line p (chain a p top c))))
    wins_in p top c s t h =
        let k : (step engine b line p (winner line p (live engine line p (chain a p top c))) ≡ step engine a line p (winner line p (live engine line p (chain a p top c))))
        × Stepped (step engine a line p (winner line p (live engine line p (chain a p top c))))
        = step_same p (winner line p (live engine line p (chain a p top c))) s (λ m e. wins-each (Leading part) engine line p (chain a p top c) m (each_as (LeadingMember part) (chain a p top c) (chain_in p top c s t.0 h)) e) in
        (ap (λ (ms : List Member). step engine b line p (winner line p (live engine line p ms))) (chain_same p top c s t.0 h) ∙ k.0, k.1)

    in_same : (p : Position) (top : Level) (o : Option Context) → Each (InLevel part) p.levels → InLevel part top → context_at a top.context ≡ o
        → (turn_in engine b line p top o ≡ turn_in engine a line p top o) × Stepped (turn_in engine a line p top o)
    in_same p top None s t e = (refl, tt)
    in_same p top (Some c) s t e =
        let i : StaysIn part c = closed top.context c t.0 e in
        let k : (step engine b line p (winner line p (live engine line p (chain b p top c))) ≡ step engine a line p (winner line p (live engine line p (chain a p top c))))
        × Stepped (step engine a line p (winner line p (live engine line p (chain a p top c)))) = wins_in p top c s t i.prototype in (
          ap (λ (o : Option ParsingError). unless_refused o (step engine b line p (winner line p (live engine line p (chain b p top c))))) (prototypes_same p c s i.prototype)
              ∙ ap (λ (x : Step). unless_refused (missing a (prototypes_in p c)) x) k.0,
          unless_in (missing a (prototypes_in p c)) (step engine a line p (winner line p (live engine line p (chain a p top c)))) k.1,
        )

    on_same : (p : Position) (o : Option Level) → Each (InLevel part) p.levels → last p.levels ≡ o
        → (turn_on engine b line p o ≡ turn_on engine a line p o) × Stepped (turn_on engine a line p o)
    on_same p None s e = (ended_same p s, s)
    on_same p (Some top) s e =
        let t : InLevel part top = last_of (InLevel part) p.levels top s e in
        let k : (turn_in engine b line p top (context_at a top.context) ≡ turn_in engine a line p top (context_at a top.context)) × Stepped (turn_in engine a line p top (context_at a top.context))
        = in_same p top (context_at a top.context) s t refl in
        (ap (λ (o : Option Context). turn_in engine b line p top o) (agree top.context t.0) ∙ k.0, k.1)

    pub turn_same : (p : Position) → Each (InLevel part) p.levels → (turn engine b line p ≡ turn engine a line p) × Stepped (turn engine a line p)
    unfolding turn
    turn_same p s = on_same (trimmed p) (last p.levels) s refl

    -- ---- a line ----

    pub reads_same : (p : Position) (bytes : List Scopes) (after : Standing) (n : ℕ) → Each (InLevel part) p.levels → Reads engine a line p bytes after n
        → Reads engine b line p bytes after n × StandsIn part after
    reads_same p bytes after n s (ends f) =
        let t : (turn engine b line p ≡ turn engine a line p) × Stepped (turn engine a line p) = turn_same p s in
        let i : StandsIn part after = rw f at t.1 in
        (ends (t.0 ∙ f), i)
    reads_same p bytes after n s (goes {q = q} {rest = rest} {n = m} f h) =
        let t : (turn engine b line p ≡ turn engine a line p) × Stepped (turn engine a line p) = turn_same p s in
        let i : Each (InLevel part) q.levels = rw f at t.1 in
        let k : Reads engine b line q rest after m × StandsIn part after = reads_same q rest after m i h in
        (goes (t.0 ∙ f) k.0, k.1)

    pub refuses_same : (p : Position) (e : ParsingError) (n : ℕ) → Each (InLevel part) p.levels → Refuses engine a line p e n → Refuses engine b line p e n
    refuses_same p e n s (now f) = now ((turn_same p s).0 ∙ f)
    refuses_same p e n s (later {q = q} {n = m} f h) =
        let t : (turn engine b line p ≡ turn engine a line p) × Stepped (turn engine a line p) = turn_same p s in
        let i : Each (InLevel part) q.levels = rw f at t.1 in
        later (t.0 ∙ f) (refuses_same q e m i h)

    line_refused : (state : Standing) (e : ParsingError) (n : ℕ) → StandsIn part state → RefusesLine engine a line state e n → RefusesLine engine b line state e n
    line_refused state e n s (no_level f) = no_level f
    line_refused state e n s (in_turn f h) = in_turn f (refuses_same (at_start state) e n s h)

    pub answers_same : (state next : Standing) (answer : Answer) → StandsIn part state → Answers engine a line state answer next → Answers engine b line state answer next × StandsIn part next
    answers_same state next answer s (accepts {bytes = bytes} {turns = n} h) =
        let k : Reads engine b line (at_start state) bytes next n × StandsIn part next = reads_same (at_start state) bytes next n s h.reads in
        (accepts (record { on_levels = h.on_levels; reads = k.0 }), k.1)
    answers_same state next answer s (refuses {e = e} {turns = n} h) = (refuses (line_refused state e n s h), s)

module _ (part : Part) (a b : SyntaxSet) (room : RoomIsNotFeltAt) (closed : IsClosedPart a part) (agree : AgreeOn part a b) (engine : Engine) where
  pub all_same : (lines : List (List ℕ)) (state after : Standing) (answers : List Answer) → StandsIn part state → AnswersAll engine a lines state answers after
      → AnswersAll engine b lines state answers after × StandsIn part after
  all_same lines state after answers s none = (none, s)
  all_same lines state after answers s (one_more {line = line} {lines = rest} {next = next} {answer = answer} {answers = others} h t) =
      let k : Answers engine b line state answer next × StandsIn part next = answers_same part a b room closed agree engine line state next answer s h in
      let r : AnswersAll engine b rest next others after × StandsIn part after = all_same rest next after others k.1 t in
      (one_more k.0 r.0, r.1)

-- what agrees with a closed part is closed
closed_too : (part : Part) (a b : SyntaxSet) → IsClosedPart a part → AgreeOn part a b → IsClosedPart b part
closed_too part a b closed agree id c i e = closed id c i (sym (agree id i) ∙ e)

pub closed_read_alike : ClosedReadAlike
closed_read_alike engine part a b lines state after answers closed agree s = (
  λ h. (all_same part a b room_is_not_felt_at closed agree engine lines state after answers s h).1,
  (
    λ h. (all_same part a b room_is_not_felt_at closed agree engine lines state after answers s h).0,
    λ h. (all_same part b a room_is_not_felt_at (closed_too part a b closed agree) (λ id i. sym (agree id i)) engine lines state after answers s h).0,
  ),
)
