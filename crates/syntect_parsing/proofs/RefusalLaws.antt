-- A text that begins in a context that is never left is refused at unresolved references alone.
use Rattle.std.proofs.Common.{◌≡◌, ◌≢◌, ℕ, zero, suc, ◌+◌, ◌-◌, Bool, true, false, List, [], ◌∷◌, ◌++◌, length, take, Option, Some, None, is_none, slice_get, unwrap_or, refl, ap, sym, ◌∙◌, subst, arith}
use Rattle.std.specs.List.{filter_map, flat_map, cons_option}
use Rattle.std.specs.Option.{option_map, option_map_or, option_to_list, option_and_then, option_or}
use Rattle.syntect_parsing.specs.syntect_grammar_contexts.Substitution.{Opening}
use Rattle.syntect_reading_choice.specs.Engine.{Engine}
use Rattle.syntect_parsing.specs.syntect_grammar.Contexts.{context_at, part_of}
use Rattle.syntect_parsing.specs.syntect_grammar_contexts.Contexts.{target}
use Rattle.syntect_reading_choice.specs.Chain.{Member, chain, last, patterns_of, members, in_sight, prototypes_in}
use Rattle.syntect_parsing.specs.Turn.{trimmed, levels_after, levels_by, opened, new_levels, without_last, position_after}
use Rattle.syntect_reading_choice.specs.Turn.{Live, Choice, Take, Skip, End, live, missing, named, refusal, list_of, winner}
use Rattle.syntect_parsing.specs.Scopes.{Scopes, scopes_passed}
use Rattle.syntect_parsing.specs.Line.{Step, Goes, Ends, Refused, turn, turn_on, turn_in, step, unless_refused, Reads, ends, goes, Refuses, now, later, Reaches, here, further, RefusesLine, no_level, in_turn, Answer, Answers, accepts, refuses, AnswersAll, none, one_more, at_start, start}
use Rattle.syntect_parsing.specs.Refusals.{Picks, NamesUnresolved, unresolved_of, IsClosed, IsNeverLeft, stays, lone_patterns, RefusesUnresolved}
use Rattle.syntect_parsing.proofs.EachLaws.{Each, each-append, each-flat_map, each_of, each-drop, each-take, each-all}
use Rattle.syntect_parsing.proofs.ClosedLaws.{Has, Knows, has_all, misses_none, chain-each, wins-each, members-each, closed_patterns}
use Rattle.syntect_parsing.specs.syntect_grammar_contexts.declared.context.ContextId.{ContextId}
use Rattle.syntect_parsing.specs.syntect_grammar_contexts.declared.context.ContextReference.{ContextReference}
use Rattle.syntect_parsing.specs.syntect_grammar_contexts.declared.context.MatchOperation.{MatchOperation}
use Rattle.syntect_parsing.specs.syntect_grammar_contexts.declared.context.MatchOperation.TheVariants as op
use Rattle.syntect_parsing.specs.syntect_grammar_contexts.declared.context.MatchPattern.{MatchPattern}
use Rattle.syntect_parsing.specs.syntect_grammar_contexts.declared.context.Context.{Context}
use Rattle.syntect_parsing.specs.syntect_grammar.declared.syntax_set.SyntaxSet.{SyntaxSet}
use Rattle.syntect_parsing.specs.States.{Standing}
use Rattle.syntect_reading_choice.specs.declared.level.Level.{Level}
use Rattle.syntect_reading_choice.specs.declared.position.Position.{Position}
use Rattle.syntect_parsing.specs.syntect_grammar_contexts.declared.error.ParsingError.{ParsingError}
use Rattle.syntect_parsing.specs.syntect_grammar_contexts.declared.error.ParsingError.TheVariants as error

-- ---- the levels that such a text has ----

-- the set has a level's context and prototypes
abbrev pub Known : SyntaxSet → Level → Type 0
Known set l = Each (Has set) (l.context ∷ l.prototypes)

-- the lowest level is that of the context and has no prototypes, and the set has all that the
-- levels name
pub record AreLevelsFrom (set : SyntaxSet) (id : ContextId) (levels : List Level) : Type 0 where
  pub first : Level
  pub rest : List Level
  pub are : levels ≡ first ∷ rest
  pub bottom : first.context ≡ id
  pub bare : first.prototypes ≡ []
  pub known : Each (Known set) levels

get_of : {X : Type 0} (P : X → Type 0) (xs : List X) (i : ℕ) (y : X) → Each P xs → slice_get xs i ≡ Some y → P y
get_of P [] i y e k = cc
get_of P (x ∷ xs) zero y e k = let f : x ≡ y = cc in rw (← f) e.0
get_of P (x ∷ xs) (suc i) y e k = get_of P xs i y e.1 k

-- the last of some is one of them
last_of : {X : Type 0} (P : X → Type 0) (xs : List X) (y : X) → Each P xs → last xs ≡ Some y → P y
last_of P xs y e k = get_of P xs (length xs - 1) y e k

without_more : {X : Type 0} (x y : X) (ys : List X) → without_last (x ∷ y ∷ ys) ≡ x ∷ without_last (y ∷ ys)
without_more x y ys =
    let k : length (x ∷ y ∷ ys) - 1 ≡ suc (length (y ∷ ys) - 1) = omega arith in
    ap (λ n. take n (x ∷ y ∷ ys)) k

module _ (set : SyntaxSet) (id : ContextId) where
  -- levels put on top
  stands-more : (levels new : List Level) → AreLevelsFrom set id levels → Each (Known set) new → AreLevelsFrom set id (levels ++ new)
  stands-more levels new s k = record {
    first = s.first;
    rest = s.rest ++ new;
    are = rw s.are refl;
    bottom = s.bottom;
    bare = s.bare;
    known = each-append (Known set) levels new s.known k;
  }

  -- the top level taken off where there is another
  stands-less : (first next : Level) (rest : List Level) → AreLevelsFrom set id (first ∷ next ∷ rest) → AreLevelsFrom set id (without_last (first ∷ next ∷ rest))
  stands-less first next rest s =
      let k : s.first ∷ s.rest ≡ first ∷ next ∷ rest = sym s.are in
      let i : s.first ≡ first = cc in
      record {
        first = first;
        rest = without_last (next ∷ rest);
        are = without_more first next rest;
        bottom = rw i at s.bottom;
        bare = rw i at s.bare;
        known = each-take (Known set) (length (first ∷ next ∷ rest) - 1) (first ∷ next ∷ rest) s.known;
      }

  new-known : (o : Opening) (ids kept : List ContextId) (with_prototype : Option ContextId) → Each (Has set) ids → Each (Has set) kept → Each (Has set) (option_to_list with_prototype)
      → Each (Known set) (new_levels set o kept with_prototype ids)
  new-known o [] kept w h k p = tt
  new-known o (x ∷ []) kept w h k p = ((h.0, each-append (Has set) kept (option_to_list w) k p), tt)
  new-known o (x ∷ y ∷ ids) kept w h k p = ((h.0, k), new-known o (y ∷ ids) [] w h.1 tt p)

  -- a list's targets and that of a `with_prototype`
  prototype_known : (o : Option ContextId) → Each (Has set) (cons_option o []) → Each (Has set) (option_to_list o)
  prototype_known None h = tt
  prototype_known (Some x) h = h

  target_known : (o : Option ContextId) (xs ys zs : List ContextId) → (Each (Has set) xs → Each (Has set) ys × Each (Has set) zs) → Each (Has set) (cons_option o xs) → Each (Has set) (cons_option o ys) × Each (Has set) zs
  target_known None xs ys zs f h = f h
  target_known (Some x) xs ys zs f h = let k : Each (Has set) ys × Each (Has set) zs = f h.1 in ((h.0, k.0), k.1)

  targets_known : (refs : List ContextReference) (w : Option ContextReference) → Each (Has set) (filter_map target (refs ++ option_to_list w)) → Each (Has set) (filter_map target refs) × Each (Has set) (option_to_list (option_and_then target w))
  targets_known [] None h = (tt, tt)
  targets_known [] (Some r) h = (tt, prototype_known (target r) h)
  targets_known (r ∷ refs) w h =
      target_known (target r) (filter_map target (refs ++ option_to_list w)) (filter_map target refs) (option_to_list (option_and_then target w)) (targets_known refs w) h

  pub less : (levels : List Level) → AreLevelsFrom set id levels → ((x : Level) → levels ≡ x ∷ [] → ⊥) → AreLevelsFrom set id (without_last levels)
  less [] s h = absurd (no_list s.are)
    where
      no_list : {x : Level} {xs : List Level} → [] ≡ x ∷ xs → ⊥
      no_list e = cc
  less (x ∷ []) s h = absurd (h x refl)
  less (x ∷ y ∷ rest) s h = stands-less x y rest s

  kept_known : (levels : List Level) (o : Option Level) → last levels ≡ o → Each (Known set) levels → Each (Has set) (option_map_or (λ (l : Level). l.prototypes) o [])
  kept_known levels None e k = tt
  kept_known levels (Some l) e k = let h : Known set l = last_of (Known set) levels l k e in h.1

  pub not_so : (b : Bool) → b ≡ false → b ≡ true → ⊥
  not_so b e f = cc

  levels-kept : (line : List ℕ) (levels : List Level) (m : Live) (o : MatchOperation) → AreLevelsFrom set id levels
      → Each (Has set) (filter_map target (option_map_or (λ (refs : List ContextReference). refs ++ option_to_list m.pattern.with_prototype) (list_of o) []))
      → ((x : Level) → levels ≡ x ∷ [] → stays o ≡ true) → AreLevelsFrom set id (levels_by set line levels m o)
  levels-kept line levels m (op.Push refs) s k h =
      let t : Each (Has set) (filter_map target refs) × Each (Has set) (option_to_list (option_and_then target m.pattern.with_prototype)) = targets_known refs m.pattern.with_prototype k in
      stands-more levels (opened set line m [] refs) s (new-known (record { region = m.groups; line = line }) (filter_map target refs) [] (option_and_then target m.pattern.with_prototype) t.0 tt t.1)
  levels-kept line levels m (op.Set refs) s k h =
      let t : Each (Has set) (filter_map target refs) × Each (Has set) (option_to_list (option_and_then target m.pattern.with_prototype)) = targets_known refs m.pattern.with_prototype k in
      stands-more (without_last levels) (opened set line m (option_map_or (λ (l : Level). l.prototypes) (last levels) []) refs) (less levels s (λ x e. not_so false refl (h x e)))
      (new-known (record { region = m.groups; line = line }) (filter_map target refs) (option_map_or (λ (l : Level). l.prototypes) (last levels) []) (option_and_then target m.pattern.with_prototype) t.0 (kept_known levels (last levels) refl s.known) t.1)
  levels-kept line levels m op.Pop s k h = less levels s (λ x e. not_so false refl (h x e))
  levels-kept line levels m op.None s k h = s

-- ---- what is looked at where one level is left ----

each-left : {A : Type 0} (P : A → Type 0) (xs ys : List A) → Each P (xs ++ ys) → Each P xs × Each P ys
each-left P [] ys e = (tt, e)
each-left P (x ∷ xs) ys e = let k : Each P xs × Each P ys = each-left P xs ys e.1 in ((e.0, k.0), k.1)

each-flat : {A B : Type 0} (P : B → Type 0) (f : A → List B) (xs : List A) → Each P (flat_map f xs) → Each (λ x. Each P (f x)) xs
each-flat P f [] e = tt
each-flat P f (x ∷ xs) e = let k : Each P (f x) × Each P (flat_map f xs) = each-left P (f x) (flat_map f xs) e in (k.0, each-flat P f xs k.1)

abbrev Stays : MatchPattern → Type 0
Stays m = stays m.operation ≡ true

abbrev StaysMember : Member → Type 0
StaysMember m = Stays m.pattern

bare_members : (set : SyntaxSet) (l : Level) (ids : List ContextId) → ids ≡ [] → Each StaysMember (flat_map (members set true l.opening) ids)
bare_members set l ids e = rw e tt

lone-chain : (set : SyntaxSet) (p : Position) (top : Level) (c : Context) → IsNeverLeft set top.context → context_at set top.context ≡ Some c → Each (λ (l : Level). l.prototypes ≡ []) p.levels → Each StaysMember (chain set p top c)
lone-chain set p top c n e b =
    let all : Each Stays (lone_patterns set top.context) = each-all (λ m. stays m.operation) (lone_patterns set top.context) n.stay in
    let two : Each Stays (flat_map (λ q. patterns_of set q) (part_of (λ c. option_to_list c.prototype) set top.context)) × Each Stays (patterns_of set top.context)
    = each-left Stays (flat_map (λ q. patterns_of set q) (part_of (λ c. option_to_list c.prototype) set top.context)) (patterns_of set top.context) all in
    let own : Each Stays (flat_map (λ q. patterns_of set q) (option_to_list c.prototype)) = rw e at two.0 in
    let each : Each (λ q. Each Stays (patterns_of set q)) (option_to_list c.prototype) = each-flat Stays (λ q. patterns_of set q) (option_to_list c.prototype) own in
    each-append StaysMember _ (members set false top.opening top.context)
    (each-append StaysMember (flat_map (λ l. flat_map (members set true l.opening) l.prototypes) (in_sight p)) (flat_map (members set false None) (option_to_list c.prototype))
    (each-flat_map StaysMember (λ l. flat_map (members set true l.opening) l.prototypes) (in_sight p)
    (each_of (λ (l : Level). l.prototypes ≡ []) _ (in_sight p) (λ l k. bare_members set l l.prototypes k) (each-drop (λ (l : Level). l.prototypes ≡ []) (unwrap_or (last p.cuts) 0) p.levels b)))
    (each-flat_map StaysMember (members set false None) (option_to_list c.prototype)
    (each_of (λ q. Each Stays (patterns_of set q)) _ (option_to_list c.prototype) (λ q k. members-each Stays set false None q k) each)))
    (members-each Stays set false top.opening top.context two.1)

-- ---- a turn ----

module _ (engine : Engine) (set : SyntaxSet) (id : ContextId) (closed : IsClosed set) (left : IsNeverLeft set id) (line : List ℕ) where
  abbrev pub Unresolves : Position → ParsingError → Type 0
  Unresolves p e = (r : ContextReference) × (e ≡ error.UnresolvedContextReference r) × (m : Live) × Picks engine set line p m × (unresolved_of m.pattern ≡ Some r)

  abbrev pub Stepped : Position → Step → Type 0
  Stepped p (Goes bytes q) = AreLevelsFrom set id q.levels
  Stepped p (Ends bytes after) = AreLevelsFrom set id after.levels
  Stepped p (Refused e) = Unresolves p e

  only_one : (first top x : Level) (levels rest : List Level) → levels ≡ first ∷ rest → levels ≡ x ∷ [] → last levels ≡ Some top → (first ≡ top) × (x ≡ top)
  only_one first top x levels rest e f g =
      let k : first ∷ rest ≡ x ∷ [] = sym e ∙ f in
      let i : first ≡ x = cc in
      let h : last (x ∷ []) ≡ Some top = rw f at g in
      let j : x ≡ top = cc in
      (i ∙ j, j)

  pub stay_there : (p : Position) (top : Level) (c : Context) (m : Live) → AreLevelsFrom set id p.levels → last p.levels ≡ Some top → context_at set top.context ≡ Some c
      → winner line (trimmed p) (live engine line (trimmed p) (chain set (trimmed p) top c)) ≡ Take m → (x : Level) → p.levels ≡ x ∷ [] → stays m.pattern.operation ≡ true
  stay_there p top c m s e f w = λ x g.
      let o : (s.first ≡ top) × (x ≡ top) = only_one s.first top x p.levels s.rest s.are g e in
      let i : id ≡ top.context = sym s.bottom ∙ ap (λ (l : Level). l.context) o.0 in
      let b : top.prototypes ≡ [] = sym (ap (λ (l : Level). l.prototypes) o.0) ∙ s.bare in
      let bare : Each (λ (l : Level). l.prototypes ≡ []) (top ∷ []) = (b, tt) in
      let g2 : p.levels ≡ top ∷ [] = g ∙ ap (λ (l : Level). l ∷ []) o.1 in
      wins-each Stays engine line (trimmed p) (chain set (trimmed p) top c) m (lone-chain set (trimmed p) top c (rw i at left) f (subst (λ (ls : List Level). Each (λ (l : Level). l.prototypes ≡ []) ls) (sym g2) bare)) w

  prototypes_known : (p : Position) (top : Level) (c : Context) → AreLevelsFrom set id p.levels → context_at set top.context ≡ Some c → missing set (prototypes_in (trimmed p) c) ≡ None
  prototypes_known p top c s f =
      misses_none set (prototypes_in (trimmed p) c)
      (each-append (Has set) (flat_map (λ (l : Level). l.prototypes) (in_sight (trimmed p))) (option_to_list c.prototype)
      (each-flat_map (Has set) (λ (l : Level). l.prototypes) (in_sight (trimmed p)) (each_of (Known set) _ (in_sight (trimmed p)) (λ l k. k.1) (each-drop (Known set) (unwrap_or (last (trimmed p).cuts) 0) p.levels s.known)))
      (has_all set (option_to_list c.prototype) (closed.prototypes top.context c f)))

  refused_or : (m : MatchPattern) (o : Option ContextReference) → unresolved_of m ≡ o → Each (Has set) (filter_map target (named m)) → refusal set m ≡ option_map error.UnresolvedContextReference o
  refused_or m None e k = rw (e, misses_none set (filter_map target (named m)) k) refl
  refused_or m (Some r) e k = rw e refl

  took : (p : Position) (top : Level) (c : Context) (m : Live) → AreLevelsFrom set id p.levels → last p.levels ≡ Some top → context_at set top.context ≡ Some c
      → winner line (trimmed p) (live engine line (trimmed p) (chain set (trimmed p) top c)) ≡ Take m → (q : Position) (bytes : List Scopes) → q.levels ≡ levels_after set line p.levels m
      → (o : Option ContextReference) → unresolved_of m.pattern ≡ o → Stepped p (unless_refused (option_map error.UnresolvedContextReference o) (Goes bytes q))
  took p top c m s e f w q bytes l None u =
      let k : Knows set m.pattern = wins-each (Knows set) engine line (trimmed p) (chain set (trimmed p) top c) m (chain-each (Knows set) set (trimmed p) top c (closed_patterns set closed)) w in
      rw l (levels-kept set id line p.levels m m.pattern.operation s k (stay_there p top c m s e f w))
  took p top c m s e f w q bytes l (Some r) u = (r, refl, m, record { top = top; context = c; on_top = e; has_context = f; wins = w }, u)

  stepped : (p : Position) (top : Level) (c : Context) (choice : Choice) → AreLevelsFrom set id p.levels → last p.levels ≡ Some top → context_at set top.context ≡ Some c
      → winner line (trimmed p) (live engine line (trimmed p) (chain set (trimmed p) top c)) ≡ choice → Stepped p (step engine set line (trimmed p) choice)
  stepped p top c (Take m) s e f w =
      let k : Knows set m.pattern = wins-each (Knows set) engine line (trimmed p) (chain set (trimmed p) top c) m (chain-each (Knows set) set (trimmed p) top c (closed_patterns set closed)) w in
      rw (refused_or m.pattern (unresolved_of m.pattern) refl k)
      (took p top c m s e f w (position_after set line (trimmed p) m) (scopes_passed engine set p.levels p.place m) refl (unresolved_of m.pattern) refl)
  stepped p top c Skip s e f w = s
  stepped p top c End s e f w = s

  turned_in : (p : Position) (top : Level) (o : Option Context) → AreLevelsFrom set id p.levels → last p.levels ≡ Some top → context_at set top.context ≡ o → Stepped p (turn_in engine set line (trimmed p) top o)
  turned_in p top None s e f =
      let k : Known set top = last_of (Known set) p.levels top s.known e in
      let h : is_none (context_at set top.context) ≡ true = rw f refl in
      absurd (not_so set id (is_none (context_at set top.context)) k.0 h)
  turned_in p top (Some c) s e f =
      rw (prototypes_known p top c s f) (stepped p top c (winner line (trimmed p) (live engine line (trimmed p) (chain set (trimmed p) top c))) s e f refl)

  turned_on : (p : Position) (o : Option Level) → AreLevelsFrom set id p.levels → last p.levels ≡ o → Stepped p (turn_on engine set line (trimmed p) o)
  turned_on p None s e = s
  turned_on p (Some top) s e = turned_in p top (context_at set top.context) s e refl

  pub turned : (p : Position) → AreLevelsFrom set id p.levels → Stepped p (turn engine set line p)
  unfolding turn
  turned p s = turned_on p (last p.levels) s refl

  -- ---- a line ----

  abbrev Came : Position → ParsingError → Type 0
  Came p e = (r : ContextReference) × (e ≡ error.UnresolvedContextReference r) × (q : Position) × Reaches engine set line p q × (m : Live) × Picks engine set line q m × (unresolved_of m.pattern ≡ Some r)

  came : (p : Position) (e : ParsingError) (n : ℕ) → AreLevelsFrom set id p.levels → Refuses engine set line p e n → Came p e
  came p e n s (now f) = let k : Unresolves p e = rw f at (turned p s) in (k.0, k.1, p, here, k.2, k.3, k.4)
  came p e n s (later {q = q} {bytes = bytes} {n = i} f h) =
      let t : AreLevelsFrom set id q.levels = rw f at (turned p s) in
      let k : Came q e = came q e i t h in
      (k.0, k.1, k.2, further f k.3, k.4, k.5, k.6)

  pub read_so : (p : Position) (bytes : List Scopes) (after : Standing) (n : ℕ) → AreLevelsFrom set id p.levels → Reads engine set line p bytes after n → AreLevelsFrom set id after.levels
  read_so p bytes after n s (ends f) = rw f at (turned p s)
  read_so p bytes after n s (goes {q = q} {rest = rest} {n = i} f h) = let t : AreLevelsFrom set id q.levels = rw f at (turned p s) in read_so q rest after i t h

  reached_so : (p q : Position) → AreLevelsFrom set id p.levels → Reaches engine set line p q → AreLevelsFrom set id q.levels
  reached_so p q s here = s
  reached_so p q s (further {q = x} f h) = let t : AreLevelsFrom set id x.levels = rw f at (turned p s) in reached_so x q t h

  refused_there : (p q : Position) (e : ParsingError) → Reaches engine set line p q → turn engine set line q ≡ Refused e → (n : ℕ) × Refuses engine set line p e n
  refused_there p q e here f = (1, now f)
  refused_there p q e (further {q = x} g h) f = let k : (n : ℕ) × Refuses engine set line x e n = refused_there x q e h f in (k.0 + 1, later g k.1)

  picked_refused : (q : Position) (m : Live) (r : ContextReference) → AreLevelsFrom set id q.levels → Picks engine set line q m → unresolved_of m.pattern ≡ Some r → turn engine set line q ≡ Refused (error.UnresolvedContextReference r)
  unfolding turn
  picked_refused q m r s k u =
      ap (turn_on engine set line (trimmed q)) k.on_top ∙ ap (turn_in engine set line (trimmed q) k.top) k.has_context
      ∙ ap (λ o. unless_refused o (step engine set line (trimmed q) (winner line (trimmed q) (live engine line (trimmed q) (chain set (trimmed q) k.top k.context))))) (prototypes_known q k.top k.context s k.has_context)
      ∙ ap (step engine set line (trimmed q)) k.wins
      ∙ ap (λ o. unless_refused (option_or (option_map error.UnresolvedContextReference o) (missing set (filter_map target (named m.pattern)))) (Goes (scopes_passed engine set q.levels q.place m) (position_after set line (trimmed q) m))) u

some_levels : (set : SyntaxSet) (id : ContextId) (levels : List Level) → AreLevelsFrom set id levels → levels ≢ []
some_levels set id levels s e = let k : s.first ∷ s.rest ≡ [] = sym s.are ∙ e in cc

answered_so : (engine : Engine) (set : SyntaxSet) (id : ContextId) → IsClosed set → IsNeverLeft set id → (lines : List (List ℕ)) (state after : Standing) (answers : List Answer)
    → AreLevelsFrom set id state.levels → AnswersAll engine set lines state answers after → AreLevelsFrom set id after.levels
answered_so engine set id c l lines state after answers s none = s
answered_so engine set id c l lines state after answers s (one_more {line = line} {lines = rest} {next = next} {answer = answer} {answers = others} a r) =
    answered_so engine set id c l rest next after others (one state next answer line s a) r
  where
    one : (state next : Standing) (answer : Answer) (line : List ℕ) → AreLevelsFrom set id state.levels → Answers engine set line state answer next → AreLevelsFrom set id next.levels
    one state next answer line s (accepts {bytes = bytes} {turns = n} h) = read_so engine set id c l line (at_start state) bytes next n s h.reads
    one state next answer line s (refuses h) = s

pub starts_so : (set : SyntaxSet) (id : ContextId) → IsNeverLeft set id → AreLevelsFrom set id (start id).levels
starts_so set id n = record {
  first = record { context = id; prototypes = []; opening = None };
  rest = [];
  are = refl;
  bottom = refl;
  bare = refl;
  known = ((n.there, tt), tt);
}

pub refuses_unresolved : RefusesUnresolved
refuses_unresolved engine set id lines answers state line c l run =
    let s : AreLevelsFrom set id state.levels = answered_so engine set id c l lines (start id) state answers (starts_so set id l) run in (
      λ e n h. refused_line e n s h,
      λ r k. (
          let t : AreLevelsFrom set id k.at.levels = reached_so engine set id c l line (at_start state) k.at s k.reached in
          let x : (n : ℕ) × Refuses engine set line (at_start state) (error.UnresolvedContextReference r) n
          = refused_there engine set id c l line (at_start state) k.at (error.UnresolvedContextReference r) k.reached (picked_refused engine set id c l line k.at k.picked r t k.picks k.names) in
          (x.0, in_turn (some_levels set id state.levels s) x.1)
          ),
    )
  where
    refused_line : (e : ParsingError) (n : ℕ) → AreLevelsFrom set id state.levels → RefusesLine engine set line state e n → NamesUnresolved engine set line state e
    refused_line e n s (no_level f) = absurd (some_levels set id state.levels s f)
    refused_line e n s (in_turn f h) =
        let k : Came engine set id c l line (at_start state) e = came engine set id c l line (at_start state) e n s h in
        (k.0, k.1, record { at = k.2; reached = k.3; picked = k.4; picks = k.5; names = k.6 })
