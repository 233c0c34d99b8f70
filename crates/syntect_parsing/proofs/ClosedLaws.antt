-- Sets in which no reference leads out: what stands in their chains and levels.
use Rattle.std.proofs.Common.{◌≡◌, ℕ, zero, suc, Bool, true, false, not, ◌&&◌, List, [], ◌∷◌, ◌++◌, length, find, Option, Some, None, is_none, refl, ap, if◌then◌else◌}
use Rattle.std.specs.List.{filter_map, flat_map, list_any}
use Rattle.std.specs.Option.{option_map, option_to_list}
use Rattle.syntect_reading_choice.specs.Engine.{Engine}
use Rattle.syntect_parsing.specs.syntect_grammar_contexts.Substitution.{Groups, Opening}
use Rattle.syntect_parsing.specs.syntect_grammar.Contexts.{context_at}
use Rattle.syntect_parsing.specs.syntect_grammar_contexts.Contexts.{target, is_same}
use Rattle.syntect_reading_choice.specs.Chain.{Member, chain, entries, patterns_of, walk, walk_patterns, included, members, in_sight, room_in}
use Rattle.syntect_reading_choice.specs.Turn.{Live, Take, Skip, End, live, live_match, matched, counted, counts, group_at, missing, named, searched_text, winner, choice_of, is_least, loops}
use Rattle.syntect_parsing.specs.Refusals.{NamesKnown, IsClosed}
use Rattle.syntect_parsing.proofs.EachLaws.{Each, each-append, each-flat_map, each-map, each_always, each-filter_map, each-find, find-each, each-find_none}
use Rattle.syntect_parsing.specs.syntect_grammar_contexts.declared.context.ContextId.{ContextId}
use Rattle.syntect_parsing.specs.syntect_grammar_contexts.declared.context.MatchPattern.{MatchPattern}
use Rattle.syntect_parsing.specs.syntect_grammar_contexts.declared.context.Pattern.{Pattern}
use Rattle.syntect_parsing.specs.syntect_grammar_contexts.declared.context.Pattern.TheVariants.{Match, Include}
use Rattle.syntect_parsing.specs.syntect_grammar_contexts.declared.context.Context.{Context}
use Rattle.syntect_parsing.specs.syntect_grammar.declared.syntax_set.SyntaxSet.{SyntaxSet}
use Rattle.syntect_reading_choice.specs.declared.level.Level.{Level}
use Rattle.syntect_reading_choice.specs.declared.position.Position.{Position}
use Rattle.syntect_parsing.specs.syntect_grammar_contexts.declared.error.ParsingError.TheVariants as error

-- the set has the context
abbrev pub Has : SyntaxSet → ContextId → Type 0
Has set id = is_none (context_at set id) ≡ false

-- each context that a match names is there
abbrev pub Knows : SyntaxSet → MatchPattern → Type 0
Knows set m = Each (Has set) (filter_map target (named m))

unmapped : {A B : Type 0} (f : A → B) (o : Option A) → option_map f o ≡ None → o ≡ None
unmapped f None e = refl
unmapped f (Some x) e = cc

pub has_all : (set : SyntaxSet) (ids : List ContextId) → missing set ids ≡ None → Each (Has set) ids
has_all set ids e = each-find_none (λ id. is_none (context_at set id)) ids (unmapped error.MissingContext (find (λ id. is_none (context_at set id)) ids) e)

pub misses_none : (set : SyntaxSet) (ids : List ContextId) → Each (Has set) ids → missing set ids ≡ None
misses_none set ids e = ap (option_map error.MissingContext) (find-each (λ id. is_none (context_at set id)) ids e)

-- ---- what is of a walk ----

module _ (P : MatchPattern → Type 0) where
  -- the entries' own matches
  abbrev pub Own : List Pattern → Type 0
  Own [] = Unit {0}
  Own (Match m ∷ ps) = P m × Own ps
  Own (Include r ∷ ps) = Own ps

  included-each : (inner : ContextId → List MatchPattern) (path : List ContextId) (o : Option ContextId) → ((id : ContextId) → Each P (inner id)) → Each P (included inner path o)
  included-each inner path None h = tt
  included-each inner path (Some id) h = by (list_any (is_same id) path)
    where
      by : (b : Bool) → Each P (if b then [] else inner id)
      by true = tt
      by false = h id

  walk_patterns-each : (inner : ContextId → List MatchPattern) (path : List ContextId) (ps : List Pattern) → ((id : ContextId) → Each P (inner id)) → Own ps → Each P (walk_patterns inner path ps)
  walk_patterns-each inner path [] h o = tt
  walk_patterns-each inner path (Match m ∷ ps) h o = (o.0, walk_patterns-each inner path ps h o.1)
  walk_patterns-each inner path (Include r ∷ ps) h o =
      each-append P (included inner path (target r)) (walk_patterns inner path ps) (included-each inner path (target r) h) (walk_patterns-each inner path ps h o)

  walk-each : (room : ℕ) (set : SyntaxSet) (path : List ContextId) (ps : List Pattern) → ((id : ContextId) → Own (entries set id)) → Own ps → Each P (walk room set path ps)
  walk-each zero set path ps h o = tt
  walk-each (suc room) set path ps h o =
      walk_patterns-each (λ id. walk room set (path ++ id ∷ []) (entries set id)) path ps (λ id. walk-each room set (path ++ id ∷ []) (entries set id) h (h id)) o

  pub patterns-each : (set : SyntaxSet) (id : ContextId) → ((id : ContextId) → Own (entries set id)) → Each P (patterns_of set id)
  patterns-each set id h = walk-each (room_in set) set (id ∷ []) (entries set id) h (h id)

  abbrev pub OfMember : Member → Type 0
  OfMember m = P m.pattern

  -- as members of a chain
  pub members-each : (set : SyntaxSet) (from : Bool) (opening : Option Opening) (id : ContextId) → Each P (patterns_of set id) → Each OfMember (members set from opening id)
  members-each set from opening id e = each-map OfMember (λ m. record { pattern = m; opening = opening; from_with_prototype = from }) (patterns_of set id) e

  pub chain-each : (set : SyntaxSet) (p : Position) (top : Level) (c : Context) → ((id : ContextId) → Each P (patterns_of set id)) → Each OfMember (chain set p top c)
  chain-each set p top c h =
      each-append OfMember _ (members set false top.opening top.context)
      (each-append OfMember (flat_map (λ l. flat_map (members set true l.opening) l.prototypes) (in_sight p)) (flat_map (members set false None) (option_to_list c.prototype))
      (each-flat_map OfMember (λ l. flat_map (members set true l.opening) l.prototypes) (in_sight p)
      (each_always _ (in_sight p) (λ l. each-flat_map OfMember (members set true l.opening) l.prototypes (each_always _ l.prototypes (λ id. members-each set true l.opening id (h id))))))
      (each-flat_map OfMember (members set false None) (option_to_list c.prototype) (each_always _ (option_to_list c.prototype) (λ id. members-each set false None id (h id)))))
      (members-each set false top.opening top.context (h top.context))

  -- ---- what is of the winner ----

  counted_if : (b : Bool) (m : Member) (made l : Live) → P made.pattern → (if b then Some made else None) ≡ Some l → P l.pattern
  counted_if true m made l h e = let k : made ≡ l = cc in rw (← k) h
  counted_if false m made l h e = cc

  counted-each : (height : ℕ) (m : Member) (text : List ℕ) (groups : Groups) (o : Option (ℕ × ℕ)) (l : Live) → P m.pattern → counted height m text groups o ≡ Some l → P l.pattern
  counted-each height m text groups None l h e = cc
  counted-each height m text groups (Some at) l h e =
      counted_if (counts height m.pattern.operation at.0 at.1) m (record { pattern = m.pattern; from_with_prototype = m.from_with_prototype; searched = text; groups = groups; start = at.0; end = at.1 }) l h e

  matched-each : (height : ℕ) (m : Member) (text : List ℕ) (o : Option Groups) (l : Live) → P m.pattern → matched height m text o ≡ Some l → P l.pattern
  matched-each height m text None l h e = cc
  matched-each height m text (Some groups) l h e = counted-each height m text groups (group_at groups 0) l h e

  live-each : (engine : Engine) (line : List ℕ) (p : Position) (ms : List Member) → Each OfMember ms → Each (λ (l : Live). P l.pattern) (live engine line p ms)
  live-each engine line p ms e = each-filter_map OfMember (λ (l : Live). P l.pattern) (live_match engine (length p.levels) line p.place) ms
      (λ m l h k. matched-each (length p.levels) m (searched_text engine m.pattern m.opening) (engine.found (searched_text engine m.pattern m.opening) line p.place) l h k) e

  taken : (line : List ℕ) (place : ℕ) (ms : List Live) (o : Option Live) (m : Live) → choice_of line place ms o ≡ Take m → o ≡ Some m
  taken line place ms (Some l) m e = let k : l ≡ m = cc in ap Some k
  taken line place [] None m e = cc
  taken line place (l ∷ ms) None m e = by _ e
    where
      by : (b : Bool) → (if b then Skip else End) ≡ Take m → None ≡ Some m
      by true e = cc
      by false e = cc

  -- the match that wins is of the chain
  pub wins-each : (engine : Engine) (line : List ℕ) (p : Position) (ms : List Member) (m : Live) → Each OfMember ms → winner line p (live engine line p ms) ≡ Take m → P m.pattern
  wins-each engine line p ms m e k =
      each-find (λ (l : Live). P l.pattern) (λ l. is_least (live engine line p ms) l && not (loops p l)) (live engine line p ms) m (live-each engine line p ms e)
      (taken line p.place (live engine line p ms) (find (λ l. is_least (live engine line p ms) l && not (loops p l)) (live engine line p ms)) m k)

-- ---- in a closed set ----

own_known : (set : SyntaxSet) (ps : List Pattern) → NamesKnown set ps → Own (Knows set) ps
own_known set [] h = tt
own_known set (Match m ∷ ps) h = (has_all set (filter_map target (named m)) h.0, own_known set ps h.1)
own_known set (Include r ∷ ps) h = own_known set ps h

entries_known : (set : SyntaxSet) (id : ContextId) (o : Option Context) → context_at set id ≡ o → IsClosed set → Own (Knows set) (entries set id)
entries_known set id None e h = rw e tt
entries_known set id (Some c) e h = rw e (own_known set c.patterns (h.names id c e))

pub closed_patterns : (set : SyntaxSet) → IsClosed set → (id : ContextId) → Each (Knows set) (patterns_of set id)
closed_patterns set h id = patterns-each (Knows set) set id (λ id. entries_known set id (context_at set id) refl h)
