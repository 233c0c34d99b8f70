-- Which patterns a turn looks at, in which order.
pub use Rattle.syntect_reading_choice.specs.syntect_grammar.Patterns.{entries, included, walk_patterns, walk, room_in, patterns_in, patterns_of, GivesNothing, unresolved, lacking, around, Walks, ended, own, passed_over, followed}
pub use Rattle.syntect_reading_choice.specs.syntect_grammar_contexts.Contexts.{count_contexts}
use Rattle.std.specs.Prelude.{◌-◌, Bool, true, false, List, [], ◌++◌, length, drop, map, Option, None, slice_get, unwrap_or}
use Rattle.std.specs.Option.{option_map_or, option_to_list}
use Rattle.std.specs.List.{flat_map}
use Rattle.syntect_reading_choice.specs.syntect_grammar_contexts.Substitution.{Opening}
use Rattle.syntect_reading_choice.specs.declared.position.Position.{Position}
use Rattle.syntect_reading_choice.specs.syntect_grammar_contexts.declared.context.ContextId.{ContextId}
use Rattle.syntect_reading_choice.specs.syntect_grammar_contexts.declared.context.MatchPattern.{MatchPattern}
use Rattle.syntect_reading_choice.specs.syntect_grammar_contexts.declared.context.Context.{Context}
use Rattle.syntect_reading_choice.specs.syntect_grammar.Contexts.{context_at}
use Rattle.syntect_reading_choice.specs.syntect_grammar.declared.syntax_set.SyntaxSet.{SyntaxSet}
use Rattle.syntect_reading_choice.specs.declared.level.Level.{Level}

-- ---- the chain of a turn ----

-- a pattern of the chain, with the opening match that it is searched with,
-- and whether it is from a `with_prototype`
pub record Member : Type 0 where
  pub pattern : MatchPattern
  pub opening : Option Opening
  pub from_with_prototype : Bool

-- patterns as members of a chain
abbrev pub as_members : Bool → Option Opening → List MatchPattern → List Member
as_members from opening ms =
    map (λ m. record { pattern = m; opening = opening; from_with_prototype = from }) ms

-- those of a context
abbrev pub members : SyntaxSet → Bool → Option Opening → ContextId → List Member
members set from opening id = as_members from opening (patterns_of set id)

-- the last member of a list, if there is one
abbrev pub last : {X : Type 0} → List X → Option X
last xs = slice_get xs (length xs - 1)

-- the levels whose prototypes are looked at: those from the last cut on
abbrev pub in_sight : Position → List Level
in_sight p = drop (unwrap_or (last p.cuts) 0) p.levels

-- Three parts after one another: what the levels in sight brought as prototypes, lowest level first
-- and tied to its opening match; the prototype of the top context, tied to none; and that context
-- itself, tied to the top level's.
abbrev pub chain : SyntaxSet → Position → Level → Context → List Member
chain set p top context =
    flat_map (λ l. flat_map (members set true l.opening) l.prototypes) (in_sight p)
    ++ flat_map (members set false None) (option_to_list context.prototype)
    ++ members set false top.opening top.context

-- the chain of a turn at a position; nothing where no context is open, or the set lacks the top one
abbrev pub chain_at : SyntaxSet → Position → List Member
chain_at set p =
    option_map_or (λ top. option_map_or (chain set p top) (context_at set top.context) [])
    (last p.levels) []

-- the prototypes of the chain, in its order
abbrev pub prototypes_in : Position → Context → List ContextId
prototypes_in p context =
    flat_map (λ l. l.prototypes) (in_sight p) ++ option_to_list context.prototype
