-- The parts of a chain, each the patterns of one context, as the reader of a line keeps them.
use Rattle.std.specs.Prelude.{Bool, true, false, List, [], ◌∷◌, ◌++◌, map, Option, None}
use Rattle.std.specs.Option.{option_copied, option_to_list}
use Rattle.std.specs.List.{flat_map, filter_map}
use Rattle.syntect_reading_choice.specs.syntect_grammar_contexts.Substitution.{Opening}
use Rattle.syntect_reading_choice.specs.syntect_grammar_contexts.declared.context.Context.{Context}
use Rattle.syntect_reading_choice.specs.syntect_grammar_contexts.declared.context.ContextId.{ContextId}
use Rattle.syntect_reading_choice.specs.syntect_grammar_contexts.declared.context.MatchPattern.{MatchPattern}
use Rattle.syntect_reading_choice.specs.syntect_grammar.declared.syntax_set.SyntaxSet.{SyntaxSet}
use Rattle.syntect_reading_choice.specs.Chain.{Member, as_members, members, in_sight}
use Rattle.syntect_reading_choice.specs.syntect_grammar.Flats.{pattern_at}
use Rattle.syntect_reading_choice.specs.declared.level.Level.{Level}
use Rattle.syntect_reading_choice.specs.declared.chain.Part.{Part}
use Rattle.syntect_reading_choice.specs.syntect_grammar_lists.declared.flats.Flat.{Flat}
use Rattle.syntect_reading_choice.specs.declared.position.Position.{Position}

-- the context of a part, the opening match that its patterns are searched with, and whether it is
-- from a `with_prototype`
pub record Source : Type 0 where
  pub id : ContextId
  pub opening : Option Opening
  pub from_with_prototype : Bool

abbrev pub seen_part : Part → Source
seen_part part =
    record {
      id = part.id;
      opening = option_copied part.opening;
      from_with_prototype = part.from_with_prototype;
    }

-- the parts of these contexts
abbrev pub parts_by : Bool → Option Opening → List ContextId → List Source
parts_by from opening ids =
    map (λ id. record { id = id; opening = opening; from_with_prototype = from }) ids

-- those of a level's prototypes
abbrev pub level_parts : Level → List Source
level_parts l = parts_by true l.opening l.prototypes

-- all of them, in the order of the chain
abbrev pub parts_of : Position → Level → Context → List Source
parts_of p top context =
    flat_map level_parts (in_sight p) ++ parts_by false None (option_to_list context.prototype)
    ++ parts_by false top.opening (top.context ∷ [])

-- the members of the chain that a part stands for
abbrev pub source_members : SyntaxSet → Source → List Member
source_members set s = members set s.from_with_prototype s.opening s.id

abbrev pub part_members : SyntaxSet → Part → List Member
part_members set part = source_members set (seen_part part)

-- ---- For proofs and private functions alone ----

-- one of its patterns
abbrev pub part_member : Part → MatchPattern → Member
part_member part m =
    record {
      pattern = m;
      opening = option_copied part.opening;
      from_with_prototype = part.from_with_prototype;
    }

-- those of these patterns of it
abbrev pub flat_members : SyntaxSet → Part → List Flat → List Member
flat_members set part flats =
    as_members part.from_with_prototype (option_copied part.opening)
    (filter_map (pattern_at set) flats)
