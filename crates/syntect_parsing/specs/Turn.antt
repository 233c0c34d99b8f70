-- What the match that a turn takes leaves.
pub use Rattle.syntect_parsing.specs.syntect_grammar_contexts.Contexts.{list_of, named}
pub use Rattle.syntect_parsing.specs.syntect_reading_state.Names.{unresolved, missing, refusal}
use Rattle.std.specs.Prelude.{ℕ, ◌==◌, nat_lt, ◌+◌, ◌-◌, Bool, false, List, [], ◌∷◌, ◌++◌, length, take, filter, Option, Some, None, if◌then◌else◌}
use Rattle.std.specs.Option.{option_map_or, option_and_then, option_to_list}
use Rattle.std.specs.List.{filter_map, list_any}
use Rattle.syntect_parsing.specs.syntect_grammar_contexts.Substitution.{Opening}
use Rattle.syntect_parsing.specs.syntect_grammar.Contexts.{context_at}
use Rattle.syntect_parsing.specs.syntect_grammar_contexts.Contexts.{target}
use Rattle.syntect_reading_choice.specs.Chain.{last}
use Rattle.syntect_reading_choice.specs.Turn.{Live, char_len}
use Rattle.syntect_parsing.specs.syntect_grammar_contexts.declared.context.ContextId.{ContextId}
use Rattle.syntect_parsing.specs.syntect_grammar_contexts.declared.context.ContextReference.{ContextReference}
use Rattle.syntect_parsing.specs.syntect_grammar_contexts.declared.context.MatchOperation.{MatchOperation}
use Rattle.syntect_parsing.specs.syntect_grammar_contexts.declared.context.MatchOperation.TheVariants as op
use Rattle.syntect_parsing.specs.syntect_grammar.declared.syntax_set.SyntaxSet.{SyntaxSet}
use Rattle.syntect_reading_choice.specs.declared.level.Level.{Level}
use Rattle.syntect_reading_choice.specs.declared.position.Record.{Record}
use Rattle.syntect_reading_choice.specs.declared.position.Position.{Position}

-- ---- the levels after the winner ----

-- a context is marked as using back references
abbrev pub uses_backrefs : SyntaxSet → ContextId → Bool
uses_backrefs set id = option_map_or (λ c. c.uses_backrefs) (context_at set id) false

-- a new level keeps its opening match where its context or one of its
-- prototypes uses back references
abbrev pub new_level : SyntaxSet → Opening → ContextId → List ContextId → Level
new_level set opening id prototypes =
    record {
      context = id;
      prototypes = prototypes;
      opening = if list_any (uses_backrefs set) (id ∷ prototypes) then Some opening
          else None;
    }

-- new levels: the first keeps these prototypes, the last has the `with_prototype` after them
abbrev pub new_levels : SyntaxSet → Opening → List ContextId → Option ContextId → List ContextId
    → List Level
new_levels set opening kept with_prototype [] = []
new_levels set opening kept with_prototype (id ∷ []) =
    new_level set opening id (kept ++ option_to_list with_prototype) ∷ []
new_levels set opening kept with_prototype (id ∷ next ∷ ids) =
    new_level set opening id kept ∷ new_levels set opening [] with_prototype (next ∷ ids)

-- a list without its last member
abbrev pub without_last : {X : Type 0} → List X → List X
without_last xs = take (length xs - 1) xs

-- the levels that a match opens by this list, the first of which keeps these prototypes
abbrev pub opened : SyntaxSet → List ℕ → Live → List ContextId → List ContextReference → List Level
opened set line m kept refs =
    new_levels set (record { region = m.groups; line = line }) kept
    (option_and_then target m.pattern.with_prototype) (filter_map target refs)

-- a push adds levels, a set first takes the top level off and keeps its prototypes,
-- a pop takes it off
abbrev pub levels_by : SyntaxSet → List ℕ → List Level → Live → MatchOperation → List Level
levels_by set line levels m (op.Push refs) = levels ++ opened set line m [] refs
levels_by set line levels m (op.Set refs) =
    without_last levels ++ opened set line m
    (option_map_or (λ l. l.prototypes) (last levels) []) refs
levels_by set line levels m op.Pop = without_last levels
levels_by set line levels m op.None = levels

-- the levels once the match has done what it does
abbrev pub levels_after : SyntaxSet → List ℕ → List Level → Live → List Level
levels_after set line levels m = levels_by set line levels m m.pattern.operation

-- where the pattern came from a `with_prototype`, the height that it found is kept as a cut
abbrev pub cuts_after : Position → Live → List ℕ
cuts_after p m = if m.from_with_prototype then p.cuts ++ length p.levels ∷ [] else p.cuts

-- an empty push is recorded, with the old height plus one
abbrev pub record_by : Position → ℕ → MatchOperation → Option Record
record_by p end (op.Push refs) =
    if end == p.place then Some (record { place = p.place; height = length p.levels + 1 })
    else p.last
record_by p end (op.Set refs) = p.last
record_by p end op.Pop = p.last
record_by p end op.None = p.last

-- empty pushes and sets are counted, a move begins anew
abbrev pub idle_by : Position → ℕ → MatchOperation → ℕ
idle_by p end operation =
    if end == p.place then p.idle + option_map_or (λ refs. 1) (list_of operation) 0 else 0

-- what the next turn begins with, after a turn that took this match
abbrev pub position_after : SyntaxSet → List ℕ → Position → Live → Position
position_after set line p m =
    record {
      levels = levels_after set line p.levels m;
      cuts = cuts_after p m;
      place = m.end;
      last = record_by p m.end m.pattern.operation;
      idle = idle_by p m.end m.pattern.operation;
    }

-- a move without a match
abbrev pub skipped : List ℕ → Position → Position
skipped line p = record p { place = p.place + char_len line p.place; idle = 0 }

-- only cuts below the present height stay
abbrev pub trimmed : Position → Position
trimmed p = record p { cuts = filter (λ c. nat_lt c (length p.levels)) p.cuts }
