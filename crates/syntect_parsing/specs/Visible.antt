-- Which scopes are open, where contexts clear some of those below them.
pub use Rattle.syntect_parsing.specs.syntect_reading_state.Opens.{clearing}
use Rattle.std.specs.Prelude.{◌-◌, List, [], ◌++◌, length, take, fold, Option, Some, None}
use Rattle.std.specs.Option.{option_map_or, option_and_then}
use Rattle.std.specs.List.{filter_map, flat_map}
use Rattle.syntect_parsing.specs.syntect_scope.declared.stack.ClearAmount.{ClearAmount}
use Rattle.syntect_parsing.specs.syntect_scope.declared.stack.ClearAmount.TheVariants.{TopN, All}
use Rattle.syntect_parsing.specs.syntect_grammar.Contexts.{part_of}
use Rattle.syntect_parsing.specs.syntect_grammar_contexts.Contexts.{Scopes, target}
use Rattle.syntect_reading_choice.specs.Chain.{last}
use Rattle.syntect_parsing.specs.Turn.{without_last}
use Rattle.syntect_parsing.specs.syntect_grammar_contexts.declared.context.Context.{Context}
use Rattle.syntect_parsing.specs.syntect_grammar_contexts.declared.context.ContextId.{ContextId}
use Rattle.syntect_parsing.specs.syntect_grammar_contexts.declared.context.MatchOperation.{MatchOperation}
use Rattle.syntect_parsing.specs.syntect_grammar_contexts.declared.context.MatchOperation.TheVariants as op
use Rattle.syntect_parsing.specs.syntect_grammar.declared.syntax_set.SyntaxSet.{SyntaxSet}
use Rattle.syntect_reading_choice.specs.declared.level.Level.{Level}

-- how much the top level's context clears, and a part of that context
abbrev pub top_clearing : SyntaxSet → List Level → Option ClearAmount
top_clearing set levels = option_and_then (λ l. clearing set l.context) (last levels)

-- these scopes of the top level's context, none where no level is open
abbrev pub top_part : (Context → Scopes) → SyntaxSet → List Level → Scopes
top_part part set levels = option_map_or (λ l. part_of part set l.context) (last levels) []

-- what an amount leaves
abbrev pub left_by : Option ClearAmount → Scopes → Scopes
left_by None scopes = scopes
left_by (Some (TopN n)) scopes = take (length scopes - n) scopes
left_by (Some All) scopes = []

-- a context opened on these scopes: it clears first, and then has its `meta_scope`
abbrev pub opened_on : SyntaxSet → Scopes → ContextId → Scopes
opened_on set below id = left_by (clearing set id) below ++ part_of (λ c. c.meta_scope) set id

-- the open scopes, level by level
abbrev pub visible : SyntaxSet → List Level → Scopes
visible set levels =
    fold (λ below l. opened_on set below l.context
    ++ part_of (λ c. c.meta_content_scope) set l.context) [] levels

-- what stands below a match's own scopes: a push into clearing contexts clears, a set doesn't
abbrev pub visible_base : SyntaxSet → List Level → MatchOperation → Scopes
visible_base set levels (op.Push refs) =
    fold (opened_on set) (visible set levels) (filter_map target refs)
visible_base set levels (op.Set refs) =
    visible set levels ++ flat_map (part_of (λ c. c.meta_scope) set) (filter_map target refs)
visible_base set levels op.Pop =
    left_by (top_clearing set levels) (visible set (without_last levels))
    ++ top_part (λ c. c.meta_scope) set levels
visible_base set levels op.None = visible set levels
