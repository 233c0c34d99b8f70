-- The open scopes of levels of which none clears.
use Rattle.std.specs.Prelude.{◌≡◌, List, ◌++◌, None}
use Rattle.std.specs.List.{filter_map, flat_map}
use Rattle.syntect_parsing.specs.syntect_grammar.Contexts.{part_of}
use Rattle.syntect_parsing.specs.syntect_grammar_contexts.Contexts.{Scopes, target}
use Rattle.syntect_parsing.specs.Stacks.{stack_of}
use Rattle.syntect_parsing.specs.syntect_scope.Stack.{plain}
use Rattle.syntect_parsing.specs.Turn.{without_last}
use Rattle.syntect_parsing.specs.Visible.{clearing, top_part, visible, visible_base}
use Rattle.syntect_parsing.specs.syntect_grammar_contexts.declared.context.ContextId.{ContextId}
use Rattle.syntect_parsing.specs.syntect_grammar_contexts.declared.context.MatchOperation.{MatchOperation}
use Rattle.syntect_parsing.specs.syntect_grammar_contexts.declared.context.MatchOperation.TheVariants as op
use Rattle.syntect_parsing.specs.syntect_grammar.declared.syntax_set.SyntaxSet.{SyntaxSet}
use Rattle.syntect_reading_choice.specs.declared.level.Level.{Level}

-- of each level its `meta_scope`, then its `meta_content_scope`
abbrev pub open_scopes : SyntaxSet → List Level → Scopes
open_scopes set levels =
    flat_map (λ l. part_of (λ c. c.meta_scope ++ c.meta_content_scope) set l.context) levels

-- what stands below a match's own scopes
abbrev pub base : SyntaxSet → List Level → MatchOperation → Scopes
base set levels (op.Push refs) =
    open_scopes set levels ++ flat_map (part_of (λ c. c.meta_scope) set) (filter_map target refs)
base set levels (op.Set refs) =
    open_scopes set levels ++ flat_map (part_of (λ c. c.meta_scope) set) (filter_map target refs)
base set levels op.Pop =
    open_scopes set (without_last levels) ++ top_part (λ c. c.meta_scope) set levels
base set levels op.None = open_scopes set levels

-- no context of the set clears
abbrev pub ClearsNothing : SyntaxSet → Type 0
ClearsNothing set = (id : ContextId) → clearing set id ≡ None

-- The stack of levels has their visible scopes.
abbrev pub StackHasVisible : Type 0
StackHasVisible =
    (set : SyntaxSet) (levels : List Level) → (stack_of set levels).scopes ≡ visible set levels

-- Where nothing clears, the visible scopes are the open ones, what stands below a match is too, and
-- stacks remember nothing.
abbrev pub OpenIsVisible : Type 0
OpenIsVisible = (set : SyntaxSet) (levels : List Level) → ClearsNothing set
    → (visible set levels ≡ open_scopes set levels)
    × ((o : MatchOperation) → visible_base set levels o ≡ base set levels o)
    × (stack_of set levels ≡ plain (open_scopes set levels))
