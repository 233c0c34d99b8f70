-- The stack of levels.
use Rattle.std.proofs.Common.{◌≡◌, ℕ, zero, suc, ◌-◌, ◌&&◌, Bool, true, false, List, [], ◌∷◌, ◌++◌, length, drop, take, fold, Option, Some, None, is_none, refl, sym, ap, ◌∙◌, arith, append_assoc, length-append, unwrap_or, slice_get}
use Rattle.std.specs.Option.{option_map_or, option_and_then, option_to_list}
use Rattle.std.specs.List.{filter_map, flat_map}
use Rattle.std.proofs.lemmas.List.{append-nil}
use Rattle.syntect_parsing.specs.syntect_scope.Stack.{plain, applied, kept}
use Rattle.syntect_parsing.specs.syntect_scope.declared.stack.ScopeStackOp.TheVariants.{Clear, Restore}
use Rattle.syntect_parsing.specs.syntect_scope.declared.stack.ScopeStack.{ScopeStack}
use Rattle.syntect_parsing.specs.syntect_scope.declared.stack.ClearAmount.{ClearAmount}
use Rattle.syntect_parsing.specs.syntect_scope.declared.stack.ClearAmount.TheVariants.{TopN, All}
use Rattle.syntect_parsing.specs.syntect_grammar_contexts.Substitution.{Opening}
use Rattle.syntect_parsing.specs.syntect_grammar.Contexts.{context_at, part_of}
use Rattle.syntect_parsing.specs.syntect_grammar_contexts.Contexts.{Scopes, target}
use Rattle.syntect_reading_choice.specs.Chain.{last}
use Rattle.syntect_parsing.specs.Turn.{without_last, new_levels}
use Rattle.syntect_parsing.specs.Visible.{clearing, top_clearing, top_part, left_by, opened_on, visible, visible_base}
use Rattle.syntect_parsing.specs.Stacks.{onto, after_clearing, enter, stack_of}
use Rattle.syntect_parsing.specs.Open.{open_scopes, base, ClearsNothing, OpenIsVisible}
use Rattle.syntect_parsing.specs.Operations.{clear_nothing}
use Rattle.syntect_parsing.specs.syntect_grammar_contexts.declared.context.MatchOperation.{MatchOperation}
use Rattle.syntect_parsing.specs.syntect_grammar_contexts.declared.context.MatchOperation.TheVariants as op
use Rattle.syntect_parsing.specs.syntect_grammar_contexts.declared.context.Context.{Context}
use Rattle.syntect_parsing.specs.syntect_grammar_contexts.declared.context.ContextId.{ContextId}
use Rattle.syntect_parsing.specs.syntect_grammar.declared.syntax_set.SyntaxSet.{SyntaxSet}
use Rattle.syntect_reading_choice.specs.declared.level.Level.{Level}

-- ---- lists ----

pub split_last : {X : Type 0} (xs : List X) → xs ≡ without_last xs ++ option_to_list (last xs)
split_last [] = refl
split_last (x ∷ []) = refl
split_last (x ∷ y ∷ xs) =
    let k : length (x ∷ y ∷ xs) - 1 ≡ suc (length (y ∷ xs) - 1) = omega arith in
    rw k (ap (λ l. x ∷ l) (split_last (y ∷ xs)))

pub fold_append : {X Y : Type 0} (f : Y → X → Y) (y : Y) (xs zs : List X) → fold f y (xs ++ zs) ≡ fold f (fold f y xs) zs
fold_append f y [] zs = refl
fold_append f y (x ∷ xs) zs = fold_append f (f y x) xs zs

-- ---- scopes on a stack ----

pub onto_none : (t : ScopeStack) → onto t [] ≡ t
onto_none t = ap (λ (l : Scopes). record { clear_stack = t.clear_stack; scopes = l }) (append-nil t.scopes)

pub onto_both : (t : ScopeStack) (xs ys : Scopes) → onto (onto t xs) ys ≡ onto t (xs ++ ys)
onto_both t xs ys = ap (λ (l : Scopes). record { clear_stack = t.clear_stack; scopes = l }) (append_assoc t.scopes xs ys)

pub cleared_scopes : (a : Option ClearAmount) (t : ScopeStack) → (after_clearing a t).scopes ≡ left_by a t.scopes
cleared_scopes None t = refl
cleared_scopes (Some (TopN n)) t = refl
cleared_scopes (Some All) t = refl

take_all : (xs : Scopes) (n : ℕ) → take n xs ++ drop n xs ≡ xs
take_all [] zero = refl
take_all [] (suc n) = refl
take_all (x ∷ xs) zero = refl
take_all (x ∷ xs) (suc n) = ap (λ (l : Scopes). x ∷ l) (take_all xs n)

last_kept : (mem : List Scopes) (c : Scopes) → (take (length (mem ++ c ∷ []) - 1) (mem ++ c ∷ []) ≡ mem) × (slice_get (mem ++ c ∷ []) (length (mem ++ c ∷ []) - 1) ≡ Some c)
last_kept [] c = (refl, refl)
last_kept (m ∷ mem) c =
    let k : length (m ∷ (mem ++ c ∷ [])) - 1 ≡ suc (length (mem ++ c ∷ []) - 1) = omega (arith, length-append mem (c ∷ [])) in
    let h = last_kept mem c in
    rw k (ap (λ (l : List Scopes). m ∷ l) h.0, h.1)

-- what was cleared last is put back
pub restore_clear : (a : ClearAmount) (t : ScopeStack) → applied Restore (applied (Clear a) t) ≡ t
restore_clear a t =
    let h = last_kept t.clear_stack (drop (kept a t) t.scopes) in
    ap (λ (l : List Scopes). record { clear_stack = l; scopes = take (kept a t) t.scopes ++ unwrap_or (slice_get (t.clear_stack ++ drop (kept a t) t.scopes ∷ []) (length (t.clear_stack ++ drop (kept a t) t.scopes ∷ []) - 1)) [] }) h.0
    ∙ ap (λ (o : Option Scopes). record { clear_stack = t.clear_stack; scopes = take (kept a t) t.scopes ++ unwrap_or o [] }) h.1
    ∙ ap (λ (l : Scopes). record { clear_stack = t.clear_stack; scopes = l }) (take_all t.scopes (kept a t))

part_both : (set : SyntaxSet) (id : ContextId) → part_of (λ c. c.meta_scope ++ c.meta_content_scope) set id ≡ part_of (λ c. c.meta_scope) set id ++ part_of (λ c. c.meta_content_scope) set id
part_both set id = by (context_at set id)
  where
    by : (o : Option Context) → option_map_or (λ (c : Context). c.meta_scope ++ c.meta_content_scope) o [] ≡ option_map_or (λ (c : Context). c.meta_scope) o [] ++ option_map_or (λ (c : Context). c.meta_content_scope) o []
    by None = refl
    by (Some c) = refl

-- what each step does to the scopes of a stack, all of them do
pub fold_scopes : {X : Type 0} (f : ScopeStack → X → ScopeStack) (g : Scopes → X → Scopes) → ((t : ScopeStack) (x : X) → (f t x).scopes ≡ g t.scopes x) → (t : ScopeStack) (xs : List X) → (fold f t xs).scopes ≡ fold g t.scopes xs
fold_scopes f g h t [] = refl
fold_scopes f g h t (x ∷ xs) = fold_scopes f g h (f t x) xs ∙ ap (λ (l : Scopes). fold g l xs) (h t x)

enter_scopes : (set : SyntaxSet) (t : ScopeStack) (l : Level) → (enter set t l.context).scopes ≡ opened_on set t.scopes l.context ++ part_of (λ c. c.meta_content_scope) set l.context
enter_scopes set t l =
    rw (cleared_scopes (clearing set l.context) t, part_both set l.context)
    (sym (append_assoc (left_by (clearing set l.context) t.scopes) (part_of (λ c. c.meta_scope) set l.context) (part_of (λ c. c.meta_content_scope) set l.context)))

pub stack_has_visible : (set : SyntaxSet) (levels : List Level) → (stack_of set levels).scopes ≡ visible set levels
stack_has_visible set levels =
    fold_scopes (λ (t : ScopeStack) (l : Level). enter set t l.context) (λ (below : Scopes) (l : Level). opened_on set below l.context ++ part_of (λ c. c.meta_content_scope) set l.context) (enter_scopes set) (plain []) levels

-- a context on a stack, without its content scopes
abbrev pub enter_below : SyntaxSet → ScopeStack → ContextId → ScopeStack
enter_below set t id = onto (after_clearing (clearing set id) t) (part_of (λ c. c.meta_scope) set id)

below_scopes : (set : SyntaxSet) (t : ScopeStack) (id : ContextId) → (enter_below set t id).scopes ≡ opened_on set t.scopes id
below_scopes set t id = ap (λ (l : Scopes). l ++ part_of (λ c. c.meta_scope) set id) (cleared_scopes (clearing set id) t)

pub below_visible : (set : SyntaxSet) (t : ScopeStack) (ids : List ContextId) → (fold (enter_below set) t ids).scopes ≡ fold (opened_on set) t.scopes ids
below_visible set t ids = fold_scopes (enter_below set) (opened_on set) (below_scopes set) t ids

-- ---- the top level ----

top_enter : (set : SyntaxSet) (t : ScopeStack) (o : Option Level) → fold (λ (s : ScopeStack) (l : Level). enter set s l.context) t (option_to_list o)
    ≡ onto (after_clearing (option_and_then (λ (l : Level). clearing set l.context) o) t)
    (option_map_or (λ (l : Level). part_of (λ c. c.meta_scope) set l.context) o [] ++ option_map_or (λ (l : Level). part_of (λ c. c.meta_content_scope) set l.context) o [])
top_enter set t None = sym (onto_none t)
top_enter set t (Some l) = ap (onto (after_clearing (clearing set l.context) t)) (part_both set l.context)

pub stack_split : (set : SyntaxSet) (levels : List Level) → stack_of set levels
    ≡ onto (after_clearing (top_clearing set levels) (stack_of set (without_last levels))) (top_part (λ c. c.meta_scope) set levels ++ top_part (λ c. c.meta_content_scope) set levels)
stack_split set levels =
    ap (stack_of set) (split_last levels) ∙ fold_append (λ (s : ScopeStack) (l : Level). enter set s l.context) (plain []) (without_last levels) (option_to_list (last levels))
    ∙ top_enter set (stack_of set (without_last levels)) (last levels)

-- ---- new levels ----

pub levels_enter : (set : SyntaxSet) (o : Opening) (kept : List ContextId) (w : Option ContextId) (t : ScopeStack) (ids : List ContextId)
    → fold (λ (s : ScopeStack) (l : Level). enter set s l.context) t (new_levels set o kept w ids) ≡ fold (enter set) t ids
levels_enter set o kept w t [] = refl
levels_enter set o kept w t (id ∷ []) = refl
levels_enter set o kept w t (id ∷ next ∷ ids) = levels_enter set o [] w (enter set t id) (next ∷ ids)

pub stack_more : (set : SyntaxSet) (o : Opening) (kept : List ContextId) (w : Option ContextId) (levels : List Level) (ids : List ContextId)
    → stack_of set (levels ++ new_levels set o kept w ids) ≡ fold (enter set) (stack_of set levels) ids
stack_more set o kept w levels ids =
    fold_append (λ (s : ScopeStack) (l : Level). enter set s l.context) (plain []) levels (new_levels set o kept w ids) ∙ levels_enter set o kept w (stack_of set levels) ids

none_clears : (a : Option ClearAmount) → is_none a ≡ true → a ≡ None
none_clears None e = refl
none_clears (Some a) e = cc

both_true : (x y : Bool) → (x && y) ≡ true → (x ≡ true) × (y ≡ true)
both_true true y e = (refl, e)
both_true false y e = cc

-- where none clears, their scopes are put on the stack
pub enter_clear : (set : SyntaxSet) (t : ScopeStack) (ids : List ContextId) → clear_nothing set ids ≡ true
    → fold (enter set) t ids ≡ onto t (flat_map (part_of (λ c. c.meta_scope ++ c.meta_content_scope) set) ids)
enter_clear set t [] e = sym (onto_none t)
enter_clear set t (id ∷ ids) e =
    let k = both_true (is_none (clearing set id)) (clear_nothing set ids) e in
    let n : clearing set id ≡ None = none_clears (clearing set id) k.0 in
    enter_clear set (enter set t id) ids k.1
    ∙ ap (λ (a : Option ClearAmount). onto (onto (after_clearing a t) (part_of (λ c. c.meta_scope ++ c.meta_content_scope) set id)) (flat_map (part_of (λ c. c.meta_scope ++ c.meta_content_scope) set) ids)) n
    ∙ onto_both t (part_of (λ c. c.meta_scope ++ c.meta_content_scope) set id) (flat_map (part_of (λ c. c.meta_scope ++ c.meta_content_scope) set) ids)

pub below_clear : (set : SyntaxSet) (t : ScopeStack) (ids : List ContextId) → clear_nothing set ids ≡ true
    → fold (enter_below set) t ids ≡ onto t (flat_map (part_of (λ c. c.meta_scope) set) ids)
below_clear set t [] e = sym (onto_none t)
below_clear set t (id ∷ ids) e =
    let k = both_true (is_none (clearing set id)) (clear_nothing set ids) e in
    let n : clearing set id ≡ None = none_clears (clearing set id) k.0 in
    below_clear set (enter_below set t id) ids k.1
    ∙ ap (λ (a : Option ClearAmount). onto (onto (after_clearing a t) (part_of (λ c. c.meta_scope) set id)) (flat_map (part_of (λ c. c.meta_scope) set) ids)) n
    ∙ onto_both t (part_of (λ c. c.meta_scope) set id) (flat_map (part_of (λ c. c.meta_scope) set) ids)

-- what the first of these contexts clears
abbrev pub first_clearing : SyntaxSet → List ContextId → Option ClearAmount
first_clearing set [] = None
first_clearing set (id ∷ ids) = clearing set id

-- where none clears after the first
pub enter_orderly : (set : SyntaxSet) (t : ScopeStack) (ids : List ContextId) → clear_nothing set (drop 1 ids) ≡ true
    → fold (enter set) t ids ≡ onto (after_clearing (first_clearing set ids) t) (flat_map (part_of (λ c. c.meta_scope ++ c.meta_content_scope) set) ids)
enter_orderly set t [] e = sym (onto_none t)
enter_orderly set t (id ∷ ids) e =
    enter_clear set (enter set t id) ids e ∙ onto_both (after_clearing (clearing set id) t) (part_of (λ c. c.meta_scope ++ c.meta_content_scope) set id) (flat_map (part_of (λ c. c.meta_scope ++ c.meta_content_scope) set) ids)

pub below_orderly : (set : SyntaxSet) (t : ScopeStack) (ids : List ContextId) → clear_nothing set (drop 1 ids) ≡ true
    → fold (enter_below set) t ids ≡ onto (after_clearing (first_clearing set ids) t) (flat_map (part_of (λ c. c.meta_scope) set) ids)
below_orderly set t [] e = sym (onto_none t)
below_orderly set t (id ∷ ids) e =
    below_clear set (enter_below set t id) ids e ∙ onto_both (after_clearing (clearing set id) t) (part_of (λ c. c.meta_scope) set id) (flat_map (part_of (λ c. c.meta_scope) set) ids)

-- ---- where nothing clears ----

all_clear : (set : SyntaxSet) → ClearsNothing set → (t : ScopeStack) (levels : List Level)
    → fold (λ (s : ScopeStack) (l : Level). enter set s l.context) t levels ≡ onto t (open_scopes set levels)
all_clear set c t [] = sym (onto_none t)
all_clear set c t (l ∷ levels) =
    let both : Scopes = part_of (λ c. c.meta_scope ++ c.meta_content_scope) set l.context in
    all_clear set c (enter set t l.context) levels ∙ ap (λ (a : Option ClearAmount). onto (onto (after_clearing a t) both) (open_scopes set levels)) (c l.context) ∙ onto_both t both (open_scopes set levels)

open_stack : (set : SyntaxSet) → ClearsNothing set → (levels : List Level) → stack_of set levels ≡ plain (open_scopes set levels)
open_stack set c levels = all_clear set c (plain []) levels

open_visible : (set : SyntaxSet) → ClearsNothing set → (levels : List Level) → visible set levels ≡ open_scopes set levels
open_visible set c levels = sym (stack_has_visible set levels) ∙ ap (λ (t : ScopeStack). t.scopes) (open_stack set c levels)

opened_clear : (set : SyntaxSet) → ClearsNothing set → (below : Scopes) (ids : List ContextId) → fold (opened_on set) below ids ≡ below ++ flat_map (part_of (λ c. c.meta_scope) set) ids
opened_clear set c below [] = sym (append-nil below)
opened_clear set c below (id ∷ ids) =
    let m : Scopes = part_of (λ c. c.meta_scope) set id in
    opened_clear set c (opened_on set below id) ids ∙ ap (λ (a : Option ClearAmount). (left_by a below ++ m) ++ flat_map (part_of (λ c. c.meta_scope) set) ids) (c id)
    ∙ append_assoc below m (flat_map (part_of (λ c. c.meta_scope) set) ids)

top_clear : (set : SyntaxSet) → ClearsNothing set → (o : Option Level) → option_and_then (λ (l : Level). clearing set l.context) o ≡ None
top_clear set c None = refl
top_clear set c (Some l) = c l.context

open_base : (set : SyntaxSet) → ClearsNothing set → (levels : List Level) (o : MatchOperation) → visible_base set levels o ≡ base set levels o
open_base set c levels (op.Push refs) = opened_clear set c (visible set levels) (filter_map target refs) ∙ ap (λ (l : Scopes). l ++ flat_map (part_of (λ c. c.meta_scope) set) (filter_map target refs)) (open_visible set c levels)
open_base set c levels (op.Set refs) = ap (λ (l : Scopes). l ++ flat_map (part_of (λ c. c.meta_scope) set) (filter_map target refs)) (open_visible set c levels)
open_base set c levels op.Pop =
    ap (λ (a : Option ClearAmount). left_by a (visible set (without_last levels)) ++ top_part (λ c. c.meta_scope) set levels) (top_clear set c (last levels))
    ∙ ap (λ (l : Scopes). l ++ top_part (λ c. c.meta_scope) set levels) (open_visible set c (without_last levels))
open_base set c levels op.None = open_visible set c levels

pub open_is_visible : OpenIsVisible
open_is_visible set levels c = (open_visible set c levels, open_base set c levels, open_stack set c levels)
