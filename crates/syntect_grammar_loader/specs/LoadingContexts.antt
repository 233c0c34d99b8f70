-- Contexts and what stands in them.
use Rattle.std.specs.Prelude.{ℕ, zero, suc, Bool, true, false, ◌&&◌, ◌||◌, if◌then◌else◌, List, [], ◌∷◌, ◌++◌, length, codes, Option, Some, None, is_some, unwrap_or, Result, Ok, Err, ℤ, pos, negsuc, ◌^◌, ◌-◌}
use Rattle.std.specs.Fmt.{decimal}
use Rattle.std.specs.BTreeMap.{insert_entry}
use Rattle.std.specs.Cmp.Lexicographic.{slice_cmp}
use Rattle.std.specs.Ordering.{nat_cmp}
use Rattle.syntect_grammar_loader.specs.syntect_scope.declared.stack.ClearAmount.{ClearAmount}
use Rattle.syntect_grammar_loader.specs.syntect_scope.declared.stack.ClearAmount.TheVariants.{TopN, All}
use Rattle.syntect_yaml.specs.Node.{Node, get}
use Rattle.syntect_grammar_contexts.specs.Contexts.{Scopes}
use Rattle.syntect_grammar_rewrite.specs.Testing.{tested_text, refers_back}
use Rattle.syntect_grammar_loader.specs.LoadingSteps.{Refusal, missing, wrong_kind, Step, give, refuse, ◌>>=◌, known, finding, perhaps, each}
use Rattle.syntect_grammar_loader.specs.LoadingValues.{text_in, truth_in, number_in, list_in, map_in, at, is_several, is_none, escape_items, ahead_items}
use Rattle.syntect_grammar_loader.specs.LoadingParts.{scopes, expression, captures, text_reference}
use Rattle.syntect_grammar_loader.specs.declared.yaml_load_state.Reading.{Reading}
use Rattle.syntect_grammar_contexts.specs.declared.context.ContextReference.{ContextReference}
use Rattle.syntect_grammar_contexts.specs.declared.context.ContextReference.TheVariants.{Inline}
use Rattle.syntect_grammar_contexts.specs.declared.context.MatchOperation.{MatchOperation}
use Rattle.syntect_grammar_contexts.specs.declared.context.MatchOperation.TheVariants as op
use Rattle.syntect_grammar_contexts.specs.declared.context.MatchPattern.{MatchPattern}
use Rattle.syntect_grammar_contexts.specs.declared.context.Pattern.TheVariants.{Match, Include}
use Rattle.syntect_grammar_contexts.specs.declared.context.Context.{Context}

-- ---- names ----

-- the name of the n-th context inside of a top context that has no name of its own, from 0
abbrev pub anonymous : List ℕ → ℕ → List ℕ
anonymous top n = codes "#anon_" ++ top ++ codes "_" ++ decimal n

-- one more begins
abbrev pub begin_as : List ℕ → Step (List ℕ)
begin_as name s = Ok (name, record s { begun = s.begun ++ name ∷ [] })

-- the next context inside of a top context begins, numbered by how many have begun there before
abbrev pub begin : Step (List ℕ)
begin s = begin_as (anonymous s.top (length s.begun)) s

-- a context is recorded under its name, in place of an earlier one
abbrev pub put : List ℕ → Context → List (List ℕ × Context) → List (List ℕ × Context)
put name c contexts = insert_entry (slice_cmp nat_cmp) contexts name c

-- a step that records a context under this name, and finds the name
abbrev pub keep : List ℕ → Context → Step (List ℕ)
keep name c s = Ok (name, record s { contexts = put name c s.contexts })

-- ---- items that set something ----

-- how many scopes a number clears: a negative one the greatest number that there is
abbrev pub amount : ℤ → ClearAmount
amount (pos n) = TopN n
amount (negsuc n) = TopN (2 ^ 64 - 1)

-- the amount that a number says, else all scopes for `true`, else no amount
abbrev pub cleared_by : Option Bool → Option ℤ → Option ClearAmount
cleared_by truth (Some z) = Some (amount z)
cleared_by (Some true) None = Some All
cleared_by (Some false) None = None
cleared_by None None = None

-- the amount that an item's `clear_scopes` says, if it says one
abbrev pub clear_amount : Node → Option ClearAmount
clear_amount m =
    cleared_by (at truth_in (codes "clear_scopes") m) (at number_in (codes "clear_scopes") m)

-- the item sets something, and has no other effect
abbrev pub is_setting : Node → Bool
is_setting m =
    (is_some (at text_in (codes "meta_scope") m)
    || is_some (at text_in (codes "meta_content_scope") m))
    || (is_some (at truth_in (codes "meta_include_prototype") m) || is_some (clear_amount m))

-- the first of these that there is
abbrev pub or_else : {A : Type 0} → Option A → Option A → Option A
or_else None b = b
or_else (Some x) b = Some x

-- whether a context wants a prototype, perhaps set anew
abbrev pub wants_prototype : Node → Bool → Bool
wants_prototype m before = unwrap_or (at truth_in (codes "meta_include_prototype") m) before

-- the context with what this item sets; what the item doesn't set stays as it was
abbrev pub set : Context → Node → Step Context
set c m =
    perhaps scopes c.meta_scope (at text_in (codes "meta_scope") m) >>= λ whole.
    (perhaps scopes c.meta_content_scope (at text_in (codes "meta_content_scope") m) >>= λ content.
    give (record c {
      meta_scope = whole;
      meta_content_scope = content;
      meta_include_prototype = wants_prototype m c.meta_include_prototype;
      clear_scopes = or_else (clear_amount m) c.clear_scopes;
    }))

-- a context before its items are read
abbrev pub new_context : Bool → Context
new_context wants_prototype = record {
  meta_scope = [];
  meta_content_scope = [];
  meta_include_prototype = wants_prototype;
  clear_scopes = None;
  prototype = None;
  uses_backrefs = false;
  patterns = [];
}

-- a pattern of the context; one that pops and refers back marks it
abbrev pub with_match : Context → MatchPattern → Context
with_match c m =
    record c {
      uses_backrefs = c.uses_backrefs || m.has_captures;
      patterns = c.patterns ++ Match m ∷ [];
    }

-- the context with an include of this reference, after its other patterns
abbrev pub with_include : Context → ContextReference → Context
with_include c r = record c { patterns = c.patterns ++ Include r ∷ [] }

-- ---- patterns ----

-- the captures of a pattern, if there is a map of them
abbrev pub captures_at : Node → List ℕ → Step (Option (List (ℕ × Scopes)))
captures_at m tested =
    perhaps (λ es. captures tested es >>= λ cs. give (Some cs)) None
    (at map_in (codes "captures") m)

-- the text of the pattern at `match`, which has to be there, to be a text and to be a pattern
abbrev pub pattern_by : Option Node → Reading → Result (List ℕ) Refusal
pattern_by None s = Err (missing (codes "match"))
pattern_by (Some v) s = raw_pattern (text_in v) s
  where
    raw_pattern : Option (List ℕ) → Reading → Result (List ℕ) Refusal
    raw_pattern None s = Err wrong_kind
    raw_pattern (Some raw) s = expression raw s

-- the text of the pattern that has to stand in an item
abbrev pub pattern_at : Node → Reading → Result (List ℕ) Refusal
pattern_at m s = pattern_by (get (codes "match") m) s

-- ---- items that hold references ----

-- over how a context without a name of its own is read from its items,
-- and whether it wants a prototype
module _ (inner : Bool → List Node → Step (List ℕ)) where
  -- a reference to the context that is read from these items, by the name that it is given
  abbrev pub inline : Bool → List Node → Step ContextReference
  inline wants_prototype items = inner wants_prototype items >>= λ name. give (Inline name)

  -- a reference by a text, else to the context of a list of items; refused where there is neither
  abbrev pub reference_by : Bool → Option (List ℕ) → Option (List Node) → Step ContextReference
  reference_by with_escape (Some text) items = text_reference with_escape text
  reference_by with_escape None (Some items) = inline true items
  reference_by with_escape None None = refuse wrong_kind

  -- a text, or a list that is a context; with_escape marks the reference of an `embed`
  abbrev pub reference : Bool → Node → Step ContextReference
  reference with_escape v = reference_by with_escape (text_in v) (list_in v)

  -- the references found, with that of this value after them
  abbrev pub add_reference : List ContextReference → Node → Step (List ContextReference)
  add_reference found v = reference false v >>= λ r. give (found ++ r ∷ [])

  -- what a push or a set names
  abbrev pub references : Node → Step (List ContextReference)
  references v =
      if is_none v then refuse wrong_kind
      else if is_several v then each add_reference [] (unwrap_or (list_in v) [])
      else add_reference [] v

  -- an `embed` pushes a context that is left at the `escape`, and then what it names
  abbrev pub embedded_until : Node → Node → Option Node → Step MatchOperation
  embedded_until m v None = refuse (missing (codes "escape"))
  embedded_until m v (Some escape) =
      inline true (escape_items m escape) >>= λ out.
      (reference true v >>= λ r.
      give (op.Push (out ∷ r ∷ [])))

  -- the operation of an `embed` with this value, in an item that has to have an `escape` too
  abbrev pub embedded : Node → Node → Step MatchOperation
  embedded m v = embedded_until m v (get (codes "escape") m)

  -- the operation of the first of these that there is: a pop, a push, a set, an embed, or none
  abbrev pub operation_by : Node → Option Node → Option Node → Option Node → Option Node
      → Step MatchOperation
  operation_by m (Some pop) push set embed = give op.Pop
  operation_by m None (Some v) set embed = references v >>= λ rs. give (op.Push rs)
  operation_by m None None (Some v) embed = references v >>= λ rs. give (op.Set rs)
  operation_by m None None None (Some v) = embedded m v
  operation_by m None None None None = give op.None

  -- what a match does: a pop with any value, else a push, else a set, else an embed
  abbrev pub operation : Node → Step MatchOperation
  operation m =
      operation_by m (get (codes "pop") m) (get (codes "push") m) (get (codes "set") m)
      (get (codes "embed") m)

  -- a reference to a context that leaves ahead of the `escape`, a text; none without an `escape`
  abbrev pub ahead_of : Option Node → Step (Option ContextReference)
  ahead_of None = give None
  ahead_of (Some escape) =
      known wrong_kind (text_in escape) >>= λ text.
      (inline false (ahead_items text) >>= λ r. give (Some r))

  -- a reference to a context of these items, else to one that leaves ahead of the `escape`, if any
  abbrev pub prototype_by : Option (List Node) → Option Node → Step (Option ContextReference)
  prototype_by (Some items) escape = inline false items >>= λ r. give (Some r)
  prototype_by None escape = ahead_of escape

  -- a `with_prototype`, or one that leaves ahead of the `escape`
  abbrev pub with_prototype : Node → Step (Option ContextReference)
  with_prototype m = prototype_by (at list_in (codes "with_prototype") m) (get (codes "escape") m)

  -- a match
  abbrev pub match : Node → Step MatchPattern
  match m =
      finding (pattern_at m) >>= λ text.
      (perhaps scopes [] (at text_in (codes "scope") m) >>= λ ss.
      (captures_at m (tested_text text) >>= λ cs.
      (operation m >>= λ o.
      (with_prototype m >>= λ p.
      give (record {
        has_captures = is_some (get (codes "pop") m) && refers_back text;
        regex = text;
        scope = ss;
        captures = cs;
        operation = o;
        with_prototype = p;
      })))))

  -- the context with one more pattern: an include of this value, else the match that the item is
  abbrev pub entry_by : Context → Node → Option Node → Step Context
  entry_by c m (Some v) = reference false v >>= λ r. give (with_include c r)
  entry_by c m None = match m >>= λ p. give (with_match c p)

  -- an item of a context: a map that sets something, or includes, or matches
  abbrev pub item_of : Context → Node → Step Context
  item_of c m = if is_setting m then set c m else entry_by c m (get (codes "include") m)

  -- the context after one more of its items, which has to be a map
  abbrev pub item : Context → Node → Step Context
  item c v = known wrong_kind (map_in v) >>= λ es. item_of c v

  -- a context of this name, recorded when all of its items have been read
  abbrev pub named_context : List ℕ → Bool → List Node → Step (List ℕ)
  named_context name wants_prototype items =
      each item (new_context wants_prototype) items >>= λ c. keep name c

-- a context inside of another, where contexts nest fewer than n deep
unfoldable pub context : ℕ → Bool → List Node → Step (List ℕ)
context zero wants_prototype items = refuse wrong_kind
context (suc n) wants_prototype items =
    begin >>= λ name. named_context (context n) name wants_prototype items
