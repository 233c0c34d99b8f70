-- The texts of a grammar's patterns as they were written, in the order in which they are come to.
use Rattle.std.specs.Prelude.{ℕ, zero, suc, if◌then◌else◌, List, [], ◌∷◌, ◌++◌, codes, flat_map, Option, Some, None, unwrap_or, is_some}
use Rattle.syntect_yaml.specs.Node.{Node, get}
use Rattle.syntect_grammar_limits.specs.syntect_grammar_loader.LoadingValues.{text_in, list_in, map_in, at, is_several, is_none, escape_items, ahead_items}
use Rattle.syntect_grammar_limits.specs.syntect_grammar_loader.LoadingContexts.{is_setting}

-- what may stand there
abbrev pub perhaps_one : Option (List ℕ) → List (List ℕ)
perhaps_one None = []
perhaps_one (Some text) = text ∷ []

-- over the texts of a context within others
module _ (inner : List Node → List (List ℕ)) where
  abbrev pub inner_of : Option (List Node) → List (List ℕ)
  inner_of None = []
  inner_of (Some items) = inner items

  -- a reference that is a list is a context
  abbrev pub of_reference : Node → List (List ℕ)
  of_reference v = inner_of (list_in v)

  abbrev pub of_references : Node → List (List ℕ)
  of_references v =
      if is_none v then []
      else if is_several v then flat_map of_reference (unwrap_or (list_in v) [])
      else of_reference v

  -- the `escape` of an `embed` is a pattern
  abbrev pub of_embed : Node → Node → Option Node → List (List ℕ)
  of_embed m v None = []
  of_embed m v (Some escape) = inner (escape_items m escape) ++ of_reference v

  abbrev pub of_operation_by : Node → Option Node → Option Node → Option Node → Option Node
      → List (List ℕ)
  of_operation_by m (Some pop) push set embed = []
  of_operation_by m None (Some v) set embed = of_references v
  of_operation_by m None None (Some v) embed = of_references v
  of_operation_by m None None None (Some v) = of_embed m v (get (codes "escape") m)
  of_operation_by m None None None None = []

  abbrev pub of_operation : Node → List (List ℕ)
  of_operation m =
      of_operation_by m (get (codes "pop") m) (get (codes "push") m) (get (codes "set") m)
      (get (codes "embed") m)

  -- one looks ahead for the `escape`
  abbrev pub of_ahead : Option (List ℕ) → List (List ℕ)
  of_ahead None = []
  of_ahead (Some text) = inner (ahead_items text)

  abbrev pub of_prototype_by : Option (List Node) → Option (List ℕ) → List (List ℕ)
  of_prototype_by (Some items) escape = inner items
  of_prototype_by None escape = of_ahead escape

  abbrev pub of_prototype : Node → List (List ℕ)
  of_prototype m =
      of_prototype_by (at list_in (codes "with_prototype") m) (at text_in (codes "escape") m)

  abbrev pub of_match : Node → List (List ℕ)
  of_match m =
      perhaps_one (at text_in (codes "match") m) ++ (of_operation m ++ of_prototype m)

  abbrev pub of_entry : Node → Option Node → List (List ℕ)
  of_entry m (Some v) = of_reference v
  of_entry m None = of_match m

  -- an item that sets something, or is no map, has none
  abbrev pub of_item : Node → List (List ℕ)
  of_item v =
      if is_some (map_in v) then
      (if is_setting v then [] else of_entry v (get (codes "include") v))
      else []

-- the texts of a context, in which contexts nest fewer than n deep
unfoldable pub of_context : ℕ → List Node → List (List ℕ)
of_context zero items = []
of_context (suc n) items = flat_map (of_item (of_context n)) items
