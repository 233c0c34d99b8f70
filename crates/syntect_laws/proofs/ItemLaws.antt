-- Items are read the same over inner contexts that are read the same.
use Rattle.std.proofs.Common.{ℕ, suc, ◌-◌, ◌≤◌, ◌<◌, Bool, true, false, List, [], ◌∷◌, ◌++◌, Option, Some, None, if◌then◌else◌, refl, arith}
use Rattle.std.specs.Prelude.{codes, unwrap_or, IfSome}
use Rattle.std.specs.List.{AllByRecursion}
use Rattle.syntect_laws.specs.syntect_grammar_rewrite.Testing.{tested_text}
use Rattle.syntect_yaml.specs.Node as node
use Rattle.syntect_yaml.specs.Node.{Node, get}
use Rattle.syntect_laws.specs.syntect_grammar_loader.LoadingSteps.{wrong_kind, refuse, known, finding, perhaps, each}
use Rattle.syntect_laws.specs.syntect_grammar_loader.LoadingValues.{text_in, list_in, at, is_several, is_none, map_node, text_node, perhaps_map, leaving, escape_items, ahead_items}
use Rattle.syntect_laws.specs.syntect_grammar_loader.LoadingParts.{scopes}
use Rattle.syntect_laws.specs.syntect_grammar_loader.LoadingContexts as loading
use Rattle.syntect_laws.specs.syntect_grammar_loader.LoadingContexts.{named_context, new_context}
use Rattle.syntect_laws.specs.syntect_grammar_contexts.declared.context.ContextReference.{ContextReference}
use Rattle.syntect_laws.specs.syntect_grammar_contexts.declared.context.Context.{Context}
use Rattle.syntect_laws.specs.YamlLaws.{nesting}
use Rattle.syntect_laws.specs.Inner.{Inner}
use Rattle.syntect_laws.proofs.LoaderPartLaws.{Within, AllWithin, unwrap_within, get_within, list_within, list_at_within}
use Rattle.syntect_laws.proofs.StepLaws.{Same, same_rest, same_first, same_both, same_each}

-- inner contexts are read the same where their items nest no deeper than d, and where the loader
-- makes the items
pub record Agree (one other : Inner) (d : ℕ) : Type 0 where
  pub shallow : (wants : Bool) (items : List Node) → AllWithin d items → Same (one wants items) (other wants items)
  pub escapes : (wants : Bool) (m escape : Node)
      → Same (one wants (escape_items m escape)) (other wants (escape_items m escape))
  pub aheads : (wants : Bool) (text : List ℕ) → Same (one wants (ahead_items text)) (other wants (ahead_items text))

module _ (one other : Inner) where
  -- ---- items that hold references ----

  module _ (d : ℕ) (agree : Agree one other d) where
    inline_same : (wants : Bool) (items : List Node) → Same (one wants items) (other wants items)
        → Same (loading.inline one wants items) (loading.inline other wants items)
    inline_same wants items h = same_first (one wants items) (other wants items) _ h

    reference_by_same : (b : Bool) (text : Option (List ℕ)) (items : Option (List Node)) → IfSome items (AllWithin d)
        → Same (loading.reference_by one b text items) (loading.reference_by other b text items)
    reference_by_same b (Some text) items h = λ s. refl
    reference_by_same b None (Some items) h = inline_same true items (agree.shallow true items h)
    reference_by_same b None None h = λ s. refl

    reference_same : (b : Bool) (v : Node) → nesting v ≤ suc d
        → Same (loading.reference one b v) (loading.reference other b v)
    reference_same b v h = reference_by_same b (text_in v) (list_in v) (list_within v d h)

    add_same : (found : List ContextReference) (v : Node) → nesting v ≤ suc d
        → Same (loading.add_reference one found v) (loading.add_reference other found v)
    add_same found v h =
        same_first (loading.reference one false v) (loading.reference other false v) _ (reference_same false v h)

    references_same : (v : Node) → nesting v ≤ suc d → Same (loading.references one v) (loading.references other v)
    references_same v h = go (is_none v) (is_several v)
      where
        go : (a b : Bool)
            → Same
            (if a then refuse wrong_kind
            else if b then each (loading.add_reference one) [] (unwrap_or (list_in v) [])
            else loading.add_reference one [] v)
            (if a then refuse wrong_kind
            else if b then each (loading.add_reference other) [] (unwrap_or (list_in v) [])
            else loading.add_reference other [] v)
        go true b = λ s. refl
        go false true =
            same_each (Within d) (loading.add_reference one) (loading.add_reference other) []
            (unwrap_or (list_in v) []) (unwrap_within d (list_in v) (list_within v d h))
            (λ found x k. add_same found x (omega (arith, k)))
        go false false = add_same [] v h

    embed_same : (m v : Node) (escape : Option Node) → nesting v ≤ suc d
        → Same (loading.embedded_until one m v escape) (loading.embedded_until other m v escape)
    embed_same m v None h = λ s. refl
    embed_same m v (Some escape) h =
        same_both
        (loading.inline one true (escape_items m escape)) (loading.inline other true (escape_items m escape)) _ _
        (inline_same true (escape_items m escape) (agree.escapes true m escape))
        (λ out. same_first (loading.reference one true v) (loading.reference other true v) _ (reference_same true v h))

    -- a pop, a push, a set, an embed, or none of them
    operation_same : (m : Node) (pop push set embed : Option Node)
        → IfSome push (Within (suc d)) → IfSome set (Within (suc d)) → IfSome embed (Within (suc d))
        → Same (loading.operation_by one m pop push set embed) (loading.operation_by other m pop push set embed)
    operation_same m (Some pop) push set embed h k i = λ s. refl
    operation_same m None (Some v) set embed h k i =
        same_first (loading.references one v) (loading.references other v) _ (references_same v h)
    operation_same m None None (Some v) embed h k i =
        same_first (loading.references one v) (loading.references other v) _ (references_same v k)
    operation_same m None None None (Some v) h k i = embed_same m v (get (codes "escape") m) i
    operation_same m None None None None h k i = λ s. refl

    ahead_same : (escape : Option Node) → Same (loading.ahead_of one escape) (loading.ahead_of other escape)
    ahead_same None = λ s. refl
    ahead_same (Some escape) =
        same_rest (known wrong_kind (text_in escape)) _ _ (λ text.
        same_first (loading.inline one false (ahead_items text)) (loading.inline other false (ahead_items text)) _
        (inline_same false (ahead_items text) (agree.aheads false text)))

    prototype_same : (items : Option (List Node)) (escape : Option Node) → IfSome items (AllWithin d)
        → Same (loading.prototype_by one items escape) (loading.prototype_by other items escape)
    prototype_same (Some items) escape h =
        same_first (loading.inline one false items) (loading.inline other false items) _
        (inline_same false items (agree.shallow false items h))
    prototype_same None escape h = ahead_same escape

    match_same : (m : Node) → nesting m ≤ suc (suc d) → Same (loading.match one m) (loading.match other m)
    match_same m h =
        same_rest (finding (loading.pattern_at m)) _ _ (λ text.
        same_rest (perhaps scopes [] (at text_in (codes "scope") m)) _ _ (λ ss.
        same_rest (loading.captures_at m (tested_text text)) _ _ (λ cs.
        same_both (loading.operation one m) (loading.operation other m) _ _
        (operation_same m
        (get (codes "pop") m) (get (codes "push") m) (get (codes "set") m) (get (codes "embed") m)
        (get_within (codes "push") m (suc d) h) (get_within (codes "set") m (suc d) h)
        (get_within (codes "embed") m (suc d) h)) (λ o.
        same_first (loading.with_prototype one m) (loading.with_prototype other m) _
        (prototype_same (at list_in (codes "with_prototype") m) (get (codes "escape") m)
        (list_at_within (codes "with_prototype") m d h))))))

    entry_same : (c : Context) (m : Node) (include : Option Node) → nesting m ≤ suc (suc d)
        → IfSome include (Within (suc d)) → Same (loading.entry_by one c m include) (loading.entry_by other c m include)
    entry_same c m (Some v) h k =
        same_first (loading.reference one false v) (loading.reference other false v) _ (reference_same false v k)
    entry_same c m None h k = same_first (loading.match one m) (loading.match other m) _ (match_same m h)

    item_of_same : (c : Context) (m : Node) → nesting m ≤ suc (suc d)
        → Same (loading.item_of one c m) (loading.item_of other c m)
    item_of_same c m h = go (loading.is_setting m)
      where
        go : (b : Bool)
            → Same (if b then loading.set c m else loading.entry_by one c m (get (codes "include") m))
            (if b then loading.set c m else loading.entry_by other c m (get (codes "include") m))
        go true = λ s. refl
        go false = entry_same c m (get (codes "include") m) h (get_within (codes "include") m (suc d) h)

  -- ---- contexts ----

  -- what is no map is refused, and a map nests
  item_same : (c : Context) (v : Node) (n : ℕ) → nesting v ≤ n → (0 < n → Agree one other (n - 2))
      → Same (loading.item one c v) (loading.item other c v)
  item_same c (node.scalar s) n h agree = λ t. refl
  item_same c (node.list vs) n h agree = λ t. refl
  item_same c (node.map es) n h agree =
      item_of_same (n - 2) (agree (omega arith)) c (node.map es) (omega arith)

  pub named_same : (name : List ℕ) (wants : Bool) (items : List Node) (n : ℕ)
      → AllWithin n items → (0 < n → Agree one other (n - 2))
      → Same (named_context one name wants items) (named_context other name wants items)
  named_same name wants items n h agree =
      same_first (each (loading.item one) (new_context wants) items) (each (loading.item other) (new_context wants) items) _
      (same_each (Within n) (loading.item one) (loading.item other) (new_context wants) items h
      (λ c v k. item_same c v n k agree))

  -- ---- contexts that the loader makes ----

  -- an item that is read without reading a context
  abbrev HoldsNone : Node → Type 0
  HoldsNone v = (c : Context) → Same (loading.item one c v) (loading.item other c v)

  named_same_none : (name : List ℕ) (wants : Bool) (items : List Node) → AllByRecursion HoldsNone items
      → Same (named_context one name wants items) (named_context other name wants items)
  named_same_none name wants items h =
      same_first (each (loading.item one) (new_context wants) items) (each (loading.item other) (new_context wants) items) _
      (same_each HoldsNone (loading.item one) (loading.item other) (new_context wants) items h (λ c v k. k c))

  leaving_holds_none : (pattern : Node) (captures : Option Node) → HoldsNone (map_node (leaving pattern captures))
  leaving_holds_none pattern None c s = refl
  leaving_holds_none pattern (Some v) c s = refl

  scope_holds_none : (scope : Option Node) (rest : List Node) → AllByRecursion HoldsNone rest
      → AllByRecursion HoldsNone (perhaps_map (codes "meta_content_scope") scope ++ rest)
  scope_holds_none None rest h = h
  scope_holds_none (Some v) rest h = ((λ c s. refl), h)

  pub escape_same : (name : List ℕ) (wants : Bool) (m escape : Node)
      → Same (named_context one name wants (escape_items m escape)) (named_context other name wants (escape_items m escape))
  escape_same name wants m escape =
      let captures = get (codes "escape_captures") m in
      named_same_none name wants (escape_items m escape) (
        (λ c s. refl),
        scope_holds_none (get (codes "embed_scope") m) (map_node (leaving escape captures) ∷ [])
            (leaving_holds_none escape captures, tt),
      )

  pub ahead_items_same : (name : List ℕ) (wants : Bool) (text : List ℕ)
      → Same (named_context one name wants (ahead_items text)) (named_context other name wants (ahead_items text))
  ahead_items_same name wants text =
      named_same_none name wants (ahead_items text)
      (leaving_holds_none (text_node (codes "(?=" ++ text ++ codes ")")) None, tt)
