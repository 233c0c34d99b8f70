-- The bound on how deep contexts nest is never felt.
use Rattle.std.proofs.Common.{◌≡◌, ℕ, zero, suc, ◌-◌, ◌≤◌, ◌<◌, Bool, not, List, [], Option, Some, None, refl, ap, arith, ◌∙◌, sym}
use Rattle.std.specs.Prelude.{codes, IfSome, IfOk}
use Rattle.std.specs.Str.{bytes_eq}
use Rattle.syntect_yaml.specs.Node.{Node, get, text_of}
use Rattle.syntect_yaml.specs.Yaml.{yaml_of, deepest}
use Rattle.syntect_yaml.specs.declared.value.Scalar.{Scalar}
use Rattle.syntect_laws.specs.syntect_grammar_loader.LoadingSteps.{wrong_kind, refuse, known, found_in, each}
use Rattle.syntect_laws.specs.syntect_grammar_loader.LoadingValues.{list_in, map_in, escape_items, ahead_items}
use Rattle.syntect_laws.specs.syntect_grammar_loader.LoadingParts.{scope}
use Rattle.syntect_laws.specs.syntect_grammar_loader.LoadingContexts.{begin, context}
use Rattle.syntect_laws.specs.syntect_grammar_loader.Loading.{definition_in, contexts_at, scope_text_at, of_kind, wanted_by, nothing_read, variables_at, finish, enter, prototype_name}
use Rattle.syntect_laws.specs.YamlLaws.{nesting, ReadFits}
use Rattle.syntect_laws.specs.Inner.{Inner, top_context_over, top_entry_over, read_contexts_over, definition_over, definition_in_over, context_above}
use Rattle.syntect_laws.specs.LoaderLaws.{DepthIsEnough, DepthIsNotFelt, BoundIsNotReached}
use Rattle.syntect_laws.proofs.LoaderPartLaws.{Within, AllWithin, EntriesWithin, get_within, list_within, map_within}
use Rattle.syntect_laws.proofs.StepLaws.{Same, same_rest, same_first, same_found, same_each}
use Rattle.syntect_laws.proofs.ItemLaws.{Agree, named_same, escape_same, ahead_items_same}

-- ---- contexts up to a bound, and over any way to read what stands at another ----

module _ (deep : Inner) where
  -- contexts that the loader makes hold no others
  escapes_same : (m n : ℕ) → 0 < m → 0 < n → (wants : Bool) (v escape : Node)
      → Same (context m wants (escape_items v escape)) (context_above deep n wants (escape_items v escape))
  unfolding context context_above
  escapes_same zero n h k wants v escape = λ s. absurd (omega arith)
  escapes_same (suc m) zero h k wants v escape = λ s. absurd (omega arith)
  escapes_same (suc m) (suc n) h k wants v escape =
      same_rest begin _ _ (λ name. escape_same (context m) (context_above deep n) name wants v escape)

  aheads_same : (m n : ℕ) → 0 < m → 0 < n → (wants : Bool) (text : List ℕ)
      → Same (context m wants (ahead_items text)) (context_above deep n wants (ahead_items text))
  unfolding context context_above
  aheads_same zero n h k wants text = λ s. absurd (omega arith)
  aheads_same (suc m) zero h k wants text = λ s. absurd (omega arith)
  aheads_same (suc m) (suc n) h k wants text =
      same_rest begin _ _ (λ name. ahead_items_same (context m) (context_above deep n) name wants text)

  -- items that nest less deep than both bounds
  context_same : (m n d : ℕ) → d < m → d < n → (wants : Bool) (items : List Node) → AllWithin d items
      → Same (context m wants items) (context_above deep n wants items)
  unfolding context context_above
  context_same zero n d h k wants items i = λ s. absurd (omega arith)
  context_same (suc m) zero d h k wants items i = λ s. absurd (omega arith)
  context_same (suc m) (suc n) d h k wants items i =
      same_rest begin _ _ (λ name.
      named_same (context m) (context_above deep n) name wants items d i (λ some. record {
        shallow = context_same m n (d - 2) (omega arith) (omega arith);
        escapes = escapes_same m n (omega arith) (omega arith);
        aheads = aheads_same m n (omega arith) (omega arith);
      }))

  contexts_agree : (m n d : ℕ) → d ≤ m → d ≤ n → 0 < d → Agree (context m) (context_above deep n) (d - 2)
  contexts_agree m n d h k some = record {
    shallow = context_same m n (d - 2) (omega arith) (omega arith);
    escapes = escapes_same m n (omega arith) (omega arith);
    aheads = aheads_same m n (omega arith) (omega arith);
  }

-- ---- the contexts of a value ----

-- a value that nests no deeper than d, over two ways to read contexts that agree so deep
module _ (one other : Inner) (d : ℕ) (agree : 0 < d → Agree one other (d - 2)) where
  top_same : (name : Option (List ℕ)) (items : Option (List Node)) → IfSome items (AllWithin d)
      → Same (top_context_over one name items) (top_context_over other name items)
  top_same (Some name) (Some items) i =
      λ s. named_same one other name (not (bytes_eq name prototype_name)) items d i agree (enter name s)
  top_same (Some name) None i = λ s. refl
  top_same None items i = λ s. refl

  entry_same : (found : List ℕ) (e : Scalar × Node) → nesting e.1 ≤ d
      → Same (top_entry_over one found e) (top_entry_over other found e)
  entry_same found e i =
      let name = text_of e.0 in
      same_first (top_context_over one name (list_in e.1)) (top_context_over other name (list_in e.1)) _
      (top_same name (list_in e.1) (list_within e.1 d (omega arith)))

  contexts_within : (v : Node) → nesting v ≤ d → IfOk (contexts_at v) (EntriesWithin d)
  contexts_within v i = by (get (codes "contexts") v) (get_within (codes "contexts") v d (omega arith))
    where
      kind : (o : Option (List (Scalar × Node))) → IfSome o (EntriesWithin d) → IfOk (of_kind o) (EntriesWithin d)
      kind None j = tt
      kind (Some es) j = j

      by : (o : Option Node) → IfSome o (Within d) → IfOk (wanted_by map_in (codes "contexts") o) (EntriesWithin d)
      by None j = tt
      by (Some w) j = kind (map_in w) (map_within w d (omega (arith, j)))

  read_same : (v : Node) → nesting v ≤ d → Same (read_contexts_over one v) (read_contexts_over other v)
  read_same v i =
      same_rest (known wrong_kind (map_in v)) _ _ (λ es.
      same_found (EntriesWithin d) (contexts_at v) _ _ (contexts_within v i) (λ contexts within.
      same_rest (found_in (scope_text_at v)) _ _ (λ text.
      same_rest (scope text) _ _ (λ top_scope.
      same_first (each (top_entry_over one) [] contexts) (each (top_entry_over other) [] contexts) _
      (same_each (λ e. nesting e.1 ≤ d) (top_entry_over one) (top_entry_over other) [] contexts within entry_same)))))

  definition_same : (v : Node) (b : Bool) (fallback : Option (List ℕ)) (repository : List (List ℕ)) → nesting v ≤ d
      → definition_over one v b fallback repository ≡ definition_over other v b fallback repository
  definition_same v b fallback repository i =
      ap (finish v fallback) (read_same v i (nothing_read (variables_at v) b repository))

-- ---- the laws ----

module _ (lines_include_newline : Bool) (fallback : Option (List ℕ)) (repository : List (List ℕ)) where
  above_same : (deep : Inner) (m n : ℕ) (v : Node) → nesting v ≤ m → nesting v ≤ n
      → definition_over (context m) v lines_include_newline fallback repository
      ≡ definition_over (context_above deep n) v lines_include_newline fallback repository
  above_same deep m n v h k =
      definition_same (context m) (context_above deep n) (nesting v) (contexts_agree deep m n (nesting v) h k) v
      lines_include_newline fallback repository (omega arith)

  within_same : (m n : ℕ) (v : Node) → nesting v ≤ m → nesting v ≤ n
      → definition_over (context m) v lines_include_newline fallback repository
      ≡ definition_over (context n) v lines_include_newline fallback repository
  within_same m n v h k = above_same no_context m n v h k ∙ sym (above_same no_context n n v k k)
    where
      no_context : Inner
      no_context wants items = refuse wrong_kind

pub depth_is_enough : DepthIsEnough
depth_is_enough v n lines_include_newline fallback repository h =
    within_same lines_include_newline fallback repository n (nesting v) v h (omega arith)

pub depth_is_not_felt : ReadFits → DepthIsNotFelt
depth_is_not_felt fits text n lines_include_newline fallback repository h = go (yaml_of text) refl
  where
    go : (o : Option (Option Node)) → yaml_of text ≡ o
        → definition_in_over (context n) o lines_include_newline fallback repository
        ≡ definition_in o lines_include_newline fallback repository
    go None e = refl
    go (Some None) e = refl
    go (Some (Some v)) e =
        let within : nesting v ≤ deepest = (fits text v e).1 in
        within_same lines_include_newline fallback repository n deepest v (omega arith) within

pub bound_is_not_reached : ReadFits → BoundIsNotReached
bound_is_not_reached fits text deep lines_include_newline fallback repository = go (yaml_of text) refl
  where
    go : (o : Option (Option Node)) → yaml_of text ≡ o
        → definition_in_over (context_above deep deepest) o lines_include_newline fallback repository
        ≡ definition_in o lines_include_newline fallback repository
    go None e = refl
    go (Some None) e = refl
    go (Some (Some v)) e =
        let within : nesting v ≤ deepest = (fits text v e).1 in
        sym (above_same lines_include_newline fallback repository deep deepest deepest v within within)
