-- Definitions whose references are by name are linked to a closed set.
use Rattle.std.proofs.Common.{◌≡◌, ℕ, zero, suc, ◌+◌, List, [], ◌∷◌, map, Option, Some, None, slice_get, refl, ap, sym, ◌∙◌, arith}
use Rattle.std.specs.Option.{option_map, option_and_then}
use Rattle.std.proofs.lemmas.Option.{slice_get-map}
use Rattle.syntect_closed.specs.syntect_grammar.Contexts.{context_at, contexts_of}
use Rattle.syntect_closed.specs.syntect_grammar.Link.{syntaxes_in, linked, linked_from, linked_definition}
use Rattle.syntect_closed.specs.syntect_grammar_linker.LinkedContexts.{linked_contexts, linked_context}
use Rattle.syntect_closed.specs.syntect_grammar.Link.{head_of, heads_from, body_of}
use Rattle.syntect_closed.specs.syntect_grammar_contexts.declared.context.ContextId.{ContextId}
use Rattle.syntect_closed.specs.syntect_grammar_contexts.declared.context.Context.{Context}
use Rattle.syntect_closed.specs.syntect_grammar_loader.declared.definition.SyntaxDefinition.{SyntaxDefinition}
use Rattle.syntect_closed.specs.syntect_grammar_contexts.declared.syntax_reference.SyntaxReference.{SyntaxReference}
use Rattle.syntect_closed.specs.syntect_grammar.declared.syntax_set.SyntaxSet.{SyntaxSet}

-- ---- definitions by their index ----

pub linked_at : (heads : List SyntaxReference) (bodies : List (List Context)) (index : ℕ) (ds : List SyntaxDefinition) (k : ℕ)
    → slice_get (linked_from heads bodies index ds) k ≡ option_map (linked_definition heads bodies (index + k)) (slice_get ds k)
linked_at heads bodies index [] k = refl
linked_at heads bodies index (d ∷ ds) zero = let e : index + 0 ≡ index = omega arith in rw e refl
linked_at heads bodies index (d ∷ ds) (suc k) =
    let e : (index + 1) + k ≡ index + suc k = omega arith in
    let h : slice_get (linked_from heads bodies (index + 1) ds) k ≡ option_map (linked_definition heads bodies ((index + 1) + k)) (slice_get ds k) = linked_at heads bodies (index + 1) ds k in
    rw e at h

pub head_at : (index : ℕ) (ds : List SyntaxDefinition) (k : ℕ) → slice_get (heads_from index ds) k ≡ option_map (head_of (index + k)) (slice_get ds k)
head_at index [] k = refl
head_at index (d ∷ ds) zero = let e : index + 0 ≡ index = omega arith in rw e refl
head_at index (d ∷ ds) (suc k) =
    let e : (index + 1) + k ≡ index + suc k = omega arith in
    let h : slice_get (heads_from (index + 1) ds) k ≡ option_map (head_of ((index + 1) + k)) (slice_get ds k) = head_at (index + 1) ds k in
    rw e at h

abbrev pub number : ℕ → ℕ → ContextId
number i j = record { syntax_index = i; context_index = j }

pub in_row : (heads : List SyntaxReference) (bodies : List (List Context)) (i p : ℕ) (cs : List Context) (j : ℕ)
    → slice_get (linked_contexts heads bodies i p cs) j ≡ option_map (linked_context heads bodies (number i (p + j))) (slice_get cs j)
in_row heads bodies i p [] j = refl
in_row heads bodies i p (c ∷ cs) zero = let e : p + 0 ≡ p = omega arith in rw e refl
in_row heads bodies i p (c ∷ cs) (suc j) =
    let e : (p + 1) + j ≡ p + suc j = omega arith in
    let h : slice_get (linked_contexts heads bodies i (p + 1) cs) j ≡ option_map (linked_context heads bodies (number i ((p + 1) + j))) (slice_get cs j) = in_row heads bodies i (p + 1) cs j in
    rw e at h

pub map_twice : {A B C : Type 0} (f : B → C) (g : A → B) (o : Option A) → option_map f (option_map g o) ≡ option_map (λ x. f (g x)) o
map_twice f g None = refl
map_twice f g (Some x) = refl

-- ---- contexts of the set ----

module _ (set : SyntaxSet) (ds : List SyntaxDefinition) (built : syntaxes_in set ≡ linked ds) where
  abbrev pub heads : List SyntaxReference
  heads = heads_from 0 ds

  abbrev pub bodies : List (List Context)
  bodies = map body_of ds

  pub contexts_at : (i : ℕ) → slice_get (contexts_of set) i ≡ option_map (λ (d : SyntaxDefinition). linked_contexts heads bodies i 0 (body_of d)) (slice_get ds i)
  contexts_at i =
      let z : 0 + i ≡ i = omega arith in
      let h : slice_get (linked_from heads bodies 0 ds) i ≡ option_map (linked_definition heads bodies (0 + i)) (slice_get ds i) = linked_at heads bodies 0 ds i in
      let g : slice_get (linked_from heads bodies 0 ds) i ≡ option_map (linked_definition heads bodies i) (slice_get ds i) = rw z at h in
      slice_get-map (λ (s : SyntaxReference). s.contexts) (syntaxes_in set) i ∙ ap (λ (l : List SyntaxReference). option_map (λ (s : SyntaxReference). s.contexts) (slice_get l i)) built
      ∙ ap (option_map (λ (s : SyntaxReference). s.contexts)) g
      ∙ map_twice (λ (s : SyntaxReference). s.contexts) (linked_definition heads bodies i) (slice_get ds i)

  pub there : (i j : ℕ) (d : SyntaxDefinition) → slice_get ds i ≡ Some d
      → context_at set (number i j) ≡ option_map (λ (entry : List ℕ × Context). linked_context heads bodies (number i j) entry.1) (slice_get d.contexts j)
  there i j d e =
      let y : 0 + j ≡ j = omega arith in
      let r : slice_get (linked_contexts heads bodies i 0 (body_of d)) j ≡ option_map (linked_context heads bodies (number i (0 + j))) (slice_get (body_of d) j) = in_row heads bodies i 0 (body_of d) j in
      let s : slice_get (linked_contexts heads bodies i 0 (body_of d)) j ≡ option_map (linked_context heads bodies (number i j)) (slice_get (body_of d) j) = rw y at r in
      ap (option_and_then (λ (cs : List Context). slice_get cs j)) (contexts_at i ∙ ap (option_map (λ (d : SyntaxDefinition). linked_contexts heads bodies i 0 (body_of d))) e)
      ∙ s ∙ ap (option_map (linked_context heads bodies (number i j))) (slice_get-map (λ (entry : List ℕ × Context). entry.1) d.contexts j)
      ∙ map_twice (linked_context heads bodies (number i j)) (λ (entry : List ℕ × Context). entry.1) (slice_get d.contexts j)

  -- a context of the set is one of a definition, linked
  pub record IsOf (id : ContextId) (c : Context) : Type 0 where
    pub definition : SyntaxDefinition
    pub at : slice_get ds id.syntax_index ≡ Some definition
    pub entry : List ℕ × Context
    pub among : slice_get definition.contexts id.context_index ≡ Some entry
    pub is : linked_context heads bodies id entry.1 ≡ c

  pub is_of : (id : ContextId) (c : Context) (o : Option SyntaxDefinition) → slice_get ds id.syntax_index ≡ o → context_at set id ≡ Some c → IsOf id c
  is_of id c None e f =
      let k : context_at set id ≡ None = ap (option_and_then (λ (cs : List Context). slice_get cs id.context_index)) (contexts_at id.syntax_index ∙ ap (option_map (λ (d : SyntaxDefinition). linked_contexts heads bodies id.syntax_index 0 (body_of d))) e) in
      let h : None ≡ Some c = sym k ∙ f in
      cc
  is_of id c (Some d) e f = by (slice_get d.contexts id.context_index) refl
    where
      by : (o : Option (List ℕ × Context)) → slice_get d.contexts id.context_index ≡ o → IsOf id c
      by None g =
          let h : None ≡ Some c = sym (there id.syntax_index id.context_index d e ∙ ap (option_map (λ (entry : List ℕ × Context). linked_context heads bodies id entry.1)) g) ∙ f in
          cc
      by (Some x) g =
          let h : Some (linked_context heads bodies id x.1) ≡ Some c = sym (there id.syntax_index id.context_index d e ∙ ap (option_map (λ (entry : List ℕ × Context). linked_context heads bodies id entry.1)) g) ∙ f in
          record { definition = d; at = e; entry = x; among = g; is = cc }
