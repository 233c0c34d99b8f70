-- Definitions whose references are by name are linked to a closed set.
use Rattle.std.proofs.Common.{◌≡◌, ℕ, zero, suc, ◌+◌, ◌<◌, Bool, true, false, ◌||◌, ◌==◌, List, [], ◌∷◌, ◌++◌, length, map, Option, Some, None, is_none, slice_get, get_or, unwrap_or, refl, ap, sym, ◌∙◌, arith, if◌then◌else◌}
use Rattle.std.specs.Prelude.{position, codes}
use Rattle.std.specs.Cmp.Lexicographic.{pointwise}
use Rattle.std.specs.List.{filter_map, cons_option, list_any}
use Rattle.std.specs.Option.{option_map, option_map_or, option_to_list, option_and_then}
use Rattle.std.proofs.lemmas.Option.{slice_get-map}
use Rattle.std.proofs.lemmas.List.Quantifiers.{position-Some}
use Rattle.syntect_parsing.specs.syntect_grammar.Contexts.{context_at, contexts_of}
use Rattle.syntect_parsing.specs.syntect_grammar_contexts.Contexts.{target}
use Rattle.syntect_reading_choice.specs.Turn.{named, list_of}
use Rattle.syntect_parsing.specs.syntect_grammar.Link.{syntaxes_in, linked, linked_from, linked_definition}
use Rattle.syntect_parsing.specs.syntect_grammar_linker.LinkedContexts.{linked_contexts, linked_context, linked_pattern, linked_operation}
use Rattle.syntect_parsing.specs.syntect_grammar.Link.{names_of, head_of, heads_from, body_of}
use Rattle.syntect_parsing.specs.syntect_grammar_contexts.Contexts.{named_in}
use Rattle.syntect_parsing.specs.syntect_grammar_linker.References.{context_named, meant, last_that, context_by, has_scope, has_name, or_plain_text, link_of, linked_reference}
use Rattle.syntect_parsing.specs.syntect_grammar_linker.Reached.{unless_reached, is_reached, prototype_for}
use Rattle.syntect_parsing.specs.Refusals.{NamesKnown, LinksClosed, AreByName, KnowNoNumber, NamesNoNumber, is_direct}
use Rattle.syntect_parsing.proofs.EachLaws.{Each}
use Rattle.syntect_parsing.proofs.ClosedLaws.{Has, misses_none}
use Rattle.syntect_parsing.specs.syntect_grammar_contexts.declared.context.ContextId.{ContextId}
use Rattle.syntect_parsing.specs.syntect_grammar_contexts.declared.context.ContextReference.{ContextReference}
use Rattle.syntect_parsing.specs.syntect_grammar_contexts.declared.context.ContextReference.TheVariants as ref
use Rattle.syntect_parsing.specs.syntect_grammar_contexts.declared.context.MatchOperation.{MatchOperation}
use Rattle.syntect_parsing.specs.syntect_grammar_contexts.declared.context.MatchOperation.TheVariants as op
use Rattle.syntect_parsing.specs.syntect_grammar_contexts.declared.context.Pattern.{Pattern}
use Rattle.syntect_parsing.specs.syntect_grammar_contexts.declared.context.Pattern.TheVariants.{Match, Include}
use Rattle.syntect_parsing.specs.syntect_grammar_contexts.declared.context.Context.{Context}
use Rattle.syntect_parsing.specs.syntect_grammar_loader.declared.definition.SyntaxDefinition.{SyntaxDefinition}
use Rattle.syntect_parsing.specs.syntect_grammar_contexts.declared.syntax_reference.SyntaxReference.{SyntaxReference}
use Rattle.syntect_parsing.specs.syntect_grammar.declared.syntax_set.SyntaxSet.{SyntaxSet}

-- ---- definitions by their index ----

linked_at : (heads : List SyntaxReference) (bodies : List (List Context)) (index : ℕ) (ds : List SyntaxDefinition) (k : ℕ)
    → slice_get (linked_from heads bodies index ds) k ≡ option_map (linked_definition heads bodies (index + k)) (slice_get ds k)
linked_at heads bodies index [] k = refl
linked_at heads bodies index (d ∷ ds) zero = let e : index + 0 ≡ index = omega arith in rw e refl
linked_at heads bodies index (d ∷ ds) (suc k) =
    let e : (index + 1) + k ≡ index + suc k = omega arith in
    let h : slice_get (linked_from heads bodies (index + 1) ds) k ≡ option_map (linked_definition heads bodies ((index + 1) + k)) (slice_get ds k) = linked_at heads bodies (index + 1) ds k in
    rw e at h

head_at : (index : ℕ) (ds : List SyntaxDefinition) (k : ℕ) → slice_get (heads_from index ds) k ≡ option_map (head_of (index + k)) (slice_get ds k)
head_at index [] k = refl
head_at index (d ∷ ds) zero = let e : index + 0 ≡ index = omega arith in rw e refl
head_at index (d ∷ ds) (suc k) =
    let e : (index + 1) + k ≡ index + suc k = omega arith in
    let h : slice_get (heads_from (index + 1) ds) k ≡ option_map (head_of ((index + 1) + k)) (slice_get ds k) = head_at (index + 1) ds k in
    rw e at h

abbrev number : ℕ → ℕ → ContextId
number i j = record { syntax_index = i; context_index = j }

in_row : (heads : List SyntaxReference) (bodies : List (List Context)) (i p : ℕ) (cs : List Context) (j : ℕ)
    → slice_get (linked_contexts heads bodies i p cs) j ≡ option_map (linked_context heads bodies (number i (p + j))) (slice_get cs j)
in_row heads bodies i p [] j = refl
in_row heads bodies i p (c ∷ cs) zero = let e : p + 0 ≡ p = omega arith in rw e refl
in_row heads bodies i p (c ∷ cs) (suc j) =
    let e : (p + 1) + j ≡ p + suc j = omega arith in
    let h : slice_get (linked_contexts heads bodies i (p + 1) cs) j ≡ option_map (linked_context heads bodies (number i ((p + 1) + j))) (slice_get cs j) = in_row heads bodies i (p + 1) cs j in
    rw e at h

map_twice : {A B C : Type 0} (f : B → C) (g : A → B) (o : Option A) → option_map f (option_map g o) ≡ option_map (λ x. f (g x)) o
map_twice f g None = refl
map_twice f g (Some x) = refl

by_name_at : (ds : List SyntaxDefinition) (k : ℕ) (d : SyntaxDefinition) → AreByName ds → slice_get ds k ≡ Some d → KnowNoNumber d.contexts
by_name_at [] k d h e = cc
by_name_at (x ∷ ds) zero d h e = let f : x ≡ d = cc in rw (← f) h.0
by_name_at (x ∷ ds) (suc k) d h e = by_name_at ds k d h.1 e

abbrev OfEntry : Context → Type 0
OfEntry c = (c.prototype ≡ None) × NamesNoNumber c.patterns

entry_at : (entries : List (List ℕ × Context)) (k : ℕ) (entry : List ℕ × Context) → KnowNoNumber entries → slice_get entries k ≡ Some entry → OfEntry entry.1
entry_at [] k entry h e = cc
entry_at (x ∷ entries) zero entry h e = let f : x ≡ entry = cc in rw (← f) (h.0, h.1)
entry_at (x ∷ entries) (suc k) entry h e = entry_at entries k entry h.2 e

-- ---- contexts of the set ----

module _ (set : SyntaxSet) (ds : List SyntaxDefinition) (built : syntaxes_in set ≡ linked ds) where
  abbrev heads : List SyntaxReference
  heads = heads_from 0 ds

  abbrev bodies : List (List Context)
  bodies = map body_of ds

  contexts_at : (i : ℕ) → slice_get (contexts_of set) i ≡ option_map (λ (d : SyntaxDefinition). linked_contexts heads bodies i 0 (body_of d)) (slice_get ds i)
  contexts_at i =
      let z : 0 + i ≡ i = omega arith in
      let h : slice_get (linked_from heads bodies 0 ds) i ≡ option_map (linked_definition heads bodies (0 + i)) (slice_get ds i) = linked_at heads bodies 0 ds i in
      let g : slice_get (linked_from heads bodies 0 ds) i ≡ option_map (linked_definition heads bodies i) (slice_get ds i) = rw z at h in
      slice_get-map (λ (s : SyntaxReference). s.contexts) (syntaxes_in set) i ∙ ap (λ (l : List SyntaxReference). option_map (λ (s : SyntaxReference). s.contexts) (slice_get l i)) built
      ∙ ap (option_map (λ (s : SyntaxReference). s.contexts)) g
      ∙ map_twice (λ (s : SyntaxReference). s.contexts) (linked_definition heads bodies i) (slice_get ds i)

  there : (i j : ℕ) (d : SyntaxDefinition) → slice_get ds i ≡ Some d
      → context_at set (number i j) ≡ option_map (λ (entry : List ℕ × Context). linked_context heads bodies (number i j) entry.1) (slice_get d.contexts j)
  there i j d e =
      let y : 0 + j ≡ j = omega arith in
      let r : slice_get (linked_contexts heads bodies i 0 (body_of d)) j ≡ option_map (linked_context heads bodies (number i (0 + j))) (slice_get (body_of d) j) = in_row heads bodies i 0 (body_of d) j in
      let s : slice_get (linked_contexts heads bodies i 0 (body_of d)) j ≡ option_map (linked_context heads bodies (number i j)) (slice_get (body_of d) j) = rw y at r in
      ap (option_and_then (λ (cs : List Context). slice_get cs j)) (contexts_at i ∙ ap (option_map (λ (d : SyntaxDefinition). linked_contexts heads bodies i 0 (body_of d))) e)
      ∙ s ∙ ap (option_map (linked_context heads bodies (number i j))) (slice_get-map (λ (entry : List ℕ × Context). entry.1) d.contexts j)
      ∙ map_twice (linked_context heads bodies (number i j)) (λ (entry : List ℕ × Context). entry.1) (slice_get d.contexts j)

  -- a context of the set is one of a definition, linked
  record IsOf (id : ContextId) (c : Context) : Type 0 where
    pub definition : SyntaxDefinition
    pub at : slice_get ds id.syntax_index ≡ Some definition
    pub entry : List ℕ × Context
    pub among : slice_get definition.contexts id.context_index ≡ Some entry
    pub is : linked_context heads bodies id entry.1 ≡ c

  is_of : (id : ContextId) (c : Context) (o : Option SyntaxDefinition) → slice_get ds id.syntax_index ≡ o → context_at set id ≡ Some c → IsOf id c
  is_of id c None e f =
      let k : context_at set id ≡ None = ap (option_and_then (λ (cs : List Context). slice_get cs id.context_index)) (contexts_at id.syntax_index ∙ ap (option_map (λ (d : SyntaxDefinition). linked_contexts heads bodies id.syntax_index 0 (body_of d))) e) in
      let h : None ≡ Some c = sym k ∙ f in
      cc
  is_of id c (Some d) e f = by (slice_get d.contexts id.context_index) refl
    where
      by : (o : Option (List ℕ × Context)) → slice_get d.contexts id.context_index ≡ o → IsOf id c
      by None g =
          let h : None ≡ Some c = sym (there id.syntax_index id.context_index d e ∙ ap (option_map (λ (entry : List ℕ × Context). linked_context heads bodies id entry.1)) g) ∙ f in
          cc
      by (Some x) g =
          let h : Some (linked_context heads bodies id x.1) ≡ Some c = sym (there id.syntax_index id.context_index d e ∙ ap (option_map (λ (entry : List ℕ × Context). linked_context heads bodies id entry.1)) g) ∙ f in
          record { definition = d; at = e; entry = x; among = g; is = cc }

-- ---- what is named is in the set ----

entry_there : (entries : List (List ℕ × Context)) (k : ℕ) → k < length (names_of entries) → (entry : List ℕ × Context) × (slice_get entries k ≡ Some entry)
entry_there [] k l = absurd (omega arith)
entry_there (x ∷ entries) zero l = (x, refl)
entry_there (x ∷ entries) (suc k) l = entry_there entries k (omega arith)

some_there : {A : Type 0} (o : Option A) (x : A) → o ≡ Some x → is_none o ≡ false
some_there None x e = cc
some_there (Some y) x e = refl

module _ (set : SyntaxSet) (ds : List SyntaxDefinition) (built : syntaxes_in set ≡ linked ds) where
  abbrev set_heads : List SyntaxReference
  set_heads = heads_from 0 ds

  abbrev set_bodies : List (List Context)
  set_bodies = map body_of ds

  has_position : (i : ℕ) (d : SyntaxDefinition) → slice_get ds i ≡ Some d → (name : List ℕ) (o : Option ℕ) → position (pointwise ◌==◌ name) (names_of d.contexts) ≡ o
      → (id : ContextId) → option_map (λ k. record { syntax_index = i; context_index = k }) o ≡ Some id → Has set id
  has_position i d at name None e id f = cc
  has_position i d at name (Some k) e id f =
      let n : (k < length (names_of d.contexts)) × (pointwise ◌==◌ name (get_or (names_of d.contexts) k []) ≡ true) × ((j : ℕ) → j < k → pointwise ◌==◌ name (get_or (names_of d.contexts) j []) ≡ false)
      = position-Some (pointwise ◌==◌ name) (names_of d.contexts) k [] e in
      let x : (entry : List ℕ × Context) × (slice_get d.contexts k ≡ Some entry) = entry_there d.contexts k n.0 in
      let s : record { syntax_index = i; context_index = k } ≡ id = cc in
      rw (← s) (some_there (context_at set (number i k)) (linked_context set_heads set_bodies (number i k) x.0.1)
      (there set ds built i k d at ∙ ap (option_map (λ (entry : List ℕ × Context). linked_context set_heads set_bodies (number i k) entry.1)) x.1))

  has_context : (i : ℕ) (name : List ℕ) (id : ContextId) → context_named set_heads i name ≡ Some id → Has set id
  has_context i name id e = by (slice_get ds i) refl
    where
      head : slice_get set_heads i ≡ option_map (head_of (0 + i)) (slice_get ds i)
      head = head_at 0 ds i

      by : (o : Option SyntaxDefinition) → slice_get ds i ≡ o → Has set id
      by None g =
          let k : context_named set_heads i name ≡ None = ap (option_and_then (λ (s : SyntaxReference). named_in i s.names name)) (head ∙ ap (option_map (head_of (0 + i))) g) in
          let h : None ≡ Some id = sym k ∙ e in
          cc
      by (Some d) g =
          let k : context_named set_heads i name ≡ named_in i (names_of d.contexts) name = ap (option_and_then (λ (s : SyntaxReference). named_in i s.names name)) (head ∙ ap (option_map (head_of (0 + i))) g) in
          has_position i d g name (position (pointwise ◌==◌ name) (names_of d.contexts)) refl id (sym k ∙ e)

  has_by : (test : SyntaxReference → Bool) (sub : Option (List ℕ)) (id : ContextId) → context_by test set_heads sub ≡ Some id → Has set id
  has_by test sub id e = by (last_that test set_heads) e
    where
      by : (o : Option ℕ) → option_and_then (λ index. context_named set_heads index (unwrap_or sub (codes "main"))) o ≡ Some id → Has set id
      by None f = cc
      by (Some k) f = has_context k (unwrap_or sub (codes "main")) id f

  has_or_plain : (escape : Bool) (o : Option ContextId) → ((id : ContextId) → o ≡ Some id → Has set id) → (id : ContextId) → or_plain_text set_heads escape o ≡ Some id → Has set id
  has_or_plain escape (Some x) h id e = h id e
  has_or_plain true None h id e = has_by (has_name (codes "Plain Text")) None id e
  has_or_plain false None h id e = cc

  has_link : (i : ℕ) (r : ContextReference) → is_direct r ≡ false → (id : ContextId) → link_of set_heads i r ≡ Some id → Has set id
  has_link i (ref.Named name) e id f = has_context i (meant name) id f
  has_link i (ref.Inline name) e id f = has_context i (meant name) id f
  has_link i (ref.ByScope scope sub escape) e id f = has_or_plain escape (context_by (has_scope scope) set_heads sub) (has_by (has_scope scope) sub) id f
  has_link i (ref.File name sub escape) e id f = has_or_plain escape (context_by (has_name name) set_heads sub) (has_by (has_name name) sub) id f
  has_link i (ref.Direct x) e id f = cc

  abbrev HasTarget : Option ContextId → Type 0
  HasTarget None = Unit {0}
  HasTarget (Some id) = Has set id

  unlinked : (r : ContextReference) → is_direct r ≡ false → target r ≡ None
  unlinked (ref.Named name) e = refl
  unlinked (ref.Inline name) e = refl
  unlinked (ref.ByScope x y z) e = refl
  unlinked (ref.File x y z) e = refl
  unlinked (ref.Direct id) e = cc

  reference_target : (i : ℕ) (r : ContextReference) → is_direct r ≡ false → HasTarget (target (linked_reference set_heads i r))
  reference_target i r e = by (link_of set_heads i r) (has_link i r e)
    where
      by : (o : Option ContextId) → ((id : ContextId) → o ≡ Some id → Has set id) → HasTarget (target (unwrap_or (option_map ref.Direct o) r))
      by None h = rw (unlinked r e) tt
      by (Some id) h = h id refl

  targets-cons : (o : Option ContextId) (ids : List ContextId) → HasTarget o → Each (Has set) ids → Each (Has set) (cons_option o ids)
  targets-cons None ids h e = e
  targets-cons (Some id) ids h e = (h, e)

  neither : (a b : Bool) → (a || b) ≡ false → (a ≡ false) × (b ≡ false)
  neither true b e = cc
  neither false b e = (refl, e)

  module _ (i : ℕ) where
    targets : (refs : List ContextReference) → list_any is_direct refs ≡ false → Each (Has set) (filter_map target (map (linked_reference set_heads i) refs))
    targets [] e = tt
    targets (r ∷ refs) e =
        let k : (is_direct r ≡ false) × (list_any is_direct refs ≡ false) = neither (is_direct r) (list_any is_direct refs) e in
        targets-cons (target (linked_reference set_heads i r)) (filter_map target (map (linked_reference set_heads i) refs)) (reference_target i r k.0) (targets refs k.1)

    together : (refs : List ContextReference) (w : Option ContextReference)
        → map (linked_reference set_heads i) refs ++ option_to_list (option_map (linked_reference set_heads i) w) ≡ map (linked_reference set_heads i) (refs ++ option_to_list w)
    together [] None = refl
    together [] (Some r) = refl
    together (r ∷ refs) w = ap (λ rs. linked_reference set_heads i r ∷ rs) (together refs w)

    named_linked : (o : MatchOperation) (w : Option ContextReference)
        → option_map_or (λ refs. refs ++ option_to_list (option_map (linked_reference set_heads i) w)) (list_of (linked_operation set_heads i o)) []
        ≡ map (linked_reference set_heads i) (option_map_or (λ refs. refs ++ option_to_list w) (list_of o) [])
    named_linked (op.Push refs) w = together refs w
    named_linked (op.Set refs) w = together refs w
    named_linked op.Pop w = refl
    named_linked op.None w = refl

    patterns_known : (ps : List Pattern) → NamesNoNumber ps → NamesKnown set (map (linked_pattern set_heads i) ps)
    patterns_known [] h = tt
    patterns_known (Match m ∷ ps) h =
        (misses_none set _ (rw (named_linked m.operation m.with_prototype) (targets (named m) h.0)), patterns_known ps h.1)
    patterns_known (Include r ∷ ps) h = patterns_known ps h

  -- the prototype that a context is given is in the set
  prototype_there : (id : ContextId) (c : Context) → c.prototype ≡ None → Each (Has set) (option_to_list (prototype_for set_heads set_bodies id c))
  prototype_there id c e =
      rw e (by c.meta_include_prototype (context_named set_heads id.syntax_index (codes "prototype")) (has_context id.syntax_index (codes "prototype")))
    where
      unless : (p : ContextId) (b : Bool) → Has set p → Each (Has set) (option_to_list (if b then None else Some p))
      unless p true h = tt
      unless p false h = (h, tt)

      by : (b : Bool) (o : Option ContextId) → ((p : ContextId) → o ≡ Some p → Has set p) → Each (Has set) (option_to_list (if b then unless_reached set_heads set_bodies id o else None))
      by false o h = tt
      by true None h = tt
      by true (Some p) h = unless p (is_reached set_heads set_bodies p id) (h p refl)

pub links_closed : LinksClosed
links_closed set ds built h = record {
  names = λ id c e.
      let o : IsOf set ds built id c = is_of set ds built id c (slice_get ds id.syntax_index) refl e in
      let x : OfEntry o.entry.1 = entry_at o.definition.contexts id.context_index o.entry (by_name_at ds id.syntax_index o.definition h o.at) o.among in
      rw (← o.is) (patterns_known set ds built id.syntax_index o.entry.1.patterns x.1);
  prototypes = λ id c e.
      let o : IsOf set ds built id c = is_of set ds built id c (slice_get ds id.syntax_index) refl e in
      let x : OfEntry o.entry.1 = entry_at o.definition.contexts id.context_index o.entry (by_name_at ds id.syntax_index o.definition h o.at) o.among in
      rw (← o.is) (misses_none set _ (prototype_there set ds built id o.entry.1 x.0));
}
