-- What holds of a set that was built of plain definitions.
use Rattle.std.proofs.Common.{◌≡◌, ◌==◌, ℕ, zero, suc, ◌+◌, ◌≤◌, ◌<◌, Bool, ◌&&◌, true, false, is_none, get_or, List, [], ◌∷◌, length, map, take, refl, sym, ap, ◌∙◌, arith, Option, Some, None, subst}
use Rattle.std.specs.Prelude.{position, codes, IfSome, All, slice_get}
use Rattle.std.specs.List.{list_all}
use Rattle.std.specs.Option.{option_map, option_and_then}
use Rattle.std.specs.Cmp.Lexicographic.{pointwise}
use Rattle.std.proofs.lemmas.Option.{slice_get-map}
use Rattle.std.proofs.lemmas.List.Quantifiers.{position-Some}
use Rattle.syntect_easy.specs.syntect_grammar.Contexts.{context_at, contexts_of}
use Rattle.syntect_easy.specs.syntect_grammar.Link.{names_of, heads_from, body_of}
use Rattle.syntect_easy.specs.syntect_grammar.Link.{linked_from, linked_definition, syntaxes_in}
use Rattle.syntect_easy.specs.syntect_grammar_linker.LinkedContexts.{linked_contexts, linked_context}
use Rattle.syntect_parsing.specs.Line.{start, start_id, start_of, HasPlainStart}
use Rattle.syntect_easy.specs.syntect_grammar_contexts.declared.context.ContextId.{ContextId}
use Rattle.syntect_easy.specs.syntect_grammar_contexts.declared.context.Context.{Context}
use Rattle.syntect_easy.specs.syntect_grammar_loader.declared.definition.SyntaxDefinition.{SyntaxDefinition}
use Rattle.syntect_easy.specs.syntect_grammar_contexts.declared.syntax_reference.SyntaxReference.{SyntaxReference}
use Rattle.syntect_easy.specs.syntect_grammar.declared.syntax_set.SyntaxSet.{SyntaxSet}
use Rattle.syntect_parsing.specs.declared.parser.Standing.{Standing}
use Rattle.syntect_easy.specs.Built.{start_context, IsPlain, IsSyntaxOfBuilt}
use Rattle.syntect_easy.specs.Leads.{BeginsPlain}

both : (a b : Bool) → (a && b) ≡ true → (a ≡ true) × (b ≡ true)
both true b e = (refl, e)
both false b e = cc

-- an element of a list each of which passes
pub all_at : {X : Type 0} (p : X → Bool) (xs : List X) (i : ℕ) (x : X) → list_all p xs ≡ true → slice_get xs i ≡ Some x → p x ≡ true
all_at p [] i x h e = cc
all_at p (y ∷ xs) zero x h e = let f : y ≡ x = cc in subst (λ z. p z ≡ true) f (both (p y) (list_all p xs) h).0
all_at p (y ∷ xs) (suc i) x h e = all_at p xs i x (both (p y) (list_all p xs) h).1 e

-- a definition, linked at this index with these heads and contexts
pub record IsLinkedAt (heads : List SyntaxReference) (bodies : List (List Context)) (definitions : List SyntaxDefinition) (place index : ℕ) (syntax : SyntaxReference) : Type 0 where
  pub definition : SyntaxDefinition
  pub at : slice_get definitions place ≡ Some definition
  pub is : syntax ≡ linked_definition heads bodies index definition

-- elements made one by one, each with its place from this one on
abbrev in_turn : (ℕ → SyntaxDefinition → SyntaxReference) → ℕ → List SyntaxDefinition → List SyntaxReference
in_turn f index [] = []
in_turn f index (d ∷ ds) = f index d ∷ in_turn f (index + 1) ds

record IsMadeAt (f : ℕ → SyntaxDefinition → SyntaxReference) (definitions : List SyntaxDefinition) (place index : ℕ) (syntax : SyntaxReference) : Type 0 where
  pub definition : SyntaxDefinition
  pub at : slice_get definitions place ≡ Some definition
  pub is : syntax ≡ f index definition

made_at : (f : ℕ → SyntaxDefinition → SyntaxReference) (index : ℕ) (definitions : List SyntaxDefinition) (place : ℕ) (syntax : SyntaxReference)
    → slice_get (in_turn f index definitions) place ≡ Some syntax → IsMadeAt f definitions place (index + place) syntax
made_at f index [] place syntax e = cc
made_at f index (d ∷ ds) zero syntax e =
    let same : f index d ≡ syntax = cc in
    let k : index ≡ index + 0 = omega arith in
    record { definition = d; at = refl; is = subst (λ n. syntax ≡ f n d) k (sym same) }
made_at f index (d ∷ ds) (suc place) syntax e =
    let r : IsMadeAt f ds place ((index + 1) + place) syntax = made_at f (index + 1) ds place syntax e in
    let k : (index + 1) + place ≡ index + suc place = omega arith in
    record { definition = r.definition; at = r.at; is = subst (λ n. syntax ≡ f n r.definition) k r.is }

linked_in_turn : (heads : List SyntaxReference) (bodies : List (List Context)) (index : ℕ) (definitions : List SyntaxDefinition)
    → in_turn (linked_definition heads bodies) index definitions ≡ linked_from heads bodies index definitions
linked_in_turn heads bodies index [] = refl
linked_in_turn heads bodies index (d ∷ ds) = ap (λ (l : List SyntaxReference). linked_definition heads bodies index d ∷ l) (linked_in_turn heads bodies (index + 1) ds)

pub linked_at : (heads : List SyntaxReference) (bodies : List (List Context)) (definitions : List SyntaxDefinition) (place : ℕ) (syntax : SyntaxReference)
    → slice_get (linked_from heads bodies 0 definitions) place ≡ Some syntax → IsLinkedAt heads bodies definitions place place syntax
linked_at heads bodies definitions place syntax e =
    let r : IsMadeAt (linked_definition heads bodies) definitions place (0 + place) syntax =
    made_at (linked_definition heads bodies) 0 definitions place syntax (ap (λ (l : List SyntaxReference). slice_get l place) (linked_in_turn heads bodies 0 definitions) ∙ e) in
    let k : 0 + place ≡ place = omega arith in
    record { definition = r.definition; at = r.at; is = subst (λ n. syntax ≡ linked_definition heads bodies n r.definition) k r.is }

abbrev pub number : ℕ → ℕ → ContextId
number i j = record { syntax_index = i; context_index = j }

in_row : (heads : List SyntaxReference) (bodies : List (List Context)) (i p : ℕ) (cs : List Context) (j : ℕ)
    → slice_get (linked_contexts heads bodies i p cs) j ≡ option_map (linked_context heads bodies (number i (p + j))) (slice_get cs j)
in_row heads bodies i p [] j = refl
in_row heads bodies i p (c ∷ cs) zero = let e : p + 0 ≡ p = omega arith in rw e refl
in_row heads bodies i p (c ∷ cs) (suc j) =
    let e : (p + 1) + j ≡ p + suc j = omega arith in
    let h : slice_get (linked_contexts heads bodies i (p + 1) cs) j ≡ option_map (linked_context heads bodies (number i ((p + 1) + j))) (slice_get cs j) = in_row heads bodies i (p + 1) cs j in
    rw e at h

in_body : (heads : List SyntaxReference) (bodies : List (List Context)) (i : ℕ) (cs : List Context) (j : ℕ)
    → slice_get (linked_contexts heads bodies i 0 cs) j ≡ option_map (linked_context heads bodies (number i j)) (slice_get cs j)
in_body heads bodies i cs j =
    let y : 0 + j ≡ j = omega arith in
    let r : slice_get (linked_contexts heads bodies i 0 cs) j ≡ option_map (linked_context heads bodies (number i (0 + j))) (slice_get cs j) = in_row heads bodies i 0 cs j in
    rw y at r

plain_at : (definitions : List SyntaxDefinition) (place : ℕ) (d : SyntaxDefinition) → All IsPlain definitions → slice_get definitions place ≡ Some d → IsPlain d
plain_at [] place d h e = cc
plain_at (x ∷ ds) zero d h e = let f : x ≡ d = cc in subst IsPlain f (h 0 x (omega arith))
plain_at (x ∷ ds) (suc place) d h e = plain_at ds place d (λ k y l. h (suc k) y (omega arith)) e

short : (xs : List (List ℕ)) → length xs ≤ 1 → take 1 xs ≡ xs
short [] l = refl
short (x ∷ []) l = refl
short (x ∷ y ∷ xs) l = absurd (omega arith)

-- reading from a context that is plain
starts_plain : (set : SyntaxSet) (id : ContextId) (o : Option Context) → context_at set id ≡ o → IfSome o (λ c. (c.meta_scope ≡ []) × (length c.meta_content_scope ≤ 1) × (c.clear_scopes ≡ None)) → HasPlainStart set (start id)
starts_plain set id None e h = rw e refl
starts_plain set id (Some c) e h = rw (e, h.0, short c.meta_content_scope h.1, h.2) refl

-- a context of a syntax that stands at this place
context_here : (set : SyntaxSet) (place k : ℕ) (syntax : SyntaxReference) → slice_get (syntaxes_in set) place ≡ Some syntax → context_at set (record { syntax_index = place; context_index = k }) ≡ slice_get syntax.contexts k
context_here set place k syntax e =
    let f : slice_get (contexts_of set) place ≡ Some syntax.contexts = slice_get-map (λ (s : SyntaxReference). s.contexts) (syntaxes_in set) place ∙ ap (option_map (λ (s : SyntaxReference). s.contexts)) e in
    rw f refl

abbrev StartsPlain : Context → Type 0
StartsPlain c = (c.meta_scope ≡ []) × (length c.meta_content_scope ≤ 1) × (c.clear_scopes ≡ None)

-- linking keeps the scopes of a context
linked_plain : (heads : List SyntaxReference) (bodies : List (List Context)) (id : ContextId) (o : Option Context) → IfSome o StartsPlain → IfSome (option_map (linked_context heads bodies id) o) StartsPlain
linked_plain heads bodies id None h = tt
linked_plain heads bodies id (Some x) h = h

module _ (heads : List SyntaxReference) (bodies : List (List Context)) (set : SyntaxSet) (place : ℕ) (syntax : SyntaxReference) (d : SyntaxDefinition)
    (at : slice_get (syntaxes_in set) place ≡ Some syntax) (is : syntax ≡ linked_definition heads bodies place d) where
  pub held : (k : ℕ) → context_at set (number place k) ≡ option_map (linked_context heads bodies (number place k)) (slice_get (body_of d) k)
  held k = context_here set place k syntax at ∙ ap (λ (x : SyntaxReference). slice_get x.contexts k) is ∙ in_body heads bodies place (body_of d) k

  starts_at : IsPlain d → (o : Option ℕ) → position (pointwise ◌==◌ (codes "__start")) (names_of d.contexts) ≡ o
      → (s : Standing) → option_map start (option_map (λ i. record { syntax_index = place; context_index = i }) o) ≡ Some s → HasPlainStart set s
  starts_at plain None p s e = cc
  starts_at plain (Some k) p s e =
      let f : start (number place k) ≡ s = cc in
      let first : start_context d ≡ slice_get (body_of d) k = ap (option_and_then (slice_get (map (λ (x : List ℕ × Context). x.1) d.contexts))) p in
      let known : IfSome (slice_get (body_of d) k) StartsPlain = rw first at plain in
      subst (HasPlainStart set) f (starts_plain set (number place k) _ (held k) (linked_plain heads bodies (number place k) (slice_get (body_of d) k) known))

  -- the start of a syntax is a context of the set
  starts_there : (o : Option ℕ) → position (pointwise ◌==◌ (codes "__start")) (names_of d.contexts) ≡ o
      → (id : ContextId) → option_map (λ i. record { syntax_index = place; context_index = i }) o ≡ Some id → is_none (context_at set id) ≡ false
  starts_there None p id e = cc
  starts_there (Some k) p id e =
      let names : List (List ℕ) = names_of d.contexts in
      let f : number place k ≡ id = cc in
      let n : (k < length names) × (pointwise ◌==◌ (codes "__start") (get_or names k []) ≡ true) × ((j : ℕ) → j < k → pointwise ◌==◌ (codes "__start") (get_or names j []) ≡ false) = position-Some (pointwise ◌==◌ (codes "__start")) names k [] p in
      subst (λ (x : ContextId). is_none (context_at set x) ≡ false) f (ap is_none (held k) ∙ entry_there d.contexts k (linked_context heads bodies (number place k)) n.0)
    where
      entry_there : (entries : List (List ℕ × Context)) (k : ℕ) (f : Context → Context) → k < length (names_of entries) → is_none (option_map f (slice_get (map (λ (x : List ℕ × Context). x.1) entries) k)) ≡ false
      entry_there [] k f l = absurd (omega arith)
      entry_there (x ∷ entries) zero f l = refl
      entry_there (x ∷ entries) (suc k) f l = entry_there entries k f (omega arith)

module _ (set : SyntaxSet) (syntax : SyntaxReference) (definitions : List SyntaxDefinition) (h : IsSyntaxOfBuilt set syntax definitions) where
  abbrev pub heads_in : List SyntaxReference
  heads_in = heads_from 0 definitions

  abbrev pub bodies_in : List (List Context)
  bodies_in = map body_of definitions

  pub here : IsLinkedAt heads_in bodies_in definitions h.place h.place syntax
  here =
      let at : slice_get (linked_from heads_in bodies_in 0 definitions) h.place ≡ Some syntax = rw h.links at h.among in
      linked_at heads_in bodies_in definitions h.place syntax at

  pub built_begins_plain : BeginsPlain set syntax
  built_begins_plain = λ s e.
      let r : IsLinkedAt heads_in bodies_in definitions h.place h.place syntax = here in
      starts_at heads_in bodies_in set h.place syntax r.definition h.among r.is (plain_at definitions h.place r.definition h.plain r.at) _ refl s (sym (ap start_of r.is) ∙ e)

  pub built_there : (id : ContextId) → start_id syntax ≡ Some id → is_none (context_at set id) ≡ false
  built_there id e =
      let r : IsLinkedAt heads_in bodies_in definitions h.place h.place syntax = here in
      starts_there heads_in bodies_in set h.place syntax r.definition h.among r.is _ refl id (sym (ap start_id r.is) ∙ e)
