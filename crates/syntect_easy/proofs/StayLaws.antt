-- Sets that were built of loaded definitions: nothing leads out of them,
-- and no text leaves `__start`.
use Rattle.std.proofs.Common.{◌≡◌, ◌≢◌, ◌==◌, ℕ, zero, suc, Bool, true, false, is_none, List, [], ◌∷◌, ◌++◌, map, refl, sym, ap, ◌∙◌, arith, Option, Some, None, subst}
use Rattle.std.specs.Prelude.{position, codes, IfSome, All, slice_get}
use Rattle.std.specs.Option.{option_map, option_and_then}
use Rattle.std.specs.List.{list_all}
use Rattle.std.specs.Cmp.Lexicographic.{pointwise}
use Rattle.syntect_easy.specs.syntect_grammar.Contexts.{context_at, part_of}
use Rattle.syntect_easy.specs.syntect_reading_choice.Chain.{walk, room_in}
use Rattle.syntect_easy.specs.syntect_grammar.Link.{names_of, body_of}
use Rattle.syntect_easy.specs.syntect_grammar.Link.{linked_definition, syntaxes_in}
use Rattle.syntect_easy.specs.syntect_grammar_linker.LinkedContexts.{linked_context, linked_match}
use Rattle.syntect_easy.specs.syntect_reading_choice.Engine.{dialect}
use Rattle.syntect_parsing.specs.Line.{start, start_id, start_of, Answer, AnswersAll}
use Rattle.syntect_easy.specs.syntect_grammar_loader.Loading as loading
use Rattle.syntect_parsing.specs.Refusals.{lone_patterns, stays, AreByName, KnowNoNumber, IsClosed, LinksClosed}
use Rattle.syntect_parsing.specs.Open.{ClearsNothing}
use Rattle.syntect_parsing.specs.Standing.{GiveScopes, BytesHaveScopes}
use Rattle.syntect_easy.specs.syntect_grammar_loader.Named.{LoadedByName}
use Rattle.syntect_parsing.specs.declared.parser.Standing.{Standing}
use Rattle.syntect_easy.specs.syntect_grammar_contexts.declared.context.ContextId.{ContextId}
use Rattle.syntect_easy.specs.syntect_grammar_contexts.declared.context.Context.{Context}
use Rattle.syntect_easy.specs.syntect_grammar_contexts.declared.context.MatchPattern.{MatchPattern}
use Rattle.syntect_easy.specs.syntect_grammar_contexts.declared.context.Pattern.TheVariants.{Match}
use Rattle.syntect_easy.specs.syntect_grammar_loader.declared.definition.SyntaxDefinition.{SyntaxDefinition}
use Rattle.syntect_easy.specs.syntect_grammar_contexts.declared.syntax_reference.SyntaxReference.{SyntaxReference}
use Rattle.syntect_easy.specs.syntect_grammar.declared.syntax_set.SyntaxSet.{SyntaxSet}
use Rattle.syntect_easy.specs.Built.{start_context, IsLoaded, IsPlain, IsSyntaxOfBuilt, StaysInStart}
use Rattle.syntect_easy.proofs.BuiltLaws.{IsLinkedAt, number, held, here, heads_in, bodies_in, built_there}
use Rattle.syntect_easy.proofs.LoadedLaws.{Begins, BeginsAtStart, loaded_begins, loaded_plain}

-- ---- all references are by name ----

named_all : LoadedByName → (ds : List SyntaxDefinition) → All IsLoaded ds → AreByName ds
named_all by_name [] h = tt
named_all by_name (d ∷ ds) h = (first (h 0 d (omega arith)), named_all by_name ds (λ k y l. h (suc k) y (omega arith)))
  where
    first : IsLoaded d → KnowNoNumber d.contexts
    first l = by_name l.text l.lines_include_newline l.fallback l.repository d l.left l.loads

pub loaded_are_named : LoadedByName → (ds : List SyntaxDefinition) → All IsLoaded ds → AreByName ds
loaded_are_named = named_all

plain_of : (d : SyntaxDefinition) → IsLoaded d → IsPlain d
plain_of d l = loaded_plain l.text l.lines_include_newline l.fallback l.repository d l.left l.loads

pub loaded_are_plain : (ds : List SyntaxDefinition) → All IsLoaded ds → All IsPlain ds
loaded_are_plain ds h = λ k y l. plain_of _ (h k y l)

-- ---- `__start` is never left ----

-- a linked context that has one match alone, which leaves it where it is, and no prototype
abbrev Lone : Context → Type 0
Lone c = (c.prototype ≡ None) × (m : MatchPattern) × (c.patterns ≡ Match m ∷ []) × (stays m.operation ≡ true)

linked_lone : (heads : List SyntaxReference) (bodies : List (List Context)) (id : ContextId) (o : Option Context) → IfSome o Begins → IfSome (option_map (linked_context heads bodies id) o) Lone
linked_lone heads bodies id None h = tt
linked_lone heads bodies id (Some c) h =
    subst (λ x. Lone (linked_context heads bodies id x)) (sym h.1) (refl, linked_match heads id.syntax_index loading.start_match, refl, refl)

abbrev all_stay : List MatchPattern → Bool
all_stay ms = list_all (λ m. stays m.operation) ms

walks_lone : (room : ℕ) (set : SyntaxSet) (path : List ContextId) (m : MatchPattern) → stays m.operation ≡ true → all_stay (walk room set path (Match m ∷ [])) ≡ true
walks_lone zero set path m e = refl
walks_lone (suc room) set path m e = rw e refl

walks_none : (room : ℕ) (set : SyntaxSet) (path : List ContextId) → all_stay (walk room set path []) ≡ true
walks_none zero set path = refl
walks_none (suc room) set path = refl

lone : (set : SyntaxSet) (id : ContextId) (o : Option Context) → context_at set id ≡ o → IfSome o Lone → all_stay (lone_patterns set id) ≡ true
lone set id None e h = rw e (walks_none (room_in set) set (id ∷ []))
lone set id (Some c) e h = rw e (rw (h.0, h.2) (walks_lone (room_in set) set (id ∷ []) h.1 h.3))

module _ (heads : List SyntaxReference) (bodies : List (List Context)) (set : SyntaxSet) (place : ℕ) (syntax : SyntaxReference) (d : SyntaxDefinition)
    (at : slice_get (syntaxes_in set) place ≡ Some syntax) (is : syntax ≡ linked_definition heads bodies place d) (begins : BeginsAtStart d) where
  stays_at : (o : Option ℕ) → position (pointwise ◌==◌ (codes "__start")) (names_of d.contexts) ≡ o
      → (id : ContextId) → option_map (λ i. record { syntax_index = place; context_index = i }) o ≡ Some id → all_stay (lone_patterns set id) ≡ true
  stays_at None p id e = cc
  stays_at (Some k) p id e =
      let f : number place k ≡ id = cc in
      let first : start_context d ≡ slice_get (body_of d) k = ap (option_and_then (slice_get (map (λ (x : List ℕ × Context). x.1) d.contexts))) p in
      let known : IfSome (slice_get (body_of d) k) Begins = rw first at begins in
      subst (λ (x : ContextId). all_stay (lone_patterns set x) ≡ true) f
      (lone set (number place k) _ (held heads bodies set place syntax d at is k) (linked_lone heads bodies (number place k) (slice_get (body_of d) k) known))

if_some : {A : Type 0} (P : A → Type 0) (o : Option A) → ((a : A) → o ≡ Some a → P a) → IfSome o P
if_some P None h = tt
if_some P (Some a) h = h a refl

loaded_at : (ds : List SyntaxDefinition) (place : ℕ) (d : SyntaxDefinition) → All IsLoaded ds → slice_get ds place ≡ Some d → IsLoaded d
loaded_at [] place d h e = cc
loaded_at (x ∷ ds) zero d h e = let f : x ≡ d = cc in subst IsLoaded f (h 0 x (omega arith))
loaded_at (x ∷ ds) (suc place) d h e = loaded_at ds place d (λ k y l. h (suc k) y (omega arith)) e

begins_at : (d : SyntaxDefinition) → IsLoaded d → BeginsAtStart d
begins_at d l = loaded_begins l.text l.lines_include_newline l.fallback l.repository d l.left l.loads

pub loaded_stay : (set : SyntaxSet) (syntax : SyntaxReference) (definitions : List SyntaxDefinition) → IsSyntaxOfBuilt set syntax definitions → All IsLoaded definitions → StaysInStart set syntax
loaded_stay set syntax definitions h l =
    let heads : List SyntaxReference = heads_in set syntax definitions h in
    let bodies : List (List Context) = bodies_in set syntax definitions h in
    let r : IsLinkedAt heads bodies definitions h.place h.place syntax = here set syntax definitions h in
    let b : BeginsAtStart r.definition = begins_at r.definition (loaded_at definitions h.place r.definition l r.at) in
    if_some (λ id. all_stay (lone_patterns set id) ≡ true) (start_id syntax)
    (λ id e. stays_at heads bodies set h.place syntax r.definition h.among r.is b _ refl id (sym (ap start_id r.is) ∙ e))

-- ---- each byte has a scope ----

abbrev Scoped : Context → Type 0
Scoped c = c.meta_scope ++ c.meta_content_scope ≢ []

linked_scoped : (heads : List SyntaxReference) (bodies : List (List Context)) (id : ContextId) (o : Option Context) → IfSome o Begins → IfSome (option_map (linked_context heads bodies id) o) Scoped
linked_scoped heads bodies id None h = tt
linked_scoped heads bodies id (Some c) h = subst (λ x. Scoped (linked_context heads bodies id x)) (sym h.1) (λ e. cc)

scoped : (set : SyntaxSet) (id : ContextId) (o : Option Context) → context_at set id ≡ o → is_none o ≡ false → IfSome o Scoped → part_of (λ c. c.meta_scope ++ c.meta_content_scope) set id ≢ []
scoped set id None e n h = cc
scoped set id (Some c) e n h = rw e h

module _ (heads : List SyntaxReference) (bodies : List (List Context)) (set : SyntaxSet) (place : ℕ) (syntax : SyntaxReference) (d : SyntaxDefinition)
    (at : slice_get (syntaxes_in set) place ≡ Some syntax) (is : syntax ≡ linked_definition heads bodies place d) (begins : BeginsAtStart d) where
  scoped_at : (o : Option ℕ) → position (pointwise ◌==◌ (codes "__start")) (names_of d.contexts) ≡ o
      → (id : ContextId) → option_map (λ i. record { syntax_index = place; context_index = i }) o ≡ Some id → is_none (context_at set id) ≡ false
      → part_of (λ c. c.meta_scope ++ c.meta_content_scope) set id ≢ []
  scoped_at None p id e n = cc
  scoped_at (Some k) p id e n =
      let f : number place k ≡ id = cc in
      let first : start_context d ≡ slice_get (body_of d) k = ap (option_and_then (slice_get (map (λ (x : List ℕ × Context). x.1) d.contexts))) p in
      let known : IfSome (slice_get (body_of d) k) Begins = rw first at begins in
      let there : is_none (context_at set (number place k)) ≡ false = subst (λ (x : ContextId). is_none (context_at set x) ≡ false) (sym f) n in
      let h : context_at set (number place k) ≡ option_map (linked_context heads bodies (number place k)) (slice_get (body_of d) k) = held heads bodies set place syntax d at is k in
      subst (λ (x : ContextId). part_of (λ c. c.meta_scope ++ c.meta_content_scope) set x ≢ []) f
      (scoped set (number place k) _ h (ap is_none (sym h) ∙ there) (linked_scoped heads bodies (number place k) (slice_get (body_of d) k) known))

module _ (set : SyntaxSet) (syntax : SyntaxReference) (definitions : List SyntaxDefinition) (h : IsSyntaxOfBuilt set syntax definitions) (l : All IsLoaded definitions) where
  start_scoped : (id : ContextId) → start_id syntax ≡ Some id → part_of (λ c. c.meta_scope ++ c.meta_content_scope) set id ≢ []
  start_scoped id e =
      let heads : List SyntaxReference = heads_in set syntax definitions h in
      let bodies : List (List Context) = bodies_in set syntax definitions h in
      let r : IsLinkedAt heads bodies definitions h.place h.place syntax = here set syntax definitions h in
      let b : BeginsAtStart r.definition = begins_at r.definition (loaded_at definitions h.place r.definition l r.at) in
      scoped_at heads bodies set h.place syntax r.definition h.among r.is b _ refl id (sym (ap start_id r.is) ∙ e) (built_there set syntax definitions h id e)

  from_start : (o : Option ContextId) → start_id syntax ≡ o → (begin after : Standing) (lines : List (List ℕ)) (answers : List Answer) → BytesHaveScopes → LinksClosed → LoadedByName → ClearsNothing set
      → option_map start o ≡ Some begin → AnswersAll dialect set lines begin answers after → GiveScopes answers
  from_start None e begin after lines answers give closed by_name clears f run = cc
  from_start (Some id) e begin after lines answers give closed by_name clears f run =
      let same : start id ≡ begin = cc in
      let stays_in : list_all (λ m. stays m.operation) (lone_patterns set id) ≡ true = rw e at (loaded_stay set syntax definitions h l) in
      let in_set : IsClosed set = closed set definitions h.links (loaded_are_named by_name definitions l) in
      let from : AnswersAll dialect set lines (start id) answers after = rw (← same) at run in
      give dialect set id lines answers after in_set (record { there = built_there set syntax definitions h id e; stay = stays_in }) clears (start_scoped id e) from

pub loaded_give_scopes : (set : SyntaxSet) (syntax : SyntaxReference) (definitions : List SyntaxDefinition) (begin after : Standing) (lines : List (List ℕ)) (answers : List Answer) → BytesHaveScopes → LinksClosed → LoadedByName
    → IsSyntaxOfBuilt set syntax definitions → All IsLoaded definitions → ClearsNothing set → start_of syntax ≡ Some begin → AnswersAll dialect set lines begin answers after → GiveScopes answers
loaded_give_scopes set syntax definitions begin after lines answers give closed by_name h l clears e run = from_start set syntax definitions h l (start_id syntax) refl begin after lines answers give closed by_name clears e run
