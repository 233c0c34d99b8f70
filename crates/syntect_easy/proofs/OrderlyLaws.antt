-- Where nothing clears, all lines are orderly; and a set of definitions that
-- clear nothing clears nothing.
use Rattle.std.proofs.Common.{◌≡◌, ℕ, true, is_none, List, [], ◌∷◌, map, drop, refl, sym, ap, ◌∙◌, Option, Some, None}
use Rattle.std.specs.Prelude.{slice_get}
use Rattle.std.specs.List.{list_all, filter_map}
use Rattle.std.specs.Option.{option_map, option_and_then}
use Rattle.std.proofs.lemmas.Option.{slice_get-map}
use Rattle.syntect_easy.specs.syntect_grammar.Contexts.{context_at, contexts_of}
use Rattle.syntect_easy.specs.syntect_grammar.Link.{linked, heads_from, body_of, syntaxes_in}
use Rattle.syntect_easy.specs.syntect_grammar_linker.LinkedContexts.{linked_context}
use Rattle.syntect_easy.specs.syntect_grammar_contexts.Contexts.{target}
use Rattle.syntect_easy.specs.syntect_grammar_contexts.declared.context.Context.{Context}
use Rattle.syntect_easy.specs.syntect_grammar_contexts.declared.context.ContextId.{ContextId}
use Rattle.syntect_easy.specs.syntect_grammar_contexts.declared.context.MatchOperation.{MatchOperation}
use Rattle.syntect_easy.specs.syntect_grammar_contexts.declared.context.MatchOperation.TheVariants as op
use Rattle.syntect_easy.specs.syntect_grammar_contexts.declared.syntax_reference.SyntaxReference.{SyntaxReference}
use Rattle.syntect_easy.specs.syntect_grammar_loader.declared.definition.SyntaxDefinition.{SyntaxDefinition}
use Rattle.syntect_easy.specs.syntect_grammar.declared.syntax_set.SyntaxSet.{SyntaxSet}
use Rattle.syntect_easy.specs.syntect_reading_choice.declared.level.Level.{Level}
use Rattle.syntect_easy.specs.syntect_reading_choice.Chain.{last}
use Rattle.syntect_parsing.specs.Open.{ClearsNothing}
use Rattle.syntect_parsing.specs.Operations.{clear_nothing}
use Rattle.syntect_parsing.specs.Orderly.{is_orderly}
use Rattle.syntect_parsing.specs.Visible.{clearing, top_clearing}
use Rattle.syntect_easy.specs.Built.{clears_nothing}
use Rattle.syntect_easy.specs.Leads.{RunsOrderly}
use Rattle.syntect_easy.proofs.BuiltLaws.{IsLinkedAt, all_at, number, held, linked_at}

-- ---- lines of a set that clears nothing ----

module _ (set : SyntaxSet) (c : ClearsNothing set) where
  none_clear : (ids : List ContextId) → clear_nothing set ids ≡ true
  none_clear [] = refl
  none_clear (id ∷ ids) = rw (c id) (none_clear ids)

  top_clears : (o : Option Level) → option_and_then (λ l. clearing set l.context) o ≡ None
  top_clears None = refl
  top_clears (Some l) = c l.context

  orderly : (levels : List Level) (o : MatchOperation) → is_orderly set levels o ≡ true
  orderly levels (op.Push refs) = none_clear (drop 1 (filter_map target refs))
  orderly levels (op.Set refs) =
      let top : top_clearing set levels ≡ None = top_clears (last levels) in
      rw top (none_clear (drop 1 (filter_map target refs)))
  orderly levels op.Pop = refl
  orderly levels op.None = refl

  pub runs_orderly : (syntax : SyntaxReference) (lines : List (List ℕ)) → RunsOrderly set syntax lines
  runs_orderly syntax lines = λ start b before behind line answers next after bytes turns same run reads p reaches m picks. orderly p.levels m.pattern.operation

-- ---- sets of definitions that clear nothing ----

is_so : {X : Type 0} (o : Option X) → is_none o ≡ true → o ≡ None
is_so None e = refl
is_so (Some x) e = cc

unclear : (entries : List (List ℕ × Context)) (k : ℕ) (c : Context) → list_all (λ entry. is_none entry.1.clear_scopes) entries ≡ true
    → slice_get (map (λ (entry : List ℕ × Context). entry.1) entries) k ≡ Some c → c.clear_scopes ≡ None
unclear entries k c h e = go (slice_get entries k) refl
  where
    go : (o : Option (List ℕ × Context)) → slice_get entries k ≡ o → c.clear_scopes ≡ None
    go None f = let g : option_map (λ (entry : List ℕ × Context). entry.1) (slice_get entries k) ≡ Some c = sym (slice_get-map (λ (entry : List ℕ × Context). entry.1) entries k) ∙ e in cc
    go (Some entry) f =
        let g : option_map (λ (x : List ℕ × Context). x.1) (slice_get entries k) ≡ Some c = sym (slice_get-map (λ (x : List ℕ × Context). x.1) entries k) ∙ e in
        let same : entry.1 ≡ c = cc in
        ap (λ (x : Context). x.clear_scopes) (sym same) ∙ is_so entry.1.clear_scopes (all_at (λ (x : List ℕ × Context). is_none x.1.clear_scopes) entries k entry h f)

module _ (set : SyntaxSet) (definitions : List SyntaxDefinition) (links : syntaxes_in set ≡ linked definitions) (none : list_all clears_nothing definitions ≡ true) where
  abbrev heads : List SyntaxReference
  heads = heads_from 0 definitions

  abbrev bodies : List (List Context)
  bodies = map body_of definitions

  -- a context of one of the set's syntaxes
  of_context : (place k : ℕ) (d : SyntaxDefinition) → clears_nothing d ≡ true → (o : Option Context) → slice_get (body_of d) k ≡ o
      → option_and_then (λ c. c.clear_scopes) (option_map (linked_context heads bodies (number place k)) o) ≡ None
  of_context place k d h None e = refl
  of_context place k d h (Some c) e = unclear d.contexts k c h e

  of_syntax : (id : ContextId) (o : Option SyntaxReference) → slice_get (syntaxes_in set) id.syntax_index ≡ o → clearing set id ≡ None
  of_syntax id None e =
      let f : slice_get (contexts_of set) id.syntax_index ≡ None = slice_get-map (λ (s : SyntaxReference). s.contexts) (syntaxes_in set) id.syntax_index ∙ ap (option_map (λ (s : SyntaxReference). s.contexts)) e in
      rw f refl
  of_syntax id (Some syntax) e =
      let r : IsLinkedAt heads bodies definitions id.syntax_index id.syntax_index syntax = linked_at heads bodies definitions id.syntax_index syntax (rw links at e) in
      let h : context_at set id ≡ option_map (linked_context heads bodies id) (slice_get (body_of r.definition) id.context_index) = held heads bodies set id.syntax_index syntax r.definition e r.is id.context_index in
      ap (option_and_then (λ (c : Context). c.clear_scopes)) h
      ∙ of_context id.syntax_index id.context_index r.definition (all_at clears_nothing definitions id.syntax_index r.definition none r.at) (slice_get (body_of r.definition) id.context_index) refl

  pub clears_none : ClearsNothing set
  clears_none = λ id. of_syntax id (slice_get (syntaxes_in set) id.syntax_index) refl
