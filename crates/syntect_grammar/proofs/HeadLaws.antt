-- Steps of linking definitions.
use Rattle.std.proofs.Common.{◌≡◌, ℕ, ◌+◌, List, [], ◌∷◌, ◌++◌, length, length-append, map, refl, ap, sym, ◌∙◌, arith}
use Rattle.std.specs.List.{zip}
use Rattle.std.proofs.lemmas.List.{map-append}
use Rattle.syntect_grammar.specs.Link.{head_of, heads_from, body_of, linked_from}
use Rattle.syntect_grammar_linker.specs.Gifts.{gifts_in, gifts_from, given_all, given_from, put_together}
use Rattle.syntect_grammar_linker.proofs.LinkLaws.{contexts_together}
use Rattle.syntect_grammar.specs.syntect_grammar_contexts.declared.context.Context.{Context}
use Rattle.syntect_grammar_loader.specs.declared.definition.SyntaxDefinition.{SyntaxDefinition}
use Rattle.syntect_grammar.specs.syntect_grammar_contexts.declared.syntax_reference.SyntaxReference.{SyntaxReference}

-- ---- heads ----

heads_more_from : (i n : ℕ) (ds : List SyntaxDefinition) (d : SyntaxDefinition) → n ≡ i + length ds → heads_from i (ds ++ d ∷ []) ≡ heads_from i ds ++ head_of n d ∷ []
heads_more_from i n [] d e = let k : n ≡ i = omega (arith, e) in rw k refl
heads_more_from i n (x ∷ ds) d e = ap (λ (l : List SyntaxReference). head_of i x ∷ l) (heads_more_from (i + 1) n ds d (omega (arith, e)))

pub heads_more : (n : ℕ) (ds : List SyntaxDefinition) (d : SyntaxDefinition) → n ≡ length ds → heads_from 0 (ds ++ d ∷ []) ≡ heads_from 0 ds ++ head_of n d ∷ []
heads_more n ds d e = heads_more_from 0 n ds d (omega (arith, e))

pub heads_step : (n : ℕ) (ds : List SyntaxDefinition) (d : SyntaxDefinition) (head : SyntaxReference) (before after : List SyntaxReference) → n ≡ length before → before ≡ heads_from 0 ds
    → length before ≡ length ds → head ≡ head_of n d → after ≡ before ++ head ∷ [] → after ≡ heads_from 0 (ds ++ d ∷ [])
heads_step n ds d head before after m b l h a =
    a ∙ ap (λ (x : SyntaxReference). before ++ x ∷ []) h ∙ ap (λ (x : List SyntaxReference). x ++ head_of n d ∷ []) b ∙ sym (heads_more n ds d (m ∙ l))

pub many_step : {A : Type 0} (ds : List SyntaxDefinition) (d : SyntaxDefinition) (x : A) (before after : List A) → length before ≡ length ds → after ≡ before ++ x ∷ [] → length after ≡ length (ds ++ d ∷ [])
many_step ds d x before after l a = ap length a ∙ length-append before (x ∷ []) ∙ ap (λ n. n + 1) l ∙ sym (length-append ds (d ∷ []))

pub bodies_step : (ds : List SyntaxDefinition) (d : SyntaxDefinition) (body : List Context) (before after : List (List Context)) → before ≡ map body_of ds → body ≡ body_of d → after ≡ before ++ body ∷ []
    → after ≡ map body_of (ds ++ d ∷ [])
bodies_step ds d body before after b h a = a ∙ ap (λ (x : List Context). before ++ x ∷ []) h ∙ ap (λ (x : List (List Context)). x ++ body_of d ∷ []) b ∙ sym (map-append body_of ds (d ∷ []))

-- ---- all of them ----

together_from : (heads : List SyntaxReference) (bodies : List (List Context)) (index : ℕ) (ds : List SyntaxDefinition)
    → put_together (heads_from index ds) (given_from heads index (zip (map body_of ds) (gifts_from heads bodies index (map body_of ds)))) ≡ linked_from heads bodies index ds
together_from heads bodies index [] = refl
together_from heads bodies index (d ∷ ds) =
    ap (λ (l : List SyntaxReference). record (head_of index d) { contexts = given_all heads index (gifts_in heads bodies index 0 (body_of d)) (body_of d) } ∷ l) (together_from heads bodies (index + 1) ds)
    ∙ ap (λ (cs : List Context). record (head_of index d) { contexts = cs } ∷ linked_from heads bodies (index + 1) ds) (contexts_together heads bodies index 0 (body_of d))

pub all_together : (ds : List SyntaxDefinition) (heads : List SyntaxReference) (bodies rows : List (List Context)) → heads ≡ heads_from 0 ds → bodies ≡ map body_of ds
    → rows ≡ given_from heads 0 (zip bodies (gifts_from heads bodies 0 bodies)) → put_together heads rows ≡ linked_from (heads_from 0 ds) (map body_of ds) 0 ds
all_together ds heads bodies rows h b r = rw (r, h, b) (together_from (heads_from 0 ds) (map body_of ds) 0 ds)
