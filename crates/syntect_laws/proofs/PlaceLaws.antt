-- The places of a walk are where its patterns stand.
use Rattle.std.proofs.Common.{◌≡◌, ℕ, zero, suc, ◌+◌, ◌-◌, Bool, true, false, List, [], ◌∷◌, ◌++◌, drop, map, Option, Some, None, refl, ap, sym, ◌∙◌, arith}
use Rattle.std.specs.Prelude.{slice_get, if◌then◌else◌}
use Rattle.std.specs.List.{list_any}
use Rattle.std.specs.Option.{option_and_then, option_map_or}
use Rattle.std.proofs.lemmas.List.{map-append}
use Rattle.syntect_laws.specs.syntect_grammar_contexts.Contexts.{is_same, match_in, match_of, target}
use Rattle.syntect_laws.specs.syntect_grammar.Contexts.{context_at, contexts_of}
use Rattle.syntect_laws.specs.syntect_grammar_contexts.Contexts.{count_contexts}
use Rattle.syntect_laws.specs.syntect_grammar.Patterns.{entries, included, walk, walk_patterns}
use Rattle.syntect_laws.specs.syntect_reading_state.Places.{EntryPlace, entry_places, included_places, target_places, PlacesArePatterns}
use Rattle.syntect_laws.specs.syntect_grammar_contexts.declared.context.ContextId.{ContextId}
use Rattle.syntect_laws.specs.syntect_grammar_contexts.declared.context.MatchPattern.{MatchPattern}
use Rattle.syntect_laws.specs.syntect_grammar_contexts.declared.context.Pattern.{Pattern}
use Rattle.syntect_laws.specs.syntect_grammar_contexts.declared.context.Pattern.TheVariants.{Match, Include}
use Rattle.syntect_laws.specs.syntect_grammar_contexts.declared.context.Context.{Context}
use Rattle.syntect_laws.specs.syntect_grammar.declared.syntax_set.SyntaxSet.{SyntaxSet}

abbrev at_place : EntryPlace → Option MatchPattern
at_place p = match_of p.0 p.1

held_at : (k : ℕ) (xs : List Pattern) (x : Pattern) (ys : List Pattern) → drop k xs ≡ x ∷ ys → slice_get xs k ≡ Some x
held_at zero [] x ys e = cc
held_at (suc k) [] x ys e = cc
held_at zero (y ∷ xs) x ys e = let f : y ≡ x = cc in ap Some f
held_at (suc k) (y ∷ xs) x ys e = held_at k xs x ys e

rest_at : (k : ℕ) (xs : List Pattern) (x : Pattern) (ys : List Pattern) → drop k xs ≡ x ∷ ys → drop (k + 1) xs ≡ ys
rest_at zero [] x ys e = cc
rest_at (suc k) [] x ys e = cc
rest_at zero (y ∷ xs) x ys e = cc
rest_at (suc k) (y ∷ xs) x ys e =
    let n : suc k + 1 ≡ suc (k + 1) = omega arith in
    rw n (rest_at k xs x ys e)

entries_agree : (inner : ContextId → List EntryPlace) (outer : ContextId → List MatchPattern) (path : List ContextId) (c : Context) → ((id : ContextId) → map at_place (inner id) ≡ map Some (outer id))
    → (k : ℕ) (ps : List Pattern) → drop k c.patterns ≡ ps → map at_place (entry_places inner path c k ps) ≡ map Some (walk_patterns outer path ps)
entries_agree inner outer path c h k [] e = refl
entries_agree inner outer path c h k (Match m ∷ ps) e =
    ap (λ (o : Option Pattern). option_and_then match_in o ∷ map at_place (entry_places inner path c (k + 1) ps)) (held_at k c.patterns (Match m) ps e)
    ∙ ap (λ (os : List (Option MatchPattern)). Some m ∷ os) (entries_agree inner outer path c h (k + 1) ps (rest_at k c.patterns (Match m) ps e))
entries_agree inner outer path c h k (Include r ∷ ps) e =
    map-append at_place (included_places inner path (target r)) (entry_places inner path c (k + 1) ps)
    ∙ ap (λ (os : List (Option MatchPattern)). os ++ map at_place (entry_places inner path c (k + 1) ps)) (by (target r))
    ∙ ap (λ (os : List (Option MatchPattern)). map Some (included outer path (target r)) ++ os) (entries_agree inner outer path c h (k + 1) ps (rest_at k c.patterns (Include r) ps e))
    ∙ sym (map-append Some (included outer path (target r)) (walk_patterns outer path ps))
  where
    by_path : (id : ContextId) (b : Bool) → map at_place (if b then [] else inner id) ≡ map Some (if b then [] else outer id)
    by_path id true = refl
    by_path id false = h id

    by : (o : Option ContextId) → map at_place (included_places inner path o) ≡ map Some (included outer path o)
    by None = refl
    by (Some id) = by_path id (list_any (is_same id) path)

walk_none : (room : ℕ) (set : SyntaxSet) (path : List ContextId) → walk room set path [] ≡ []
walk_none zero set path = refl
walk_none (suc room) set path = refl

targets_agree : (room : ℕ) (set : SyntaxSet) (path : List ContextId) (id : ContextId) → map at_place (target_places room set path id) ≡ map Some (walk room set (path ++ id ∷ []) (entries set id))
targets_agree zero set path id = refl
targets_agree (suc room) set path id = by (λ x. targets_agree room set (path ++ id ∷ []) x) (context_at set id)
  where
    by : ((x : ContextId) → map at_place (target_places room set (path ++ id ∷ []) x) ≡ map Some (walk room set ((path ++ id ∷ []) ++ x ∷ []) (entries set x))) → (o : Option Context)
        → map at_place (option_map_or (λ (c : Context). entry_places (λ x. target_places room set (path ++ id ∷ []) x) (path ++ id ∷ []) c 0 c.patterns) o [])
        ≡ map Some (walk (suc room) set (path ++ id ∷ []) (option_map_or (λ (c : Context). c.patterns) o []))
    by below None = refl
    by below (Some c) = entries_agree (λ x. target_places room set (path ++ id ∷ []) x) (λ x. walk room set ((path ++ id ∷ []) ++ x ∷ []) (entries set x)) (path ++ id ∷ []) c below 0 c.patterns refl

pub places_are_patterns : PlacesArePatterns
places_are_patterns set c =
    let room : ℕ = count_contexts (contexts_of set) in
    let k : suc room ≡ room + 1 = omega arith in
    entries_agree (λ id. target_places room set [] id) (λ id. walk room set ([] ++ id ∷ []) (entries set id)) [] c (λ id. targets_agree room set [] id) 0 c.patterns refl
    ∙ ap (λ (n : ℕ). map Some (walk n set [] c.patterns)) k
