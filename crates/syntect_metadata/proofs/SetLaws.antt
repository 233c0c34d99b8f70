-- Sets read one after another.
use Rattle.std.proofs.Common.{◌≡◌, ℕ, List, [], ◌∷◌, ◌++◌, length, take, drop, ◌≤◌, sym, refl, ap, ◌∙◌, subst, arith}
use Rattle.std.specs.Prelude.{Result, Ok, Err}
use Rattle.std.proofs.lemmas.List.{append_assoc, append-nil, take-append-le, take-append-drop, length-take}
use Rattle.std.specs.BTreeMap.{insert_entry}
use Rattle.std.specs.Cmp.Lexicographic.{slice_cmp}
use Rattle.std.specs.Ordering.{nat_cmp}
use Rattle.syntect_metadata.specs.syntect_scope.Repository.{with_scopes, first_refusal, IsRefusalOrMemory}
use Rattle.syntect_metadata.specs.syntect_scope.SelectorText.{union_words}
use Rattle.syntect_metadata.specs.syntect_scope.declared.repository.ParseScopeError.{ParseScopeError}
use Rattle.syntect_metadata.specs.syntect_scope.declared.repository.ParseScopeError.TheVariants as scope
use Rattle.serde_json.specs.Data.{Data}
use Rattle.syntect_metadata.specs.Merging.{object_of}
use Rattle.syntect_metadata.specs.Seen.{merged_view, table_seen}
use Rattle.syntect_metadata.specs.Sets.{set_with, set_of, scope_refusal, Refuses, with_set, IsAfterSet, ReadsSets, with_sets}
use Rattle.syntect_metadata.specs.declared.error.MetadataError.{MetadataError}
use Rattle.syntect_metadata.specs.declared.items.MetadataItems.{MetadataItems}
use Rattle.syntect_metadata.specs.declared.merge.Merged.{Merged}
use Rattle.syntect_metadata.specs.declared.set.MetadataSet.{MetadataSet}

pub refused_with : (repo : List (List ℕ)) (text : List ℕ) (items : MetadataItems) (e : ParseScopeError) → IsRefusalOrMemory (first_refusal repo (union_words text)) e → Refuses (set_with repo text items) (scope_refusal e)
refused_with repo text items scope.Memory h q = absurd (q refl)
refused_with repo text items scope.TooLong h q = rw h refl
refused_with repo text items scope.TooManyAtoms h q = rw h refl

pub refused_as : (repo : List (List ℕ)) (text : List ℕ) (items : MetadataItems) (e : ParseScopeError) (as_text : List ℕ) (r : MetadataError) → as_text ≡ text → r ≡ scope_refusal e
    → IsRefusalOrMemory (first_refusal repo (union_words as_text)) e → Refuses (set_with repo text items) r
refused_as repo text items e as_text r t s h =
    subst (λ (x : MetadataError). Refuses (set_with repo text items) x) (sym s) (refused_with repo text items e (subst (λ (x : List ℕ). IsRefusalOrMemory (first_refusal repo (union_words x)) e) t h))

-- what the sets of the rest make of those before
abbrev pub Reads : List (List ℕ) → List (List ℕ × Merged) → List (List ℕ) → List MetadataSet → Type 0
Reads old done left sets = (rest : List (List ℕ × Merged)) (new : List (List ℕ)) (others : List MetadataSet) → ReadsSets left (table_seen rest) new others → ReadsSets old (table_seen (done ++ rest)) new (sets ++ others)

pub none_read : (old : List (List ℕ)) → Reads old [] old []
none_read old rest new others h = h

next_read : (old : List (List ℕ)) (done : List (List ℕ × Merged)) (one : List ℕ × Merged) (left new : List (List ℕ)) (sets : List MetadataSet) (r : Result MetadataSet MetadataError)
    → set_of left one.0 (object_of (merged_view one.1)) ≡ r → IsAfterSet left r one.0 new → Reads old done left sets
    → (rest : List (List ℕ × Merged)) (last : List (List ℕ)) (others : List MetadataSet) → ReadsSets new (table_seen rest) last others → ReadsSets old (table_seen ((done ++ one ∷ []) ++ rest)) last (sets ++ with_set r others)
next_read old done one left new sets r e after before rest last others h =
    subst (λ (ms : List (List ℕ × Merged)). ReadsSets old (table_seen ms) last (sets ++ with_set r others)) (sym (append_assoc done (one ∷ []) rest))
    (before (one ∷ rest) last (with_set r others)
    (new, subst (λ (a : Result MetadataSet MetadataError). IsAfterSet left a one.0 new) (sym e) after, others, h, ap (λ (a : Result MetadataSet MetadataError). with_set a others) (sym e)))

-- one more set
pub reads_set : (old : List (List ℕ)) (done : List (List ℕ × Merged)) (one : List ℕ × Merged) (left new : List (List ℕ)) (sets all : List MetadataSet) (set : MetadataSet) (d : Data) (text : List ℕ)
    → d ≡ object_of (merged_view one.1) → text ≡ one.0 → set_of left text d ≡ Ok set → new ≡ with_scopes left (union_words text) → all ≡ sets ++ set ∷ [] → Reads old done left sets → Reads old (done ++ one ∷ []) new all
reads_set old done one left new sets all set d text same t e after more before rest last others h =
    let read : set_of left one.0 (object_of (merged_view one.1)) ≡ Ok set = ap (λ (x : Data). set_of left one.0 x) (sym same) ∙ ap (λ (x : List ℕ). set_of left x d) (sym t) ∙ e in
    subst (λ (xs : List MetadataSet). ReadsSets old (table_seen ((done ++ one ∷ []) ++ rest)) last xs) (sym (append_assoc sets (set ∷ []) others) ∙ ap (λ (xs : List MetadataSet). xs ++ others) (sym more))
    (next_read old done one left new sets (Ok set) read (after ∙ ap (λ (x : List ℕ). with_scopes left (union_words x)) t) before rest last others h)

-- one that is refused
pub passes_set : (old : List (List ℕ)) (done : List (List ℕ × Merged)) (one : List ℕ × Merged) (left new : List (List ℕ)) (sets : List MetadataSet) (refusal : MetadataError) (d : Data) (text : List ℕ)
    → d ≡ object_of (merged_view one.1) → text ≡ one.0 → set_of left text d ≡ Err refusal → take (length left) new ≡ left → Reads old done left sets → Reads old (done ++ one ∷ []) new sets
passes_set old done one left new sets refusal d text same t e after before rest last others h =
    let read : set_of left one.0 (object_of (merged_view one.1)) ≡ Err refusal = ap (λ (x : Data). set_of left one.0 x) (sym same) ∙ ap (λ (x : List ℕ). set_of left x d) (sym t) ∙ e in
    next_read old done one left new sets (Err refusal) read after before rest last others h

pub all_read : (old : List (List ℕ)) (done : List (List ℕ × Merged)) (left : List (List ℕ)) (sets : List MetadataSet) → Reads old done left sets → ReadsSets old (table_seen done) left sets
all_read old done left sets h =
    subst (λ (ms : List (List ℕ × Merged)). ReadsSets old (table_seen ms) left sets) (append-nil done)
    (subst (λ (xs : List MetadataSet). ReadsSets old (table_seen (done ++ [])) left xs) (append-nil sets) (h [] left [] (refl, refl)))

pub keeps_on : (old left new : List (List ℕ)) → take (length old) left ≡ old → take (length left) new ≡ left → take (length old) new ≡ old
keeps_on old left new e h =
    let n : length old ≤ length left = omega (arith, ap length (sym e), length-take {A = List ℕ} (length old) left) in
    let whole : new ≡ left ++ drop (length left) new = sym (take-append-drop (length left) new) ∙ ap (λ (l : List (List ℕ)). l ++ drop (length left) new) h in
    subst (λ (l : List (List ℕ)). take (length old) l ≡ old) (sym whole) (take-append-le (length old) left (drop (length left) new) n ∙ e)

pub sets_next : (sets : List MetadataSet) (set : MetadataSet) (table : List (List ℕ × MetadataSet)) → with_sets (sets ++ set ∷ []) table ≡ insert_entry (slice_cmp nat_cmp) (with_sets sets table) set.selector_string set
sets_next [] set table = refl
sets_next (s ∷ sets) set table = sets_next sets set (insert_entry (slice_cmp nat_cmp) table s.selector_string s)
