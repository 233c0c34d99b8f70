-- The steps of the loader, and values as it sees them.
use Rattle.std.proofs.Common.{◌≡◌, ℕ, List, [], ◌∷◌, map, Option, Some, None, Result, Ok, option_map, Bool, true, false, cond, ◌+◌, ◌<◌, drop, get_or, ◌++◌, ◌≤◌, length, is_some, arith, refl, ap, sym, ◌∙◌}
use Rattle.std.proofs.lemmas.Str.Pattern.{ends_text}
use Rattle.std.specs.Str.Pattern.{FindsTextSuffix}
use Rattle.std.specs.Borrow.{Bor}
use Rattle.std.proofs.lemmas.Grind.{common_steps}
use Rattle.std.proofs.lemmas.List.{take-append-le, drop_more}
use Rattle.syntect_grammar_loader.specs.syntect_scope.Repository.{with_atom, with_atoms, place_in}
use Rattle.syntect_yaml.specs.Node.{Node, Items, Entries}
use Rattle.syntect_yaml.specs.View.{view, items_of, items_view, entries_of, entries_view, entry_view}
use Rattle.syntect_yaml.specs.declared.value.Scalar.{Scalar}
use Rattle.syntect_yaml.specs.declared.value.Yaml.{Yaml}
use Rattle.syntect_base.specs.declared.syntax.ParseSyntaxError.{ParseSyntaxError}
use Rattle.syntect_grammar_loader.specs.LoadingSteps.{Refusal, Fails, Step, on, each, Begins, KeepsAtoms}
use Rattle.syntect_grammar_loader.specs.LoadingValues.{values, pairs, file_ending, without_ending}
use Rattle.syntect_grammar_loader.specs.declared.yaml_load_state.Reading.{Reading}

pub values_back : (vs : List Node) → values (items_of vs) ≡ vs
values_back [] = refl
values_back (v ∷ vs) = ap (λ ws. v ∷ ws) (values_back vs)

pub pairs_back : (es : List (Scalar × Node)) → pairs (entries_of es) ≡ es
pairs_back [] = refl
pairs_back (e ∷ es) = ap (λ fs. e ∷ fs) (pairs_back es)

-- the same of what may be there
pub values_seen : (r : Option (Bor (List Yaml))) (o : Option Items) → option_map (λ v. items_view v.now) r ≡ o → option_map (λ v. map view v.now) r ≡ option_map values o
values_seen None o e = ap (option_map values) e
values_seen (Some vs) o e = ap Some (sym (values_back (map view vs.now))) ∙ ap (option_map values) e

pub pairs_seen : (r : Option (Bor (List (Scalar × Yaml)))) (o : Option Entries) → option_map (λ v. entries_view v.now) r ≡ o → option_map (λ v. map entry_view v.now) r ≡ option_map pairs o
pairs_seen None o e = ap (option_map pairs) e
pairs_seen (Some vs) o e = ap Some (sym (pairs_back (map entry_view vs.now))) ∙ ap (option_map pairs) e

-- a refusal of the first step is that of the whole
pub refused_first : {A B : Type 0} (e : ParseSyntaxError) (a : Result (A × Reading) Refusal) (f : A → Step B) → Fails a e → Fails (on a f) e
refused_first e a f h = λ r s. ap (λ x. on x f) (h r s)

-- ---- atoms keep their numbers ----

keeps_last : (old r : List (List ℕ)) (t : List ℕ) → Begins old r → Begins old (r ++ t ∷ [])
keeps_last old r t h = let within : length old ≤ length r = grind (arith, common_steps) in take-append-le (length old) r (t ∷ []) within ∙ h

keeps_atom : (r : List (List ℕ)) (t : List ℕ) (b : Bool) → KeepsAtoms r (cond b r (r ++ t ∷ []))
keeps_atom r t true = λ old h. h
keeps_atom r t false = λ old h. keeps_last old r t h

pub keeps_atoms : (ts r : List (List ℕ)) → KeepsAtoms r (with_atoms r ts)
keeps_atoms [] r = λ old h. h
keeps_atoms (t ∷ ts) r = λ old h. keeps_atoms ts (with_atom r t) old (keeps_atom r t (is_some (place_in r t)) old h)

pub keeps_built : (r s : List (List ℕ)) (ts : List (List ℕ)) → s ≡ with_atoms r ts → KeepsAtoms r s
keeps_built r s ts e = λ old h. rw e (keeps_atoms ts r old h)

-- ---- a step for each of a list ----

next : {A B : Type 0} (v : A → B) (xs : List A) (i : ℕ) (d : A) → i < length xs → map v (drop i xs) ≡ v (get_or xs i d) ∷ map v (drop (i + 1) xs)
next v xs i d l = ap (map v) (drop_more xs i d l)

-- a refusal of one is that of all
pub each_fails : {A B C : Type 0} (v : A → B) (f : C → B → Step C) (c : C) (s : Reading) (xs : List A) (i : ℕ) (d : A) (all : Result (C × Reading) Refusal) (e : ParseSyntaxError)
    → i < length xs → each f c (map v (drop i xs)) s ≡ all → Fails (f c (v (get_or xs i d)) s) e → Fails all e
each_fails v f c s xs i d all e l same h = λ r w. sym same ∙ ap (λ ys. each f c ys s) (next v xs i d l) ∙ ap (λ a. on a (λ b. each f b (map v (drop (i + 1) xs)))) (h r w)

-- one more is read
pub each_next : {A B C : Type 0} (v : A → B) (f : C → B → Step C) (c b : C) (s t : Reading) (xs : List A) (i : ℕ) (d : A) (all : Result (C × Reading) Refusal)
    → i < length xs → each f c (map v (drop i xs)) s ≡ all → f c (v (get_or xs i d)) s ≡ Ok (b, t) → each f b (map v (drop (i + 1) xs)) t ≡ all
each_next v f c b s t xs i d all l same h = sym (ap (λ ys. each f c ys s) (next v xs i d l) ∙ ap (λ a. on a (λ b. each f b (map v (drop (i + 1) xs)))) h) ∙ same

-- ---- endings ----

pub no_ending : (t : List ℕ) → FindsTextSuffix file_ending t None → t ≡ without_ending t
no_ending t h = rw (sym (ends_text false file_ending t h)) refl
