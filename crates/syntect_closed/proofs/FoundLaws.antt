-- Finders look at heads alone.
use Rattle.std.proofs.Common.{◌≡◌, ℕ, ◌+◌, ◌==◌, Bool, true, false, List, [], ◌∷◌, map, reverse, find, cond, codes, Option, Some, None, slice_get, unwrap_or, refl, ap, sym, ◌∙◌, if◌then◌else◌}
use mathlib.Core.List.{reverse_aux}
use Rattle.std.specs.Option.{option_map, option_or, option_and_then}
use Rattle.std.specs.Path.{path_file_name, path_extension}
use Rattle.std.specs.Str.{str_eq_ignore_ascii_case}
use Rattle.std.specs.Cmp.Lexicographic.{pointwise}
use Rattle.std.proofs.lemmas.Option.{slice_get-map}
use Rattle.syntect_closed.specs.syntect_grammar.Contexts.{syntaxes_in, set_paths}
use Rattle.syntect_closed.specs.syntect_grammar.Finding.{last_fitting, has_extension, without_mark, fits_line, ends_in_path, found_by_name, found_by_extension, found_by_first_line, found_by_file_name}
use Rattle.syntect_closed.specs.syntect_grammar.Link.{linked_from, linked_definition, heads_from, body_of}
use Rattle.syntect_closed.specs.Shelved.{Whole, shelved, head_alone}
use Rattle.syntect_closed.specs.Found.{seen_head, heads_in, SameHead, FindAlike, HeadsFindAlike, ShelvedHaveHeads}
use Rattle.syntect_closed.specs.syntect_grammar_contexts.declared.context.Context.{Context}
use Rattle.syntect_closed.specs.syntect_grammar_contexts.declared.syntax_reference.SyntaxReference.{SyntaxReference}
use Rattle.syntect_closed.specs.syntect_grammar_loader.declared.definition.SyntaxDefinition.{SyntaxDefinition}
use Rattle.syntect_closed.specs.syntect_grammar.declared.syntax_set.SyntaxSet.{SyntaxSet}

turned : {A B : Type 0} (h : A → B) (l r : List A) → map h (reverse_aux l r) ≡ reverse_aux (map h l) (map h r)
turned h [] r = refl
turned h (x ∷ l) r = turned h l (x ∷ r)

-- what is found by a test of f x, seen by f
find_seen : {A : Type 0} (f : A → A) (test : A → Bool) → ((x : A) → test (f x) ≡ test x) → (xs : List A) → option_map f (find test xs) ≡ find test (map f xs)
find_seen f test h [] = refl
find_seen f test h (x ∷ xs) = by (test x) (test (f x)) (h x) (find_seen f test h xs)
  where
    by : (a b : Bool) → b ≡ a → option_map f (find test xs) ≡ find test (map f xs) → option_map f (cond a (Some x) (find test xs)) ≡ cond b (Some (f x)) (find test (map f xs))
    by true true e k = refl
    by true false e k = cc
    by false true e k = cc
    by false false e k = k

last_seen : (test : SyntaxReference → Bool) → ((s : SyntaxReference) → test (seen_head s) ≡ test s) → (set : SyntaxSet) → option_map seen_head (last_fitting test (syntaxes_in set)) ≡ last_fitting test (heads_in set)
last_seen test h set = find_seen seen_head test h (reverse (syntaxes_in set)) ∙ ap (find test) (turned seen_head (syntaxes_in set) [])

or_seen : (a b c d : Option SyntaxReference) → SameHead a b → SameHead c d → SameHead (option_or a c) (option_or b d)
or_seen None None c d e f = f
or_seen None (Some y) c d e f = cc
or_seen (Some x) None c d e f = cc
or_seen (Some x) (Some y) c d e f = e

module _ (a b : SyntaxSet) (same : heads_in a ≡ heads_in b) where
  last_same : (test : SyntaxReference → Bool) → ((s : SyntaxReference) → test (seen_head s) ≡ test s) → SameHead (last_fitting test (syntaxes_in a)) (last_fitting test (syntaxes_in b))
  last_same test h = last_seen test h a ∙ ap (last_fitting test) same ∙ sym (last_seen test h b)

  extension_same : (extension : List ℕ) → SameHead (found_by_extension a extension) (found_by_extension b extension)
  extension_same extension = last_same (has_extension extension) (λ s. refl)

  name_same : (name : List ℕ) → SameHead (found_by_name a name) (found_by_name b name)
  name_same name = last_same (λ s. pointwise ◌==◌ s.name name) (λ s. refl)

  line_same : (line : List ℕ) → SameHead (found_by_first_line a line) (found_by_first_line b line)
  line_same line = last_same (fits_line (without_mark line)) (λ s. refl)

  file_name_same : (path : List ℕ) → SameHead (found_by_file_name a path) (found_by_file_name b path)
  file_name_same path =
      or_seen (found_by_extension a (unwrap_or (path_file_name path) [])) (found_by_extension b (unwrap_or (path_file_name path) [])) (found_by_extension a (unwrap_or (path_extension path) [])) (found_by_extension b (unwrap_or (path_extension path) []))
      (extension_same (unwrap_or (path_file_name path) [])) (extension_same (unwrap_or (path_extension path) []))

  place_same : (k : ℕ) → SameHead (slice_get (syntaxes_in a) k) (slice_get (syntaxes_in b) k)
  place_same k = sym (slice_get-map seen_head (syntaxes_in a) k) ∙ ap (λ (l : List SyntaxReference). slice_get l k) same ∙ slice_get-map seen_head (syntaxes_in b) k

  path_same : (o : Option (List ℕ × ℕ)) → SameHead (option_and_then (λ (entry : List ℕ × ℕ). slice_get (syntaxes_in a) entry.1) o) (option_and_then (λ (entry : List ℕ × ℕ). slice_get (syntaxes_in b) entry.1) o)
  path_same None = refl
  path_same (Some entry) = place_same entry.1

  pub find_alike : FindAlike a b
  find_alike = record {
    by_scope = λ scope. last_same (λ s. pointwise ◌==◌ s.scope scope) (λ s. refl);
    by_name = name_same;
    by_extension = extension_same;
    by_token = λ token. or_seen (found_by_extension a token) (found_by_extension b token) (last_fitting (λ s. str_eq_ignore_ascii_case s.name token) (syntaxes_in a)) (last_fitting (λ s. str_eq_ignore_ascii_case s.name token) (syntaxes_in b))
        (extension_same token) (last_same (λ s. str_eq_ignore_ascii_case s.name token) (λ s. refl));
    plain_text = name_same (codes "Plain Text");
    by_first_line = line_same;
    by_file_name = file_name_same;
    for_file = λ path line. or_seen (found_by_file_name a path) (found_by_file_name b path) (found_by_first_line a line) (found_by_first_line b line) (file_name_same path) (line_same line);
    by_path = λ paths path.
        path_same (last_fitting (λ entry. ends_in_path entry.0 path) (set_paths a))
        ∙ ap (λ (ps : List (List ℕ × ℕ)). option_map seen_head (option_and_then (λ (entry : List ℕ × ℕ). slice_get (syntaxes_in b) entry.1) (last_fitting (λ entry. ends_in_path entry.0 path) ps))) paths;
  }

pub heads_find_alike : HeadsFindAlike
heads_find_alike a b same = find_alike a b same

-- ---- heads of linked definitions ----

heads_shelved : (whole : Whole) (h k : List SyntaxReference) (x y : List (List Context)) (i : ℕ) (ds : List SyntaxDefinition)
    → map seen_head (linked_from h x i (shelved whole i ds)) ≡ map seen_head (linked_from k y i ds)
heads_shelved whole h k x y i [] = refl
heads_shelved whole h k x y i (d ∷ ds) =
    ap (λ (s : SyntaxReference). s ∷ map seen_head (linked_from h x (i + 1) (shelved whole (i + 1) ds))) (by (whole i))
    ∙ ap (λ (l : List SyntaxReference). seen_head (linked_definition k y i d) ∷ l) (heads_shelved whole h k x y (i + 1) ds)
  where
    by : (b : Bool) → seen_head (linked_definition h x i (if b then d else head_alone d)) ≡ seen_head (linked_definition k y i d)
    by true = refl
    by false = refl

pub shelved_have_heads : ShelvedHaveHeads
shelved_have_heads whole ds all some e f =
    ap (map seen_head) f ∙ heads_shelved whole (heads_from 0 (shelved whole 0 ds)) (heads_from 0 ds) (map body_of (shelved whole 0 ds)) (map body_of ds) 0 ds ∙ sym (ap (map seen_head) e)
