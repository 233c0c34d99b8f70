-- What holds of a definition that was loaded.
use Rattle.std.proofs.Common.{◌≡◌, ◌==◌, ℕ, zero, suc, ◌<◌, ◌≤◌, Bool, true, false, ◌&&◌, get_or, List, [], ◌∷◌, length, map, refl, ap, arith, Option, Some, None, Result, Ok, Err, subst}
use Rattle.std.specs.Prelude.{position, IfSome, slice_get}
use Rattle.std.specs.Option.{option_and_then}
use Rattle.std.proofs.Common.{Ordering, Less, Equal, Greater}
use Rattle.std.specs.Ordering.{match_ordering, nat_cmp}
use Rattle.std.specs.Cmp.Lexicographic.{pointwise, slice_cmp}
use Rattle.std.specs.BTreeMap.{insert_entry, is_at}
use Rattle.std.specs.Map.{remove_entry}
use Rattle.std.proofs.lemmas.List.Quantifiers.{position-Some}
use Rattle.std.proofs.lemmas.Map.Lookups.{exact_bytes}
use Rattle.std.proofs.lemmas.Bool.Decides.{nat_tests}
use Rattle.syntect_easy.specs.syntect_yaml.Node.{Node}
use Rattle.syntect_easy.specs.syntect_yaml.Yaml.{yaml_of}
use Rattle.syntect_easy.specs.syntect_grammar.Link.{names_of}
use Rattle.syntect_easy.specs.syntect_grammar_loader.LoadingSteps.{Refusal, no_node, no_value, no_main}
use Rattle.syntect_easy.specs.syntect_grammar_loader.Loading.{loaded, definition_in, finish, finished_with, leaving, defined, read_contexts, nothing_read, variables_at, with_start, around_main, start_context, outer_context, main_context, start_name, outer_name, main_name}
use Rattle.syntect_easy.specs.syntect_grammar_contexts.declared.context.Context.{Context}
use Rattle.syntect_easy.specs.syntect_grammar_loader.declared.definition.SyntaxDefinition.{SyntaxDefinition}
use Rattle.syntect_easy.specs.Built as built

abbrev Entry : Type 0
Entry = List ℕ × Context

abbrev is_start : List ℕ → Bool
is_start = pointwise ◌==◌ start_name

-- the context in which reading begins, as the loader puts it under the scope of the grammar
abbrev pub Begins : Context → Type 0
Begins c = (top : List ℕ) × (c ≡ start_context top)

-- the first entry of the name, if there is one, is so
FirstBegins : List Entry → Type 0
FirstBegins [] = Unit {0}
FirstBegins (e ∷ es) = (is_start e.0 ≡ true → Begins e.1) × (is_start e.0 ≡ false → FirstBegins es)

both : (a b : Bool) → (a && b) ≡ true → (a ≡ true) × (b ≡ true)
both true b e = (refl, e)
both false b e = let f : false ≡ true = e in cc

same_list : (xs ys : List ℕ) → pointwise ◌==◌ xs ys ≡ true → xs ≡ ys
same_list [] [] e = refl
same_list [] (y ∷ ys) e = let f : false ≡ true = e in cc
same_list (x ∷ xs) [] e = let f : false ≡ true = e in cc
same_list (x ∷ xs) (y ∷ ys) e =
    let h : ((x == y) ≡ true) × (pointwise ◌==◌ xs ys ≡ true) = both (x == y) (pointwise ◌==◌ xs ys) e in
    let t : (x == y) ≡ true = h.0 in
    let first : x ≡ y = grind (arith, nat_tests) in
    let rest : xs ≡ ys = same_list xs ys h.1 in
    cc

-- names that are tested equal are so
start_is : (name : List ℕ) → is_start name ≡ true → start_name ≡ name
start_is name e = same_list start_name name e

abbrev pub BeginsAtStart : SyntaxDefinition → Type 0
BeginsAtStart d = IfSome (built.start_context d) Begins

abbrev Answer : Type 0
Answer = Result (SyntaxDefinition × List (List ℕ)) Refusal

never : (r : Refusal) (x : SyntaxDefinition × List (List ℕ)) (a : Answer) → a ≡ Err r → a ≡ Ok x → ⊥
never r x a e f = cc

alike : (x y : SyntaxDefinition × List (List ℕ)) (a : Answer) → a ≡ Ok x → a ≡ Ok y → x.0 ≡ y.0
alike x y a e f = let g : x ≡ y = cc in ap (λ p. p.0) g

put_start : (es : List Entry) (c : Context) → Begins c → FirstBegins (insert_entry (slice_cmp nat_cmp) es start_name c)
unfolding FirstBegins
put_start [] c h = (λ _. h, λ _. tt)
put_start (e ∷ es) c h = go (put_start es c h) (slice_cmp nat_cmp start_name e.0) refl
  where
    go : FirstBegins (insert_entry (slice_cmp nat_cmp) es start_name c) → (o : Ordering) → slice_cmp nat_cmp start_name e.0 ≡ o → FirstBegins (match_ordering o ((start_name, c) ∷ e ∷ es) ((e.0, c) ∷ es) (e ∷ insert_entry (slice_cmp nat_cmp) es start_name c))
    go later Less f = (λ _. h, λ g. let g' : true ≡ false = g in cc)
    go later Equal f =
        let same : start_name ≡ e.0 = exact_bytes start_name e.0 f in
        let there : is_start e.0 ≡ true = subst (λ (x : List ℕ). is_start x ≡ true) same refl in
        (λ _. h, λ g. cc)
    go later Greater f = (
      λ t.
          let same : start_name ≡ e.0 = start_is e.0 t in
          let here : slice_cmp nat_cmp start_name e.0 ≡ Equal = subst (λ (x : List ℕ). slice_cmp nat_cmp start_name x ≡ Equal) same refl in
          cc,
      λ _. later,
    )

put_other : (name : List ℕ) (es : List Entry) (c : Context) → is_start name ≡ false → FirstBegins es → FirstBegins (insert_entry (slice_cmp nat_cmp) es name c)
unfolding FirstBegins
put_other name [] c other h = (λ t. cc, λ _. tt)
put_other name (e ∷ es) c other h = go (λ l. put_other name es c other l) (slice_cmp nat_cmp name e.0) refl
  where
    go : (FirstBegins es → FirstBegins (insert_entry (slice_cmp nat_cmp) es name c)) → (o : Ordering) → slice_cmp nat_cmp name e.0 ≡ o → FirstBegins (match_ordering o ((name, c) ∷ e ∷ es) ((e.0, c) ∷ es) (e ∷ insert_entry (slice_cmp nat_cmp) es name c))
    go later Less f = (λ t. cc, λ _. h)
    go later Equal f =
        let same : name ≡ e.0 = exact_bytes name e.0 f in
        let there : is_start e.0 ≡ false = subst (λ (x : List ℕ). is_start x ≡ false) same other in
        (λ t. cc, λ g. h.1 g)
    go later Greater f = (h.0, λ g. later (h.1 g))

first_at : (es : List Entry) (k : ℕ) → FirstBegins es → k < length (names_of es) → is_start (get_or (names_of es) k []) ≡ true → ((j : ℕ) → j < k → is_start (get_or (names_of es) j []) ≡ false)
    → IfSome (slice_get (map (λ (e : Entry). e.1) es) k) Begins
unfolding FirstBegins
first_at [] k h l t f = absurd (omega arith)
first_at (e ∷ es) zero h l t f = h.0 t
first_at (e ∷ es) (suc k) h l t f = first_at es k (h.1 (f 0 (omega arith))) (omega arith) t (λ j m. f (suc j) (omega arith))

begins_first : (es : List Entry) → FirstBegins es → (o : Option ℕ) → position is_start (names_of es) ≡ o → IfSome (option_and_then (slice_get (map (λ (e : Entry). e.1) es)) o) Begins
begins_first es h None e = tt
begins_first es h (Some k) e =
    let n : (k < length (names_of es)) × (is_start (get_or (names_of es) k []) ≡ true) × ((j : ℕ) → j < k → is_start (get_or (names_of es) j []) ≡ false) = position-Some is_start (names_of es) k [] e in
    first_at es k h n.0 n.1 n.2

-- a definition with its start
begins_around : (top : List ℕ) (main : Context) (others : List Entry) → FirstBegins (around_main top main others)
begins_around top main others =
    put_other main_name _ (main_context top main) refl
    (put_other outer_name _ (outer_context main) refl
    (put_start others (start_context top) (top, refl)))

of_lookup : (v : Node) (variables : List (List ℕ × List ℕ)) (fallback : Option (List ℕ)) (top : List ℕ) (contexts : List Entry) (repository : List (List ℕ)) (d : SyntaxDefinition) (left : List (List ℕ))
    (o : Option Context) → leaving repository (finished_with v variables fallback top contexts o) ≡ Ok (d, left) → BeginsAtStart d
of_lookup v variables fallback top contexts repository d left None e = absurd (never no_main (d, left) _ refl e)
of_lookup v variables fallback top contexts repository d left (Some main) e =
    let same : defined v variables fallback top (with_start top main contexts) ≡ d = alike (defined v variables fallback top (with_start top main contexts), repository) (d, left) _ refl e in
    let known : FirstBegins (with_start top main contexts) = begins_around top main (remove_entry (is_at (slice_cmp nat_cmp main_name)) contexts) in
    subst BeginsAtStart same (begins_first (with_start top main contexts) known _ refl)

of_reading : (v : Node) (fallback : Option (List ℕ)) (d : SyntaxDefinition) (left : List (List ℕ)) (x : Result _ Refusal) → finish v fallback x ≡ Ok (d, left) → BeginsAtStart d
of_reading v fallback d left (Err r) e = absurd (never r (d, left) _ refl e)
of_reading v fallback d left (Ok p) e = of_lookup v p.1.variables fallback p.0 p.1.contexts p.1.repository d left _ e

of_value : (o : Option (Option Node)) (newline : Bool) (fallback : Option (List ℕ)) (repository : List (List ℕ)) (d : SyntaxDefinition) (left : List (List ℕ)) → definition_in o newline fallback repository ≡ Ok (d, left) → BeginsAtStart d
of_value None newline fallback repository d left e = absurd (never no_value (d, left) _ refl e)
of_value (Some None) newline fallback repository d left e = absurd (never no_node (d, left) _ refl e)
of_value (Some (Some v)) newline fallback repository d left e = of_reading v fallback d left (read_contexts v (nothing_read (variables_at v) newline repository)) e

pub loaded_begins : (text : List ℕ) (newline : Bool) (fallback : Option (List ℕ)) (repository : List (List ℕ)) (d : SyntaxDefinition) (left : List (List ℕ))
    → loaded text newline fallback repository ≡ Ok (d, left) → BeginsAtStart d
loaded_begins text newline fallback repository d left e = of_value (yaml_of text) newline fallback repository d left e

plain_context : (o : Option Context) → IfSome o Begins → IfSome o (λ c. (c.meta_scope ≡ []) × (length c.meta_content_scope ≤ 1) × (c.clear_scopes ≡ None))
plain_context None h = tt
plain_context (Some c) h = rw h.1 (refl, omega arith, refl)

pub loaded_plain : (text : List ℕ) (newline : Bool) (fallback : Option (List ℕ)) (repository : List (List ℕ)) (d : SyntaxDefinition) (left : List (List ℕ))
    → loaded text newline fallback repository ≡ Ok (d, left) → built.IsPlain d
loaded_plain text newline fallback repository d left e = plain_context (built.start_context d) (loaded_begins text newline fallback repository d left e)
