-- Whole syntaxes that lead to whole ones are linked as in the set of all.
use Rattle.std.proofs.Common.{◌≡◌, ℕ, zero, suc, ◌+◌, ◌==◌, Bool, true, false, ◌||◌, List, [], ◌∷◌, ◌++◌, map, Option, Some, None, slice_get, unwrap_or, refl, ap, sym, ◌∙◌, arith, if◌then◌else◌}
use Rattle.std.specs.Prelude.{position, codes}
use Rattle.std.specs.Cmp.Lexicographic.{pointwise}
use Rattle.std.specs.List.{filter_map, flat_map, cons_option, list_any}
use Rattle.std.specs.Option.{option_map, option_map_or, option_to_list, option_and_then, option_or}
use Rattle.std.proofs.lemmas.Option.{slice_get-map}
use Rattle.syntect_closed.specs.syntect_grammar.Contexts.{context_at, syntaxes_in}
use Rattle.syntect_closed.specs.syntect_grammar_contexts.Contexts.{target, list_of, named_in, is_same}
use Rattle.syntect_closed.specs.syntect_grammar.Link.{linked, linked_from, linked_definition, head_of, heads_from, body_of}
use Rattle.syntect_closed.specs.syntect_grammar_linker.References.{context_named, meant, last_that, has_scope, has_name, context_by, plain_text_in, or_plain_text, link_of, linked_reference}
use Rattle.syntect_closed.specs.syntect_grammar_linker.Reached.{HasPath, here, there as onward, given_at, entries_given, include_step, open_step, entry_steps, prototype_steps, names_at, is_reached, unless_reached, prototype_for, included_by, includes_of, is_marked, is_marked_in_set, PrototypesReach, MarksReach}
use Rattle.syntect_closed.specs.syntect_grammar_linker.LinkedContexts.{linked_operation, linked_pattern, linked_context, context_with}
use Rattle.syntect_closed.specs.Closed.{AreIn, leads_of, StaysIn, IsClosedPart, AgreeOn, StandsIn}
use Rattle.syntect_closed.specs.Shelved.{Whole, whole_part, head_alone, shelved_at, shelved, last_of_scope, last_of_name, place_of, references_of, places_by, places_of_entry, places_of_context, AreWhole, IsClosedShelf, ShelvedAgree, ShelvedReadAlike}
use Rattle.syntect_closed.proofs.EachLaws.{Each, each-flat_map, each_of}
use Rattle.syntect_closed.proofs.ClosedReading.{flat_map_same, closed_read_alike}
use Rattle.syntect_parsing.specs.Line.{start_of, start}
use Rattle.syntect_parsing.specs.declared.parser.Standing.{Standing}
use Rattle.syntect_closed.proofs.syntect_grammar_linker_proofs.Numbers.{same_id}
use Rattle.syntect_closed.proofs.ReachLaws.{prototypes_reach, marks_reach}
use Rattle.syntect_closed.proofs.LinkLaws.{head_at, linked_at, contexts_at, there, IsOf, is_of}
use Rattle.syntect_closed.specs.syntect_grammar_contexts.declared.context.ContextId.{ContextId}
use Rattle.syntect_closed.specs.syntect_grammar_contexts.declared.context.ContextReference.{ContextReference}
use Rattle.syntect_closed.specs.syntect_grammar_contexts.declared.context.ContextReference.TheVariants as ref
use Rattle.syntect_closed.specs.syntect_grammar_contexts.declared.context.MatchOperation.{MatchOperation}
use Rattle.syntect_closed.specs.syntect_grammar_contexts.declared.context.MatchOperation.TheVariants as op
use Rattle.syntect_closed.specs.syntect_grammar_contexts.declared.context.Pattern.{Pattern}
use Rattle.syntect_closed.specs.syntect_grammar_contexts.declared.context.Pattern.TheVariants.{Match, Include}
use Rattle.syntect_closed.specs.syntect_grammar_contexts.declared.context.Context.{Context}
use Rattle.syntect_closed.specs.syntect_grammar_loader.declared.definition.SyntaxDefinition.{SyntaxDefinition}
use Rattle.syntect_closed.specs.syntect_grammar_contexts.declared.syntax_reference.SyntaxReference.{SyntaxReference}
use Rattle.syntect_closed.specs.syntect_grammar.declared.syntax_set.SyntaxSet.{SyntaxSet}

-- ---- lists ----

map_same : {A B : Type 0} (P : A → Type 0) (f g : A → B) (xs : List A) → Each P xs → ((x : A) → P x → f x ≡ g x) → map f xs ≡ map g xs
map_same P f g [] e h = refl
map_same {B = B} P f g (x ∷ xs) e h = ap (λ (y : B). y ∷ map f xs) (h x e.0) ∙ ap (λ (ys : List B). g x ∷ ys) (map_same P f g xs e.1 h)

each_at : {A : Type 0} (P : A → Type 0) (xs : List A) (k : ℕ) (x : A) → Each P xs → slice_get xs k ≡ Some x → P x
each_at P [] k x e f = cc
each_at P (y ∷ ys) zero x e f = let i : y ≡ x = cc in rw (← i) e.0
each_at P (y ∷ ys) (suc k) x e f = each_at P ys k x e.1 f

each_left : {A : Type 0} (P : A → Type 0) (xs ys : List A) → Each P (xs ++ ys) → Each P xs × Each P ys
each_left P [] ys e = (tt, e)
each_left P (x ∷ xs) ys e = let k : Each P xs × Each P ys = each_left P xs ys e.1 in ((e.0, k.0), k.1)

each_among : (P : ContextId → Type 0) (x : ContextId) (xs : List ContextId) → Each P xs → list_any (is_same x) xs ≡ true → P x
each_among P x [] e h = cc
each_among P x (y ∷ ys) e h = by (λ k. each_among P x ys e.1 k) (is_same x y) refl h
  where
    by : (list_any (is_same x) ys ≡ true → P x) → (b : Bool) → is_same x y ≡ b → (b || list_any (is_same x) ys) ≡ true → P x
    by later true s k = let i : x ≡ y = same_id x y s in rw i e.0
    by later false s k = later k

bool_same : (x y : Bool) → (x ≡ true → y ≡ true) → (y ≡ true → x ≡ true) → x ≡ y
bool_same true true f g = refl
bool_same true false f g = sym (f refl)
bool_same false true f g = g refl
bool_same false false f g = refl

-- ---- paths that stay where steps are the same ----

path_same : (P : ContextId → Type 0) (f g : ContextId → List ContextId) (t u : ContextId → Bool) → ((id : ContextId) → P id → (g id ≡ f id) × Each P (f id)) → ((id : ContextId) → P id → u id ≡ t id)
    → (id : ContextId) → P id → HasPath f t id → HasPath g u id
path_same P f g t u s h id p (here e) = here (h id p ∙ e)
path_same P f g t u s h id p (onward {next = next} m k) =
    let q : P next = each_among P next (f id) (s id p).1 m in
    onward (ap (λ (xs : List ContextId). list_any (is_same next) xs) (s id p).0 ∙ m) (path_same P f g t u s h next q k)

paths_back : (P : ContextId → Type 0) (f g : ContextId → List ContextId) → ((id : ContextId) → P id → (g id ≡ f id) × Each P (f id)) → (id : ContextId) → P id → (f id ≡ g id) × Each P (g id)
paths_back P f g s id p = let k : (g id ≡ f id) × Each P (f id) = s id p in (sym k.0, rw k.0 k.1)

-- ---- heads ----

last_heads : (f : SyntaxReference → Bool) (g : SyntaxDefinition → Bool) → ((i : ℕ) (d : SyntaxDefinition) → f (head_of i d) ≡ g d) → (i : ℕ) (ds : List SyntaxDefinition) → last_that f (heads_from i ds) ≡ last_that g ds
last_heads f g h i [] = refl
last_heads f g h i (d ∷ ds) =
    ap (λ (o : Option ℕ). option_or (option_map suc o) (if f (head_of i d) then Some 0 else None)) (last_heads f g h (i + 1) ds)
    ∙ ap (λ (b : Bool). option_or (option_map suc (last_that g ds)) (if b then Some 0 else None)) (h i d)

last_shelved : (whole : Whole) (g : SyntaxDefinition → Bool) → ((d : SyntaxDefinition) → g (head_alone d) ≡ g d) → (i : ℕ) (ds : List SyntaxDefinition) → last_that g (shelved whole i ds) ≡ last_that g ds
last_shelved whole g h i [] = refl
last_shelved whole g h i (d ∷ ds) =
    ap (λ (o : Option ℕ). option_or (option_map suc o) (if g (shelved_at whole i d) then Some 0 else None)) (last_shelved whole g h (i + 1) ds)
    ∙ ap (λ (b : Bool). option_or (option_map suc (last_that g ds)) (if b then Some 0 else None)) (by (whole i))
  where
    by : (b : Bool) → g (if b then d else head_alone d) ≡ g d
    by true = refl
    by false = h d

place_shelved : (whole : Whole) (index : ℕ) (ds : List SyntaxDefinition) (k : ℕ) → slice_get (shelved whole index ds) k ≡ option_map (shelved_at whole (index + k)) (slice_get ds k)
place_shelved whole index [] k = refl
place_shelved whole index (d ∷ ds) zero = let e : index + 0 ≡ index = omega arith in rw e refl
place_shelved whole index (d ∷ ds) (suc k) =
    let e : (index + 1) + k ≡ index + suc k = omega arith in
    let h : slice_get (shelved whole (index + 1) ds) k ≡ option_map (shelved_at whole ((index + 1) + k)) (slice_get ds k) = place_shelved whole (index + 1) ds k in
    rw e at h

map_whole : (whole : Whole) (i : ℕ) (o : Option SyntaxDefinition) → whole i ≡ true → option_map (shelved_at whole i) o ≡ o
map_whole whole i None w = refl
map_whole whole i (Some d) w = rw w refl

whole_place : (whole : Whole) (ds : List SyntaxDefinition) (i : ℕ) → whole i ≡ true → slice_get (shelved whole 0 ds) i ≡ slice_get ds i
whole_place whole ds i w =
    let z : 0 + i ≡ i = omega arith in
    let h : slice_get (shelved whole 0 ds) i ≡ option_map (shelved_at whole (0 + i)) (slice_get ds i) = place_shelved whole 0 ds i in
    let g : slice_get (shelved whole 0 ds) i ≡ option_map (shelved_at whole i) (slice_get ds i) = rw z at h in
    g ∙ map_whole whole i (slice_get ds i) w

-- ---- what a closed shelf says of the definitions ----

-- a place is whole, if there is one
abbrev pub IsWhole : Whole → Option ℕ → Type 0
IsWhole whole None = Unit {0}
IsWhole whole (Some i) = whole i ≡ true

abbrev pub LeadsToWhole : Whole → List SyntaxDefinition → ContextReference → Type 0
LeadsToWhole whole ds (ref.Named name) = Unit {0}
LeadsToWhole whole ds (ref.Inline name) = Unit {0}
LeadsToWhole whole ds (ref.ByScope scope sub escape) = IsWhole whole (last_of_scope scope ds)
LeadsToWhole whole ds (ref.File name sub escape) = IsWhole whole (last_of_name name ds)
LeadsToWhole whole ds (ref.Direct id) = whole id.syntax_index ≡ true

pub record ContextLeads (whole : Whole) (ds : List SyntaxDefinition) (c : Context) : Type 0 where
  pub entries : Each (λ p. Each (LeadsToWhole whole ds) (references_of p)) c.patterns
  pub prototype : IsWhole whole (option_map (λ (id : ContextId). id.syntax_index) c.prototype)

pub record ClosedBy (whole : Whole) (ds : List SyntaxDefinition) : Type 0 where
  pub plain : IsWhole whole (last_of_name (codes "Plain Text") ds)
  pub leads : (i : ℕ) (d : SyntaxDefinition) → whole i ≡ true → slice_get ds i ≡ Some d
      → Each (λ (entry : List ℕ × Context). ContextLeads whole ds entry.1) d.contexts

each_flat : {A B : Type 0} (P : B → Type 0) (f : A → List B) (xs : List A) → Each P (flat_map f xs) → Each (λ x. Each P (f x)) xs
each_flat P f [] e = tt
each_flat P f (x ∷ xs) e = let k : Each P (f x) × Each P (flat_map f xs) = each_left P (f x) (flat_map f xs) e in (k.0, each_flat P f xs k.1)

is_whole : (whole : Whole) (o : Option ℕ) → AreWhole whole (option_to_list o) → IsWhole whole o
is_whole whole None e = tt
is_whole whole (Some i) e = e.0

module _ (whole : Whole) (ds : List SyntaxDefinition) where
  abbrev cs : List SyntaxDefinition
  cs = shelved whole 0 ds

  name_place : (name : List ℕ) → last_of_name name cs ≡ last_of_name name ds
  name_place name = last_shelved whole (λ (d : SyntaxDefinition). pointwise ◌==◌ d.name name) (λ d. refl) 0 ds

  scope_place : (scope : List ℕ) → last_of_scope scope cs ≡ last_of_scope scope ds
  scope_place scope = last_shelved whole (λ (d : SyntaxDefinition). pointwise ◌==◌ d.scope scope) (λ d. refl) 0 ds

  reference_leads : (r : ContextReference) → IsWhole whole (place_of cs r) → LeadsToWhole whole ds r
  reference_leads (ref.Named name) h = tt
  reference_leads (ref.Inline name) h = tt
  reference_leads (ref.ByScope scope sub escape) h = rw (scope_place scope) at h
  reference_leads (ref.File name sub escape) h = rw (name_place name) at h
  reference_leads (ref.Direct id) h = h

  reference_more : (r : ContextReference) (rest : List ContextReference) → (AreWhole whole (places_by cs rest) → Each (LeadsToWhole whole ds) rest) → (o : Option ℕ) → place_of cs r ≡ o → AreWhole whole (cons_option o (places_by cs rest)) → Each (LeadsToWhole whole ds) (r ∷ rest)
  reference_more r rest f None k e = (reference_leads r (rw k tt), f e)
  reference_more r rest f (Some i) k e = (reference_leads r (rw k e.0), f e.1)

  references_lead : (refs : List ContextReference) → AreWhole whole (places_by cs refs) → Each (LeadsToWhole whole ds) refs
  references_lead [] e = tt
  references_lead (r ∷ rest) e = reference_more r rest (references_lead rest) (place_of cs r) refl e

  context_leads : (c : Context) → AreWhole whole (places_of_context cs c) → ContextLeads whole ds c
  context_leads c e =
      let k : AreWhole whole (flat_map (places_of_entry cs) c.patterns) × AreWhole whole (option_to_list (option_map (λ (id : ContextId). id.syntax_index) c.prototype))
      = each_left (λ (i : ℕ). whole i ≡ true) (flat_map (places_of_entry cs) c.patterns) (option_to_list (option_map (λ (id : ContextId). id.syntax_index) c.prototype)) e in
      record {
        entries = each_of (λ (p : Pattern). AreWhole whole (places_of_entry cs p)) (λ (p : Pattern). Each (LeadsToWhole whole ds) (references_of p)) c.patterns (λ p h. references_lead (references_of p) h) (each_flat (λ (i : ℕ). whole i ≡ true) (places_of_entry cs) c.patterns k.0);
        prototype = is_whole whole (option_map (λ (id : ContextId). id.syntax_index) c.prototype) k.1;
      }

  closed_by : IsClosedShelf whole cs → ClosedBy whole ds
  closed_by s = record {
    plain = rw (← name_place (codes "Plain Text")) (is_whole whole (last_of_name (codes "Plain Text") cs) s.plain);
    leads = λ i d w e.
        each_of (λ (entry : List ℕ × Context). AreWhole whole (places_of_context cs entry.1)) (λ (entry : List ℕ × Context). ContextLeads whole ds entry.1) d.contexts (λ entry h. context_leads entry.1 h)
        (each_flat (λ (i : ℕ). whole i ≡ true) (λ (entry : List ℕ × Context). places_of_context cs entry.1) d.contexts (s.leads i d w (whole_place whole ds i w ∙ e)));
  }

module _ (prototypes : PrototypesReach) (marks : MarksReach) (whole : Whole) (ds : List SyntaxDefinition) (closed : ClosedBy whole ds) where
  abbrev es : List SyntaxDefinition
  es = shelved whole 0 ds

  abbrev all_heads : List SyntaxReference
  all_heads = heads_from 0 ds

  abbrev some_heads : List SyntaxReference
  some_heads = heads_from 0 es

  abbrev all_bodies : List (List Context)
  all_bodies = map body_of ds

  abbrev some_bodies : List (List Context)
  some_bodies = map body_of es

  abbrev In : ContextId → Type 0
  In id = whole id.syntax_index ≡ true

  whole_at : (i : ℕ) → whole i ≡ true → slice_get es i ≡ slice_get ds i
  whole_at i w =
      let z : 0 + i ≡ i = omega arith in
      let h : slice_get es i ≡ option_map (shelved_at whole (0 + i)) (slice_get ds i) = place_shelved whole 0 ds i in
      let g : slice_get es i ≡ option_map (shelved_at whole i) (slice_get ds i) = rw z at h in
      g ∙ map_whole whole i (slice_get ds i) w

  heads_at : (i : ℕ) → whole i ≡ true → slice_get some_heads i ≡ slice_get all_heads i
  heads_at i w = head_at 0 es i ∙ ap (λ (o : Option SyntaxDefinition). option_map (head_of (0 + i)) o) (whole_at i w) ∙ sym (head_at 0 ds i)

  bodies_at : (i : ℕ) → whole i ≡ true → slice_get some_bodies i ≡ slice_get all_bodies i
  bodies_at i w = slice_get-map body_of es i ∙ ap (λ (o : Option SyntaxDefinition). option_map body_of o) (whole_at i w) ∙ sym (slice_get-map body_of ds i)

  names_same : (i : ℕ) → whole i ≡ true → names_at some_heads i ≡ names_at all_heads i
  names_same i w = ap (λ (o : Option SyntaxReference). option_map_or (λ s. s.names) o []) (heads_at i w)

  by_scope_same : (scope : List ℕ) → last_that (has_scope scope) some_heads ≡ last_that (has_scope scope) all_heads
  by_scope_same scope =
      last_heads (has_scope scope) (λ (d : SyntaxDefinition). pointwise ◌==◌ d.scope scope) (λ i d. refl) 0 es
      ∙ last_shelved whole (λ (d : SyntaxDefinition). pointwise ◌==◌ d.scope scope) (λ d. refl) 0 ds
      ∙ sym (last_heads (has_scope scope) (λ (d : SyntaxDefinition). pointwise ◌==◌ d.scope scope) (λ i d. refl) 0 ds)

  by_name_same : (name : List ℕ) → last_that (has_name name) some_heads ≡ last_that (has_name name) all_heads
  by_name_same name =
      last_heads (has_name name) (λ (d : SyntaxDefinition). pointwise ◌==◌ d.name name) (λ i d. refl) 0 es
      ∙ last_shelved whole (λ (d : SyntaxDefinition). pointwise ◌==◌ d.name name) (λ d. refl) 0 ds
      ∙ sym (last_heads (has_name name) (λ (d : SyntaxDefinition). pointwise ◌==◌ d.name name) (λ i d. refl) 0 ds)

  scope_whole : (scope : List ℕ) → IsWhole whole (last_of_scope scope ds) → IsWhole whole (last_that (has_scope scope) all_heads)
  scope_whole scope h = rw (last_heads (has_scope scope) (λ (d : SyntaxDefinition). pointwise ◌==◌ d.scope scope) (λ i d. refl) 0 ds) h

  name_whole : (name : List ℕ) → IsWhole whole (last_of_name name ds) → IsWhole whole (last_that (has_name name) all_heads)
  name_whole name h = rw (last_heads (has_name name) (λ (d : SyntaxDefinition). pointwise ◌==◌ d.name name) (λ i d. refl) 0 ds) h

  -- ---- where references lead ----

  abbrev InOption : Option ContextId → Type 0
  InOption o = Each In (option_to_list o)

  named_whole : (i : ℕ) (names : List (List ℕ)) (name : List ℕ) → whole i ≡ true → InOption (named_in i names name)
  named_whole i names name w = by (position (pointwise ◌==◌ name) names)
    where
      by : (o : Option ℕ) → InOption (option_map (λ k. record { syntax_index = i; context_index = k }) o)
      by None = tt
      by (Some k) = (w, tt)

  abbrev Same : Option ContextId → Option ContextId → Type 0
  Same x y = (x ≡ y) × InOption y

  context_same : (i : ℕ) (name : List ℕ) → whole i ≡ true → Same (context_named some_heads i name) (context_named all_heads i name)
  context_same i name w = (ap (λ (o : Option SyntaxReference). option_and_then (λ s. named_in i s.names name) o) (heads_at i w), by (slice_get all_heads i))
    where
      by : (o : Option SyntaxReference) → InOption (option_and_then (λ s. named_in i s.names name) o)
      by None = tt
      by (Some s) = named_whole i s.names name w

  found_same : (name : List ℕ) (x y : Option ℕ) → x ≡ y → IsWhole whole y
      → Same (option_and_then (λ index. context_named some_heads index name) x) (option_and_then (λ index. context_named all_heads index name) y)
  found_same name x None e h = (ap (λ (o : Option ℕ). option_and_then (λ index. context_named some_heads index name) o) e, tt)
  found_same name x (Some i) e h =
      let k : Same (context_named some_heads i name) (context_named all_heads i name) = context_same i name h in
      (ap (λ (o : Option ℕ). option_and_then (λ index. context_named some_heads index name) o) e ∙ k.0, k.1)

  plain_same : Same (plain_text_in some_heads) (plain_text_in all_heads)
  plain_same = found_same (codes "main") (last_that (has_name (codes "Plain Text")) some_heads) (last_that (has_name (codes "Plain Text")) all_heads) (by_name_same (codes "Plain Text")) (name_whole (codes "Plain Text") closed.plain)

  or_plain_same : (escape : Bool) (x y : Option ContextId) → Same x y → Same (or_plain_text some_heads escape x) (or_plain_text all_heads escape y)
  or_plain_same escape x (Some id) s = (ap (λ (o : Option ContextId). or_plain_text some_heads escape o) s.0, s.1)
  or_plain_same true x None s = (ap (λ (o : Option ContextId). or_plain_text some_heads true o) s.0 ∙ plain_same.0, plain_same.1)
  or_plain_same false x None s = (ap (λ (o : Option ContextId). or_plain_text some_heads false o) s.0, tt)

  link_same : (i : ℕ) (r : ContextReference) → whole i ≡ true → LeadsToWhole whole ds r → Same (link_of some_heads i r) (link_of all_heads i r)
  link_same i (ref.Named name) w h = context_same i (meant name) w
  link_same i (ref.Inline name) w h = context_same i (meant name) w
  link_same i (ref.ByScope scope sub escape) w h =
      or_plain_same escape (context_by (has_scope scope) some_heads sub) (context_by (has_scope scope) all_heads sub)
      (found_same (unwrap_or sub (codes "main")) (last_that (has_scope scope) some_heads) (last_that (has_scope scope) all_heads) (by_scope_same scope) (scope_whole scope h))
  link_same i (ref.File name sub escape) w h =
      or_plain_same escape (context_by (has_name name) some_heads sub) (context_by (has_name name) all_heads sub)
      (found_same (unwrap_or sub (codes "main")) (last_that (has_name name) some_heads) (last_that (has_name name) all_heads) (by_name_same name) (name_whole name h))
  link_same i (ref.Direct id) w h = (refl, (h, tt))

  reference_same : (i : ℕ) (r : ContextReference) → whole i ≡ true → LeadsToWhole whole ds r → linked_reference some_heads i r ≡ linked_reference all_heads i r
  reference_same i r w h = ap (λ (o : Option ContextId). unwrap_or (option_map ref.Direct o) r) (link_same i r w h).0

  -- what a linked reference stands for
  target_in : (i : ℕ) (r : ContextReference) → whole i ≡ true → LeadsToWhole whole ds r → InOption (target (linked_reference all_heads i r))
  target_in i r w h = by (link_of all_heads i r) refl (link_same i r w h).1
    where
      unlinked : (q : ContextReference) → link_of all_heads i q ≡ None → target q ≡ None
      unlinked (ref.Named name) e = refl
      unlinked (ref.Inline name) e = refl
      unlinked (ref.ByScope x y z) e = refl
      unlinked (ref.File x y z) e = refl
      unlinked (ref.Direct id) e = cc

      by : (o : Option ContextId) → link_of all_heads i r ≡ o → InOption o → InOption (target (unwrap_or (option_map ref.Direct o) r))
      by None e k = rw (unlinked r e) tt
      by (Some id) e k = k

  -- ---- contexts as they are given ----

  abbrev Leads : Pattern → Type 0
  Leads p = Each (LeadsToWhole whole ds) (references_of p)

  given_same : (id : ContextId) → In id → given_at some_bodies id ≡ given_at all_bodies id
  given_same id w = ap (λ (o : Option (List Context)). option_and_then (λ cs. slice_get cs id.context_index) o) (bodies_at id.syntax_index w)

  entry_leads : (entries : List (List ℕ × Context)) (k : ℕ) → Each (λ (entry : List ℕ × Context). ContextLeads whole ds entry.1) entries
      → (o : Option Context) → slice_get (map (λ (entry : List ℕ × Context). entry.1) entries) k ≡ o → Each Leads (option_map_or (λ (c : Context). c.patterns) o [])
  entry_leads entries k e None f = tt
  entry_leads [] k e (Some c) f = cc
  entry_leads (x ∷ entries) zero e (Some c) f = let i : x.1 ≡ c = cc in rw (← i) e.0.entries
  entry_leads (x ∷ entries) (suc k) e (Some c) f = entry_leads entries k e.1 (Some c) f

  given_leads : (id : ContextId) → In id → Each Leads (entries_given all_bodies id)
  given_leads id w = rw (slice_get-map body_of ds id.syntax_index) (by (slice_get ds id.syntax_index) refl)
    where
      by : (o : Option SyntaxDefinition) → slice_get ds id.syntax_index ≡ o
          → Each Leads (option_map_or (λ (c : Context). c.patterns) (option_and_then (λ (cs : List Context). slice_get cs id.context_index) (option_map body_of o)) [])
      by None e = tt
      by (Some d) e = entry_leads d.contexts id.context_index (closed.leads id.syntax_index d w e) (slice_get (body_of d) id.context_index) refl

  entries_same : (id : ContextId) → In id → entries_given some_bodies id ≡ entries_given all_bodies id
  entries_same id w = ap (λ (o : Option Context). option_map_or (λ (c : Context). c.patterns) o []) (given_same id w)

  -- ---- marks ----

  included_same : (i : ℕ) (p : Pattern) → whole i ≡ true → Leads p → (included_by some_heads i p ≡ included_by all_heads i p) × Each In (included_by all_heads i p)
  included_same i (Match m) w h = (refl, tt)
  included_same i (Include r) w h = let k : Same (link_of some_heads i r) (link_of all_heads i r) = link_same i r w h.0 in (ap (λ (o : Option ContextId). option_to_list o) k.0, k.1)

  includes_same : (id : ContextId) → In id → (includes_of some_heads some_bodies id ≡ includes_of all_heads all_bodies id) × Each In (includes_of all_heads all_bodies id)
  includes_same id w = (
    ap (λ (ps : List Pattern). flat_map (included_by some_heads id.syntax_index) ps) (entries_same id w)
        ∙ flat_map_same Leads (included_by some_heads id.syntax_index) (included_by all_heads id.syntax_index) (entries_given all_bodies id) (given_leads id w) (λ p h. (included_same id.syntax_index p w h).0),
    each-flat_map In (included_by all_heads id.syntax_index) (entries_given all_bodies id)
        (each_of Leads (λ (p : Pattern). Each In (included_by all_heads id.syntax_index p)) (entries_given all_bodies id) (λ p h. (included_same id.syntax_index p w h).1) (given_leads id w)),
  )

  mark_same : (id : ContextId) → In id → is_marked some_bodies id ≡ is_marked all_bodies id
  mark_same id w = ap (λ (o : Option Context). option_map_or (λ (c : Context). c.uses_backrefs) o false) (given_same id w)

  marked_same : (id : ContextId) → In id → is_marked_in_set some_heads some_bodies id ≡ is_marked_in_set all_heads all_bodies id
  marked_same id w =
      bool_same (is_marked_in_set some_heads some_bodies id) (is_marked_in_set all_heads all_bodies id)
      (λ t. (marks all_heads all_bodies id).1
      (path_same In (includes_of some_heads some_bodies) (includes_of all_heads all_bodies) (is_marked some_bodies) (is_marked all_bodies) (paths_back In (includes_of all_heads all_bodies) (includes_of some_heads some_bodies) includes_same) (λ x i. sym (mark_same x i)) id w ((marks some_heads some_bodies id).0 t)))
      (λ t. (marks some_heads some_bodies id).1
      (path_same In (includes_of all_heads all_bodies) (includes_of some_heads some_bodies) (is_marked all_bodies) (is_marked some_bodies) includes_same mark_same id w ((marks all_heads all_bodies id).0 t)))

  -- ---- prototypes ----

  abbrev Step : (ℕ → List (List ℕ) → ContextReference → Option ContextId) → Type 0
  Step f = (home : ℕ) (names : List (List ℕ)) (r : ContextReference) → whole home ≡ true → LeadsToWhole whole ds r → InOption (f home names r)

  include_in : Step include_step
  include_in home names (ref.Named name) w h = named_whole home names name w
  include_in home names (ref.Inline name) w h = tt
  include_in home names (ref.ByScope x y z) w h = tt
  include_in home names (ref.File x y z) w h = tt
  include_in home names (ref.Direct id) w h = (h, tt)

  open_in : Step open_step
  open_in home names (ref.Named name) w h = named_whole home names name w
  open_in home names (ref.Inline name) w h = named_whole home names name w
  open_in home names (ref.ByScope x y z) w h = tt
  open_in home names (ref.File x y z) w h = tt
  open_in home names (ref.Direct id) w h = (h, tt)

  cons_in : (o : Option ContextId) (ids : List ContextId) → InOption o → Each In ids → Each In (cons_option o ids)
  cons_in None ids h e = e
  cons_in (Some id) ids h e = (h.0, e)

  opened_in : (home : ℕ) (names : List (List ℕ)) (refs : List ContextReference) → whole home ≡ true → Each (LeadsToWhole whole ds) refs → Each In (filter_map (open_step home names) refs)
  opened_in home names [] w e = tt
  opened_in home names (r ∷ refs) w e = cons_in (open_step home names r) (filter_map (open_step home names) refs) (open_in home names r w e.0) (opened_in home names refs w e.1)

  steps_in : (home : ℕ) (names : List (List ℕ)) (p : Pattern) → whole home ≡ true → Leads p → Each In (entry_steps home names p)
  steps_in home names (Include r) w h = include_in home names r w h.0
  steps_in home names (Match m) w h =
      opened_in home names (option_map_or (λ (refs : List ContextReference). refs) (list_of m.operation) []) w (each_left (LeadsToWhole whole ds) (option_map_or (λ (refs : List ContextReference). refs) (list_of m.operation) []) (option_to_list m.with_prototype) h).0

  prototype_same : (home : ℕ) (names : List (List ℕ)) → whole home ≡ true → (id : ContextId) → In id
      → (prototype_steps some_bodies home names id ≡ prototype_steps all_bodies home names id) × Each In (prototype_steps all_bodies home names id)
  prototype_same home names v id w = (
    ap (λ (ps : List Pattern). flat_map (entry_steps home names) ps) (entries_same id w),
    each-flat_map In (entry_steps home names) (entries_given all_bodies id) (each_of Leads (λ (p : Pattern). Each In (entry_steps home names p)) (entries_given all_bodies id) (λ p h. steps_in home names p v h) (given_leads id w)),
  )

  abbrev StepsOf : List (List Context) → List SyntaxReference → ContextId → ContextId → List ContextId
  StepsOf bodies heads id = prototype_steps bodies id.syntax_index (names_at heads id.syntax_index)

  of_prototype : (id : ContextId) → In id → (x : ContextId) → In x → (StepsOf some_bodies some_heads id x ≡ StepsOf all_bodies all_heads id x) × Each In (StepsOf all_bodies all_heads id x)
  of_prototype id w x i =
      let k : (prototype_steps some_bodies id.syntax_index (names_at all_heads id.syntax_index) x ≡ prototype_steps all_bodies id.syntax_index (names_at all_heads id.syntax_index) x) × Each In (prototype_steps all_bodies id.syntax_index (names_at all_heads id.syntax_index) x)
      = prototype_same id.syntax_index (names_at all_heads id.syntax_index) w x i in
      (ap (λ (names : List (List ℕ)). prototype_steps some_bodies id.syntax_index names x) (names_same id.syntax_index w) ∙ k.0, k.1)

  reached_same : (prototype id : ContextId) → In prototype → In id → is_reached some_heads some_bodies prototype id ≡ is_reached all_heads all_bodies prototype id
  reached_same prototype id p w =
      bool_same (is_reached some_heads some_bodies prototype id) (is_reached all_heads all_bodies prototype id)
      (λ t. (prototypes all_heads all_bodies prototype id).1
      (path_same In (StepsOf some_bodies some_heads id) (StepsOf all_bodies all_heads id) (is_same id) (is_same id) (paths_back In (StepsOf all_bodies all_heads id) (StepsOf some_bodies some_heads id) (of_prototype id w)) (λ x i. refl) prototype p ((prototypes some_heads some_bodies prototype id).0 t)))
      (λ t. (prototypes some_heads some_bodies prototype id).1
      (path_same In (StepsOf all_bodies all_heads id) (StepsOf some_bodies some_heads id) (is_same id) (is_same id) (of_prototype id w) (λ x i. refl) prototype p ((prototypes all_heads all_bodies prototype id).0 t)))

  unless_same : (id : ContextId) → In id → (x y : Option ContextId) → Same x y → Same (unless_reached some_heads some_bodies id x) (unless_reached all_heads all_bodies id y)
  unless_same id w x None s = (ap (λ (o : Option ContextId). unless_reached some_heads some_bodies id o) s.0, tt)
  unless_same id w x (Some p) s = (
    ap (λ (o : Option ContextId). unless_reached some_heads some_bodies id o) s.0 ∙ ap (λ (b : Bool). if b then None else Some p) (reached_same p id s.1.0 w),
    by (is_reached all_heads all_bodies p id),
  )
    where
      by : (b : Bool) → InOption (if b then None else Some p)
      by true = tt
      by false = s.1

  prototype_for_same : (id : ContextId) (c : Context) → In id → IsWhole whole (option_map (λ (id : ContextId). id.syntax_index) c.prototype)
      → Same (prototype_for some_heads some_bodies id c) (prototype_for all_heads all_bodies id c)
  prototype_for_same id c w h = by c.prototype h c.meta_include_prototype
    where
      named : Same (unless_reached some_heads some_bodies id (context_named some_heads id.syntax_index (codes "prototype"))) (unless_reached all_heads all_bodies id (context_named all_heads id.syntax_index (codes "prototype")))
      named = unless_same id w (context_named some_heads id.syntax_index (codes "prototype")) (context_named all_heads id.syntax_index (codes "prototype")) (context_same id.syntax_index (codes "prototype") w)

      by : (o : Option ContextId) → IsWhole whole (option_map (λ (id : ContextId). id.syntax_index) o) → (b : Bool)
          → Same (option_or o (if b then unless_reached some_heads some_bodies id (context_named some_heads id.syntax_index (codes "prototype")) else None))
          (option_or o (if b then unless_reached all_heads all_bodies id (context_named all_heads id.syntax_index (codes "prototype")) else None))
      by (Some p) k b = (refl, (k, tt))
      by None k true = named
      by None k false = (refl, tt)

  -- ---- linked contexts ----

  references_same : (i : ℕ) (refs : List ContextReference) → whole i ≡ true → Each (LeadsToWhole whole ds) refs → map (linked_reference some_heads i) refs ≡ map (linked_reference all_heads i) refs
  references_same i refs w e = map_same (LeadsToWhole whole ds) (linked_reference some_heads i) (linked_reference all_heads i) refs e (λ r h. reference_same i r w h)

  operation_same : (i : ℕ) (o : MatchOperation) → whole i ≡ true → Each (LeadsToWhole whole ds) (option_map_or (λ (refs : List ContextReference). refs) (list_of o) []) → linked_operation some_heads i o ≡ linked_operation all_heads i o
  operation_same i (op.Push refs) w e = ap (λ (rs : List ContextReference). op.Push rs) (references_same i refs w e)
  operation_same i (op.Set refs) w e = ap (λ (rs : List ContextReference). op.Set rs) (references_same i refs w e)
  operation_same i op.Pop w e = refl
  operation_same i op.None w e = refl

  with_same : (i : ℕ) (o : Option ContextReference) → whole i ≡ true → Each (LeadsToWhole whole ds) (option_to_list o) → option_map (linked_reference some_heads i) o ≡ option_map (linked_reference all_heads i) o
  with_same i None w e = refl
  with_same i (Some r) w e = ap (λ (q : ContextReference). Some q) (reference_same i r w e.0)

  pattern_same : (i : ℕ) (p : Pattern) → whole i ≡ true → Leads p → linked_pattern some_heads i p ≡ linked_pattern all_heads i p
  pattern_same i (Match m) w h =
      let k : Each (LeadsToWhole whole ds) (option_map_or (λ (refs : List ContextReference). refs) (list_of m.operation) []) × Each (LeadsToWhole whole ds) (option_to_list m.with_prototype)
      = each_left (LeadsToWhole whole ds) (option_map_or (λ (refs : List ContextReference). refs) (list_of m.operation) []) (option_to_list m.with_prototype) h in
      ap (λ (o : MatchOperation). Match (record m { operation = o; with_prototype = option_map (linked_reference some_heads i) m.with_prototype })) (operation_same i m.operation w k.0)
      ∙ ap (λ (o : Option ContextReference). Match (record m { operation = linked_operation all_heads i m.operation; with_prototype = o })) (with_same i m.with_prototype w k.1)
  pattern_same i (Include r) w h = ap (λ (q : ContextReference). Include q) (reference_same i r w h.0)

  linked_same : (id : ContextId) (c : Context) → In id → ContextLeads whole ds c → linked_context some_heads some_bodies id c ≡ linked_context all_heads all_bodies id c
  linked_same id c w h =
      ap (λ (o : Option ContextId). context_with some_heads id.syntax_index o (is_marked_in_set some_heads some_bodies id) c) (prototype_for_same id c w h.prototype).0
      ∙ ap (λ (b : Bool). context_with some_heads id.syntax_index (prototype_for all_heads all_bodies id c) b c) (marked_same id w)
      ∙ ap (λ (ps : List Pattern). record c { prototype = prototype_for all_heads all_bodies id c; uses_backrefs = is_marked_in_set all_heads all_bodies id; patterns = ps })
      (map_same Leads (linked_pattern some_heads id.syntax_index) (linked_pattern all_heads id.syntax_index) c.patterns h.entries (λ p k. pattern_same id.syntax_index p w k))

  -- ---- they stay in the part ----

  targets_in : (i : ℕ) (refs : List ContextReference) → whole i ≡ true → Each (LeadsToWhole whole ds) refs → Each In (filter_map target (map (linked_reference all_heads i) refs))
  targets_in i [] w e = tt
  targets_in i (r ∷ refs) w e =
      cons_in (target (linked_reference all_heads i r)) (filter_map target (map (linked_reference all_heads i) refs)) (target_in i r w e.0) (targets_in i refs w e.1)

  together : (i : ℕ) (refs : List ContextReference) (w : Option ContextReference)
      → map (linked_reference all_heads i) refs ++ option_to_list (option_map (linked_reference all_heads i) w) ≡ map (linked_reference all_heads i) (refs ++ option_to_list w)
  together i [] None = refl
  together i [] (Some r) = refl
  together i (r ∷ refs) w = ap (λ (rs : List ContextReference). linked_reference all_heads i r ∷ rs) (together i refs w)

  match_in : (i : ℕ) (o : MatchOperation) (v : Option ContextReference) → whole i ≡ true → Each (LeadsToWhole whole ds) (option_map_or (λ (refs : List ContextReference). refs) (list_of o) [] ++ option_to_list v)
      → Each In (filter_map target (option_map_or (λ (refs : List ContextReference). refs ++ option_to_list (option_map (linked_reference all_heads i) v)) (list_of (linked_operation all_heads i o)) []))
  match_in i (op.Push refs) v w e = rw (together i refs v) (targets_in i (refs ++ option_to_list v) w e)
  match_in i (op.Set refs) v w e = rw (together i refs v) (targets_in i (refs ++ option_to_list v) w e)
  match_in i op.Pop v w e = tt
  match_in i op.None v w e = tt

  patterns_in : (i : ℕ) (ps : List Pattern) → whole i ≡ true → Each Leads ps → Each (λ p. AreIn (whole_part whole) (leads_of p)) (map (linked_pattern all_heads i) ps)
  patterns_in i [] w e = tt
  patterns_in i (Match m ∷ ps) w e = (match_in i m.operation m.with_prototype w e.0, patterns_in i ps w e.1)
  patterns_in i (Include r ∷ ps) w e = (target_in i r w e.0.0, patterns_in i ps w e.1)

  linked_in : (id : ContextId) (c : Context) → In id → ContextLeads whole ds c → StaysIn (whole_part whole) (linked_context all_heads all_bodies id c)
  linked_in id c w h = record {
    entries = patterns_in id.syntax_index c.patterns w h.entries;
    prototype = (prototype_for_same id c w h.prototype).1;
  }

  -- ---- the sets ----

  module _ (all some : SyntaxSet) (built : syntaxes_in all ≡ linked ds) (shelf : syntaxes_in some ≡ linked es) where
    pub closed_part : IsClosedPart all (whole_part whole)
    closed_part id c w e =
        let o : IsOf all ds built id c = is_of all ds built id c (slice_get ds id.syntax_index) refl e in
        let h : ContextLeads whole ds o.entry.1 = each_at (λ (entry : List ℕ × Context). ContextLeads whole ds entry.1) o.definition.contexts id.context_index o.entry (closed.leads id.syntax_index o.definition w o.at) o.among in
        rw (← o.is) (linked_in id o.entry.1 w h)

    entry_same : (id : ContextId) → In id → (entries : List (List ℕ × Context)) (k : ℕ) → Each (λ (entry : List ℕ × Context). ContextLeads whole ds entry.1) entries
        → option_map (λ (entry : List ℕ × Context). linked_context some_heads some_bodies id entry.1) (slice_get entries k) ≡ option_map (λ (entry : List ℕ × Context). linked_context all_heads all_bodies id entry.1) (slice_get entries k)
    entry_same id w [] k e = refl
    entry_same id w (x ∷ entries) zero e = ap (λ (c : Context). Some c) (linked_same id x.1 w e.0)
    entry_same id w (x ∷ entries) (suc k) e = entry_same id w entries k e.1

    pub agree : AgreeOn (whole_part whole) all some
    agree id w = by (slice_get ds id.syntax_index) refl
      where
        by : (o : Option SyntaxDefinition) → slice_get ds id.syntax_index ≡ o → context_at some id ≡ context_at all id
        by None e =
            let f : slice_get es id.syntax_index ≡ None = whole_at id.syntax_index w ∙ e in
            ap (option_and_then (λ (cs : List Context). slice_get cs id.context_index)) (contexts_at some es shelf id.syntax_index ∙ ap (option_map _) f)
            ∙ sym (ap (option_and_then (λ (cs : List Context). slice_get cs id.context_index)) (contexts_at all ds built id.syntax_index ∙ ap (option_map _) e))
        by (Some d) e =
            let f : slice_get es id.syntax_index ≡ Some d = whole_at id.syntax_index w ∙ e in
            there some es shelf id.syntax_index id.context_index d f
            ∙ entry_same id w d.contexts id.context_index (closed.leads id.syntax_index d w e)
            ∙ sym (there all ds built id.syntax_index id.context_index d e)

pub shelved_agree : ShelvedAgree
shelved_agree whole ds all some s = (closed_part prototypes_reach marks_reach whole ds (closed_by whole ds s.closed) all some s.all_linked s.some_linked, agree prototypes_reach marks_reach whole ds (closed_by whole ds s.closed) all some s.all_linked s.some_linked)

-- ---- where reading begins ----

-- the state that reading begins with, by a head
start_at : (heads : List SyntaxReference) (bodies : List (List Context)) (ds : List SyntaxDefinition) (i : ℕ)
    → option_and_then start_of (slice_get (linked_from heads bodies 0 ds) i) ≡ option_and_then (λ (d : SyntaxDefinition). start_of (head_of i d)) (slice_get ds i)
start_at heads bodies ds i =
    let z : 0 + i ≡ i = omega arith in
    let h : slice_get (linked_from heads bodies 0 ds) i ≡ option_map (linked_definition heads bodies (0 + i)) (slice_get ds i) = linked_at heads bodies 0 ds i in
    let g : slice_get (linked_from heads bodies 0 ds) i ≡ option_map (linked_definition heads bodies i) (slice_get ds i) = rw z at h in
    ap (option_and_then start_of) g ∙ by (slice_get ds i)
  where
    by : (o : Option SyntaxDefinition) → option_and_then start_of (option_map (linked_definition heads bodies i) o) ≡ option_and_then (λ (d : SyntaxDefinition). start_of (head_of i d)) o
    by None = refl
    by (Some d) = refl

start_in : (whole : Whole) (i : ℕ) (o : Option SyntaxDefinition) (state : Standing) → whole i ≡ true → option_and_then (λ (d : SyntaxDefinition). start_of (head_of i d)) o ≡ Some state → StandsIn (whole_part whole) state
start_in whole i None state w e = cc
start_in whole i (Some d) state w e = by (position (pointwise ◌==◌ (codes "__start")) (head_of i d).names) e
  where
    by : (o : Option ℕ) → option_map start (option_map (λ k. record { syntax_index = i; context_index = k }) o) ≡ Some state → StandsIn (whole_part whole) state
    by None f = cc
    by (Some k) f = let g : start (record { syntax_index = i; context_index = k }) ≡ state = cc in rw (← g) ((w, tt), tt)

pub shelved_read_alike : ShelvedReadAlike
shelved_read_alike engine whole ds all some i state s w =
    let a : option_and_then start_of (slice_get (syntaxes_in all) i) ≡ option_and_then (λ (d : SyntaxDefinition). start_of (head_of i d)) (slice_get ds i)
    = ap (λ (l : List SyntaxReference). option_and_then start_of (slice_get l i)) s.all_linked ∙ start_at (heads_from 0 ds) (map body_of ds) ds i in
    let b : option_and_then start_of (slice_get (syntaxes_in some) i) ≡ option_and_then (λ (d : SyntaxDefinition). start_of (head_of i d)) (slice_get ds i)
    = ap (λ (l : List SyntaxReference). option_and_then start_of (slice_get l i)) s.some_linked ∙ start_at (heads_from 0 (shelved whole 0 ds)) (map body_of (shelved whole 0 ds)) (shelved whole 0 ds) i
    ∙ ap (λ (o : Option SyntaxDefinition). option_and_then (λ (d : SyntaxDefinition). start_of (head_of i d)) o) (whole_at prototypes_reach marks_reach whole ds (closed_by whole ds s.closed) i w) in
    let k : IsClosedPart all (whole_part whole) × AgreeOn (whole_part whole) all some = shelved_agree whole ds all some s in
    (b ∙ sym a, λ e lines answers after. (closed_read_alike engine (whole_part whole) all some lines state after answers k.0 k.1 (start_in whole i (slice_get ds i) state w (sym b ∙ e))).1)
