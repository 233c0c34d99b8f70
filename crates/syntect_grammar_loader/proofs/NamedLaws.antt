-- What the loader reads refers to contexts by their names, never by numbers.
use Rattle.std.proofs.Common.{◌≡◌, ℕ, zero, suc, Bool, true, false, List, [], ◌∷◌, ◌++◌, refl, Option, Some, None, Result, Ok, Err, cond, if◌then◌else◌}
use Rattle.std.proofs.Common.{Ordering, Less, Equal, Greater}
use Rattle.std.specs.Prelude.{IfSome, unwrap_or, not, codes, is_some, ◌&&◌}
use Rattle.std.specs.Option.{option_to_list, option_map_or}
use Rattle.std.specs.List.{list_any}
use Rattle.std.specs.Ordering.{match_ordering, nat_cmp}
use Rattle.std.specs.Cmp.Lexicographic.{slice_cmp}
use Rattle.std.specs.BTreeMap.{is_at}
use Rattle.std.specs.Map.{lookup, remove_entry}
use Rattle.std.specs.Str.{bytes_eq}
use Rattle.syntect_grammar_loader.specs.syntect_scope.Words.{words}
use Rattle.syntect_grammar_loader.specs.syntect_scope.Repository.{with_atoms, with_scopes, atom_texts, first_refusal}
use Rattle.syntect_grammar_loader.specs.syntect_scope.declared.repository.ParseScopeError.{ParseScopeError}
use Rattle.syntect_grammar_rewrite.specs.Testing.{tested_text, refers_back}
use Rattle.syntect_yaml.specs.Node.{Node, get, text_of}
use Rattle.syntect_yaml.specs.Yaml.{yaml_of, deepest}
use Rattle.syntect_yaml.specs.declared.value.Scalar.{Scalar}
use Rattle.syntect_grammar_loader.specs.LoadingSteps.{Refusal, wrong_kind, missing, Step, give, refuse, on, ◌>>=◌, known, found_in, finding, perhaps, each}
use Rattle.syntect_grammar_loader.specs.LoadingParts.{scopes, scopes_unless, scope, scope_unless, captures, capture, capture_group, add_capture, text_reference, reference_unless}
use Rattle.syntect_grammar_loader.specs.LoadingValues.{text_in, list_in, map_in, at, is_several, is_none, is_file, file_name, head, sub_context, scope_text, escape_items, ahead_items}
use Rattle.syntect_grammar_loader.specs.LoadingContexts as loading
use Rattle.syntect_grammar_loader.specs.LoadingContexts.{context, named_context, new_context, with_match, with_include, put}
use Rattle.syntect_grammar_loader.specs.Loading.{loaded, definition_in, finish, finished_with, leaving, read_contexts, nothing_read, variables_at, around_main, start_context, outer_context, main_context, start_name, outer_name, main_name, top_context, top_entry, top_contexts, enter, contexts_at, scope_text_at, prototype_name}
use Rattle.syntect_grammar_contexts.specs.Contexts.{Scopes}
use Rattle.syntect_grammar_contexts.specs.Contexts.{named, list_of}
use Rattle.syntect_grammar_loader.specs.Named.{is_direct, NamesNoNumber, KnowNoNumber, LoadedByName}
use Rattle.syntect_grammar_loader.specs.declared.yaml_load_state.Reading.{Reading}
use Rattle.syntect_grammar_contexts.specs.declared.context.ContextReference.{ContextReference}
use Rattle.syntect_grammar_contexts.specs.declared.context.ContextReference.TheVariants.{Named, Inline, ByScope, File}
use Rattle.syntect_grammar_contexts.specs.declared.context.MatchOperation.{MatchOperation}
use Rattle.syntect_grammar_contexts.specs.declared.context.MatchOperation.TheVariants as op
use Rattle.syntect_grammar_contexts.specs.declared.context.MatchPattern.{MatchPattern}
use Rattle.syntect_grammar_contexts.specs.declared.context.Pattern.{Pattern}
use Rattle.syntect_grammar_contexts.specs.declared.context.Pattern.TheVariants.{Match, Include}
use Rattle.syntect_grammar_contexts.specs.declared.context.Context.{Context}
use Rattle.syntect_grammar_loader.specs.declared.definition.SyntaxDefinition.{SyntaxDefinition}

abbrev Entry : Type 0
Entry = List ℕ × Context

-- ---- what is by name ----

abbrev ByName : ContextReference → Type 0
ByName r = is_direct r ≡ false

abbrev AreNames : List ContextReference → Type 0
AreNames rs = list_any is_direct rs ≡ false

abbrev MayName : Option ContextReference → Type 0
MayName o = AreNames (option_to_list o)

abbrev OpensNames : MatchOperation → Type 0
OpensNames o = AreNames (option_map_or (λ refs. refs) (list_of o) [])

abbrev MatchNames : MatchPattern → Type 0
MatchNames m = AreNames (named m)

abbrev Names : Context → Type 0
Names c = (c.prototype ≡ None) × NamesNoNumber c.patterns

names_one : (r : ContextReference) → ByName r → AreNames (r ∷ [])
names_one r e = rw e refl

names_append : (rs ss : List ContextReference) → AreNames rs → AreNames ss → AreNames (rs ++ ss)
names_append [] ss e f = f
names_append (r ∷ rs) ss e f = go (is_direct r) refl (λ x. names_append rs ss x f)
  where
    go : (b : Bool) → is_direct r ≡ b → (AreNames rs → AreNames (rs ++ ss)) → AreNames (r ∷ rs ++ ss)
    go true k more = let x : true ≡ false = rw k at e in cc
    go false k more = let x : AreNames rs = rw k at e in rw k (more x)

names_of_match : (m : MatchPattern) (o : MatchOperation) → m.operation ≡ o → OpensNames o → MayName m.with_prototype → MatchNames m
names_of_match m (op.Push refs) e h p = rw e (names_append refs (option_to_list m.with_prototype) h p)
names_of_match m (op.Set refs) e h p = rw e (names_append refs (option_to_list m.with_prototype) h p)
names_of_match m op.Pop e h p = rw e refl
names_of_match m op.None e h p = rw e refl

more_match : (ps : List Pattern) (m : MatchPattern) → NamesNoNumber ps → MatchNames m → NamesNoNumber (ps ++ Match m ∷ [])
more_match [] m h k = (k, tt)
more_match (Match x ∷ ps) m h k = (h.0, more_match ps m h.1 k)
more_match (Include r ∷ ps) m h k = more_match ps m h k

more_include : (ps : List Pattern) (r : ContextReference) → NamesNoNumber ps → NamesNoNumber (ps ++ Include r ∷ [])
more_include [] r h = tt
more_include (Match x ∷ ps) r h = (h.0, more_include ps r h.1)
more_include (Include s ∷ ps) r h = more_include ps r h

put_names : (name : List ℕ) (c : Context) (es : List Entry) → Names c → KnowNoNumber es → KnowNoNumber (put name c es)
put_names name c [] k h = (k.0, k.1, tt)
put_names name c (e ∷ es) k h = go (put_names name c es k h.2) (slice_cmp nat_cmp name e.0)
  where
    go : KnowNoNumber (put name c es) → (o : Ordering) → KnowNoNumber (match_ordering o ((name, c) ∷ e ∷ es) ((e.0, c) ∷ es) (e ∷ put name c es))
    go later Less = (k.0, k.1, h)
    go later Equal = (k.0, k.1, h.2)
    go later Greater = (h.0, h.1, later)

remove_names : (test : List ℕ → Bool) (es : List Entry) → KnowNoNumber es → KnowNoNumber (remove_entry test es)
remove_names test [] h = tt
remove_names test (e ∷ es) h = go (test e.0) (remove_names test es h.2)
  where
    go : (b : Bool) → KnowNoNumber (remove_entry test es) → KnowNoNumber (cond b es (e ∷ remove_entry test es))
    go true later = h.2
    go false later = (h.0, h.1, later)

lookup_names : (test : List ℕ → Bool) (es : List Entry) → KnowNoNumber es → IfSome (lookup test es) Names
lookup_names test [] h = tt
lookup_names test (e ∷ es) h = go (test e.0) (lookup_names test es h.2)
  where
    go : (b : Bool) → IfSome (lookup test es) Names → IfSome (cond b (Some e.1) (lookup test es)) Names
    go true later = (h.0, h.1)
    go false later = later

-- ---- steps that keep what is read by name ----

-- what a step gave is so, and the contexts read by then know no number
abbrev Held : {A : Type 0} → (A → Type 0) → Result (A × Reading) Refusal → Type 0
Held P (Ok p) = P p.0 × KnowNoNumber p.1.contexts
Held P (Err r) = Unit {0}

abbrev KeepsToNames : {A : Type 0} → (A → Type 0) → Step A → Type 0
KeepsToNames P m = (s : Reading) → KnowNoNumber s.contexts → Held P (m s)

abbrev Any : {A : Type 0} → A → Type 0
Any a = Unit {0}

gives : {A : Type 0} (P : A → Type 0) (a : A) → P a → KeepsToNames P (give a)
gives P a h s k = (h, k)

refuses : {A : Type 0} (P : A → Type 0) (r : Refusal) → KeepsToNames P (refuse r)
refuses P r s k = tt

binds : {A B : Type 0} (P : A → Type 0) (Q : B → Type 0) (m : Step A) (f : A → Step B) → KeepsToNames P m → ((a : A) → P a → KeepsToNames Q (f a)) → KeepsToNames Q (m >>= f)
binds P Q m f h k s e = go (m s) (h s e)
  where
    go : (r : Result _ Refusal) → Held P r → Held Q (on r f)
    go (Ok p) x = k p.0 x.0 p.1 x.1
    go (Err r) x = tt

found : {A : Type 0} (P : A → Type 0) (r : Result A Refusal) → ((a : A) → P a) → KeepsToNames P (found_in r)
found P (Ok a) h s k = (h a, k)
found P (Err r) h s k = tt

finds : {A : Type 0} (f : Reading → Result A Refusal) → KeepsToNames Any (finding f)
finds f s k = found Any (f s) (λ a. tt) s k

knows : {A : Type 0} (r : Refusal) (o : Option A) → KeepsToNames Any (known r o)
knows r None s k = tt
knows r (Some a) s k = (tt, k)

may : {A B : Type 0} (P : B → Type 0) (f : A → Step B) (b : B) (o : Option A) → ((a : A) → KeepsToNames P (f a)) → P b → KeepsToNames P (perhaps f b o)
may P f b None h k s e = (k, e)
may P f b (Some a) h k s e = h a s e

for_each : {A B : Type 0} (P : B → Type 0) (f : B → A → Step B) (b : B) (xs : List A) → ((b : B) (x : A) → P b → KeepsToNames P (f b x)) → P b → KeepsToNames P (each f b xs)
for_each P f b [] h k s e = (k, e)
for_each P f b (x ∷ xs) h k s e = go (f b x s) (h b x k s e) (λ c. for_each P f c xs h)
  where
    go : (r : Result _ Refusal) → Held P r → ((c : _) → P c → KeepsToNames P (each f c xs)) → Held P (on r (λ c. each f c xs))
    go (Ok p) y more = more p.0 y.0 p.1 y.1
    go (Err r) y more = tt

-- ---- the parts of a context ----

scopes_keep : (text : List ℕ) → KeepsToNames Any (scopes text)
scopes_keep text s k = go (first_refusal s.repository (words text))
  where
    go : (o : Option ParseScopeError) → Held Any (scopes_unless o (with_scopes s.repository (words text)) (words text) s)
    go None = (tt, k)
    go (Some e) = tt

scope_keeps : (text : List ℕ) → KeepsToNames Any (scope text)
scope_keeps text s k = go (first_refusal s.repository (text ∷ []))
  where
    go : (o : Option ParseScopeError) → Held Any (scope_unless o (with_atoms s.repository (atom_texts text)) text s)
    go None = (tt, k)
    go (Some e) = tt

capture_added : (found : List (ℕ × Scopes)) (group : Option ℕ) (text : Option (List ℕ)) → KeepsToNames Any (add_capture found group text)
capture_added found (Some group) (Some text) = binds Any Any (scopes text) (λ ss. give (found ++ (group, ss) ∷ [])) (scopes_keep text) (λ ss h. gives Any (found ++ (group, ss) ∷ []) tt)
capture_added found (Some group) None = gives Any found tt
capture_added found None text = gives Any found tt

captures_keep : (text : List ℕ) (es : List (Scalar × Node)) → KeepsToNames Any (captures text es)
captures_keep text es = for_each Any (capture text) [] es (λ found e h. capture_added found (capture_group text e.0) (text_in e.1)) tt

captures_at_keep : (m : Node) (tested : List ℕ) → KeepsToNames Any (loading.captures_at m tested)
captures_at_keep m tested =
    may Any (λ es. captures tested es >>= λ cs. give (Some cs)) None (at map_in (codes "captures") m)
    (λ es. binds Any Any (captures tested es) (λ cs. give (Some cs)) (captures_keep tested es) (λ cs h. gives Any (Some cs) tt)) tt

reference_by_name : (o : Option (List ℕ)) (with_escape : Bool) (name : List ℕ) (sub : Option (List ℕ)) → KeepsToNames ByName (reference_unless o with_escape name sub)
reference_by_name (Some text) with_escape name sub = binds Any ByName (scope text) (λ s. give (ByScope s sub with_escape)) (scope_keeps text) (λ s h. gives ByName (ByScope s sub with_escape) refl)
reference_by_name None with_escape name sub = go (is_file name)
  where
    go : (b : Bool) → KeepsToNames ByName (if b then give (File (file_name name) sub with_escape) else give (Named name))
    go true = gives ByName (File (file_name name) sub with_escape) refl
    go false = gives ByName (Named name) refl

text_by_name : (with_escape : Bool) (text : List ℕ) → KeepsToNames ByName (text_reference with_escape text)
text_by_name with_escape text = reference_by_name (scope_text (head text)) with_escape (head text) (sub_context text)

-- ---- items, over how a context without a name of its own is read ----

module _ (inner : Bool → List Node → Step (List ℕ)) (keeps : (wants : Bool) (items : List Node) → KeepsToNames Any (inner wants items)) where
  inline_named : (wants : Bool) (items : List Node) → KeepsToNames ByName (loading.inline inner wants items)
  inline_named wants items = binds Any ByName (inner wants items) (λ name. give (Inline name)) (keeps wants items) (λ name h. gives ByName (Inline name) refl)

  by_text_or_list : (with_escape : Bool) (text : Option (List ℕ)) (items : Option (List Node)) → KeepsToNames ByName (loading.reference_by inner with_escape text items)
  by_text_or_list with_escape (Some text) items = text_by_name with_escape text
  by_text_or_list with_escape None (Some items) = inline_named true items
  by_text_or_list with_escape None None = refuses ByName wrong_kind

  reference_named : (with_escape : Bool) (v : Node) → KeepsToNames ByName (loading.reference inner with_escape v)
  reference_named with_escape v = by_text_or_list with_escape (text_in v) (list_in v)

  added_named : (found : List ContextReference) (v : Node) → AreNames found → KeepsToNames AreNames (loading.add_reference inner found v)
  added_named found v h =
      binds ByName AreNames (loading.reference inner false v) (λ r. give (found ++ r ∷ [])) (reference_named false v)
      (λ r k. gives AreNames (found ++ r ∷ []) (names_append found (r ∷ []) h (names_one r k)))

  references_named : (v : Node) → KeepsToNames AreNames (loading.references inner v)
  references_named v = go (is_none v) (is_several v)
    where
      go : (a b : Bool)
          → KeepsToNames AreNames (if a then refuse wrong_kind else if b then each (loading.add_reference inner) [] (unwrap_or (list_in v) []) else loading.add_reference inner [] v)
      go true b = refuses AreNames wrong_kind
      go false true = for_each AreNames (loading.add_reference inner) [] (unwrap_or (list_in v) []) (λ found x h. added_named found x h) refl
      go false false = added_named [] v refl

  embedded_named : (m v : Node) (escape : Option Node) → KeepsToNames OpensNames (loading.embedded_until inner m v escape)
  embedded_named m v None = refuses OpensNames (missing (codes "escape"))
  embedded_named m v (Some escape) =
      binds ByName OpensNames (loading.inline inner true (escape_items m escape)) (λ out. loading.reference inner true v >>= λ r. give (op.Push (out ∷ r ∷ []))) (inline_named true (escape_items m escape))
      (λ out h. binds ByName OpensNames (loading.reference inner true v) (λ r. give (op.Push (out ∷ r ∷ []))) (reference_named true v)
      (λ r k. gives OpensNames (op.Push (out ∷ r ∷ [])) (names_append (out ∷ []) (r ∷ []) (names_one out h) (names_one r k))))

  operation_named_by : (m : Node) (pop push set embed : Option Node) → KeepsToNames OpensNames (loading.operation_by inner m pop push set embed)
  operation_named_by m (Some pop) push set embed = gives OpensNames op.Pop refl
  operation_named_by m None (Some v) set embed = binds AreNames OpensNames (loading.references inner v) (λ rs. give (op.Push rs)) (references_named v) (λ rs h. gives OpensNames (op.Push rs) h)
  operation_named_by m None None (Some v) embed = binds AreNames OpensNames (loading.references inner v) (λ rs. give (op.Set rs)) (references_named v) (λ rs h. gives OpensNames (op.Set rs) h)
  operation_named_by m None None None (Some v) = embedded_named m v (get (codes "escape") m)
  operation_named_by m None None None None = gives OpensNames op.None refl

  ahead_named : (escape : Option Node) → KeepsToNames MayName (loading.ahead_of inner escape)
  ahead_named None = gives MayName None refl
  ahead_named (Some escape) =
      binds Any MayName (known wrong_kind (text_in escape)) (λ text. loading.inline inner false (ahead_items text) >>= λ r. give (Some r)) (knows wrong_kind (text_in escape))
      (λ text h. binds ByName MayName (loading.inline inner false (ahead_items text)) (λ r. give (Some r)) (inline_named false (ahead_items text)) (λ r k. gives MayName (Some r) (names_one r k)))

  prototype_named_by : (items : Option (List Node)) (escape : Option Node) → KeepsToNames MayName (loading.prototype_by inner items escape)
  prototype_named_by (Some items) escape = binds ByName MayName (loading.inline inner false items) (λ r. give (Some r)) (inline_named false items) (λ r k. gives MayName (Some r) (names_one r k))
  prototype_named_by None escape = ahead_named escape

  -- what is made of the parts of a match
  abbrev made : Node → List ℕ → Scopes → Option (List (ℕ × Scopes)) → MatchOperation → Option ContextReference → MatchPattern
  made m text ss cs o p = record {
    has_captures = is_some (get (codes "pop") m) && refers_back text;
    regex = text;
    scope = ss;
    captures = cs;
    operation = o;
    with_prototype = p;
  }

  match_named : (m : Node) → KeepsToNames MatchNames (loading.match inner m)
  match_named m =
      binds Any MatchNames (finding (loading.pattern_at m)) _ (finds (loading.pattern_at m))
      (λ text h. binds Any MatchNames (perhaps scopes [] (at text_in (codes "scope") m)) _ (may Any scopes [] (at text_in (codes "scope") m) scopes_keep tt)
      (λ ss i. binds Any MatchNames (loading.captures_at m (tested_text text)) _ (captures_at_keep m (tested_text text))
      (λ cs j. binds OpensNames MatchNames (loading.operation inner m) _ (operation_named_by m (get (codes "pop") m) (get (codes "push") m) (get (codes "set") m) (get (codes "embed") m))
      (λ o k. binds MayName MatchNames (loading.with_prototype inner m) _ (prototype_named_by (at list_in (codes "with_prototype") m) (get (codes "escape") m))
      (λ p l. gives MatchNames (made m text ss cs o p) (names_of_match (made m text ss cs o p) o refl k l))))))

  -- a context with what an item sets
  abbrev with_set : Context → Node → Scopes → Scopes → Context
  with_set c m whole content = record c {
    meta_scope = whole;
    meta_content_scope = content;
    meta_include_prototype = loading.wants_prototype m c.meta_include_prototype;
    clear_scopes = loading.or_else (loading.clear_amount m) c.clear_scopes;
  }

  set_named : (c : Context) (m : Node) → Names c → KeepsToNames Names (loading.set c m)
  set_named c m h =
      binds Any Names (perhaps scopes c.meta_scope (at text_in (codes "meta_scope") m)) _ (may Any scopes c.meta_scope (at text_in (codes "meta_scope") m) scopes_keep tt)
      (λ whole i. binds Any Names (perhaps scopes c.meta_content_scope (at text_in (codes "meta_content_scope") m)) _ (may Any scopes c.meta_content_scope (at text_in (codes "meta_content_scope") m) scopes_keep tt)
      (λ content j. gives Names (with_set c m whole content) h))

  entry_named : (c : Context) (m : Node) (include : Option Node) → Names c → KeepsToNames Names (loading.entry_by inner c m include)
  entry_named c m (Some v) h =
      binds ByName Names (loading.reference inner false v) (λ r. give (with_include c r)) (reference_named false v) (λ r k. gives Names (with_include c r) (h.0, more_include c.patterns r h.1))
  entry_named c m None h =
      binds MatchNames Names (loading.match inner m) (λ p. give (with_match c p)) (match_named m) (λ p k. gives Names (with_match c p) (h.0, more_match c.patterns p h.1 k))

  item_named : (c : Context) (v : Node) → Names c → KeepsToNames Names (loading.item inner c v)
  item_named c v h = binds Any Names (known wrong_kind (map_in v)) (λ es. loading.item_of inner c v) (knows wrong_kind (map_in v)) (λ es i. go (loading.is_setting v))
    where
      go : (b : Bool) → KeepsToNames Names (if b then loading.set c v else loading.entry_by inner c v (get (codes "include") v))
      go true = set_named c v h
      go false = entry_named c v (get (codes "include") v) h

  kept_named : (name : List ℕ) (c : Context) → Names c → KeepsToNames Any (loading.keep name c)
  kept_named name c h s k = (tt, put_names name c s.contexts h k)

  context_named : (name : List ℕ) (wants : Bool) (items : List Node) → KeepsToNames Any (named_context inner name wants items)
  context_named name wants items =
      binds Names Any (each (loading.item inner) (new_context wants) items) (λ c. loading.keep name c)
      (for_each Names (loading.item inner) (new_context wants) items (λ c v h. item_named c v h) (refl, tt)) (λ c h. kept_named name c h)

-- contexts inside of others, of any depth
contexts_named : (n : ℕ) (wants : Bool) (items : List Node) → KeepsToNames Any (context n wants items)
unfolding context
contexts_named zero wants items s k = tt
contexts_named (suc n) wants items s k =
    binds {A = List ℕ} {B = List ℕ} Any Any loading.begin (λ name. named_context (context n) name wants items) (λ s k. (tt, k)) (λ name h. context_named (context n) (contexts_named n) name wants items) s k

-- ---- a whole definition ----

entered : (name : List ℕ) (m : Step (List ℕ)) → KeepsToNames Any m → KeepsToNames Any (λ s. m (enter name s))
entered name m h s k = h (enter name s) k

top_named : (name : Option (List ℕ)) (items : Option (List Node)) → KeepsToNames Any (top_context name items)
top_named (Some name) (Some items) s k =
    entered name (named_context (context deepest) name (not (bytes_eq name prototype_name)) items) (context_named (context deepest) (contexts_named deepest) name (not (bytes_eq name prototype_name)) items) s k
top_named (Some name) None s k = (tt, k)
top_named None items s k = (tt, k)

tops_named : (es : List (Scalar × Node)) → KeepsToNames Any (top_contexts es)
tops_named es = for_each Any top_entry [] es
    (λ found e h. binds {A = List ℕ} {B = List ℕ} Any Any (top_context (text_of e.0) (list_in e.1)) (λ name. give []) (top_named (text_of e.0) (list_in e.1)) (λ name i s k. (tt, k))) tt

read_named : (v : Node) → KeepsToNames Any (read_contexts v)
read_named v =
    binds Any Any (known wrong_kind (map_in v)) _ (knows wrong_kind (map_in v))
    (λ es h. binds Any Any (found_in (contexts_at v)) _ (found Any (contexts_at v) (λ a. tt))
    (λ contexts i. binds Any Any (found_in (scope_text_at v)) _ (found Any (scope_text_at v) (λ a. tt))
    (λ text j. binds Any Any (scope text) _ (scope_keeps text)
    (λ top k. binds Any Any (top_contexts contexts) (λ none. give top) (tops_named contexts) (λ none l. gives Any top tt)))))

around_names : (top : List ℕ) (main : Context) (others : List Entry) → Names main → KnowNoNumber others → KnowNoNumber (around_main top main others)
around_names top main others m h =
    put_names main_name (main_context top main) _ m
    (put_names outer_name (outer_context main) _ (refl, tt)
    (put_names start_name (start_context top) others (refl, (refl, tt)) h))

abbrev Said : Result (SyntaxDefinition × List (List ℕ)) Refusal → Type 0
Said (Ok p) = KnowNoNumber p.0.contexts
Said (Err r) = Unit {0}

module _ (v : Node) (fallback : Option (List ℕ)) where
  of_main : (variables : List (List ℕ × List ℕ)) (top : List ℕ) (contexts : List Entry) (repository : List (List ℕ)) (o : Option Context)
      → KnowNoNumber contexts → IfSome o Names → Said (leaving repository (finished_with v variables fallback top contexts o))
  of_main variables top contexts repository None h m = tt
  of_main variables top contexts repository (Some main) h m = around_names top main (remove_entry (is_at (slice_cmp nat_cmp main_name)) contexts) m (remove_names (is_at (slice_cmp nat_cmp main_name)) contexts h)

  of_reading : (x : Result (List ℕ × Reading) Refusal) → Held Any x → Said (finish v fallback x)
  of_reading (Err r) h = tt
  of_reading (Ok p) h =
      of_main p.1.variables p.0 p.1.contexts p.1.repository (lookup (is_at (slice_cmp nat_cmp main_name)) p.1.contexts) h.1 (lookup_names (is_at (slice_cmp nat_cmp main_name)) p.1.contexts h.1)

of_value : (o : Option (Option Node)) (newline : Bool) (fallback : Option (List ℕ)) (repository : List (List ℕ)) → Said (definition_in o newline fallback repository)
of_value None newline fallback repository = tt
of_value (Some None) newline fallback repository = tt
of_value (Some (Some v)) newline fallback repository =
    of_reading v fallback (read_contexts v (nothing_read (variables_at v) newline repository)) (read_named v (nothing_read (variables_at v) newline repository) tt)

-- a definition that was loaded names no context by its number
pub loaded_by_name : LoadedByName
loaded_by_name text newline fallback repository d left e = said (loaded text newline fallback repository) e (of_value (yaml_of text) newline fallback repository)
  where
    said : (a : Result (SyntaxDefinition × List (List ℕ)) Refusal) → a ≡ Ok (d, left) → Said a → KnowNoNumber d.contexts
    said (Ok p) f h = let k : p ≡ (d, left) = cc in rw k at h
    said (Err r) f h = cc
