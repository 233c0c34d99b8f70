-- The flat lists of contexts.
use Rattle.std.proofs.Common.{◌≡◌, ℕ, zero, suc, ◌+◌, ◌<◌, Bool, true, false, List, [], ◌∷◌, ◌++◌, length, drop, get_or, Option, Some, None, refl, ap, sym, ◌∙◌, subst, arith, inl, inr, add-one, find, below_more, length-append}
use Rattle.std.specs.Prelude.{IfSome, IfOk, Result, Ok, Err, slice_get, unwrap_or, if◌then◌else◌}
use Rattle.std.specs.List.{All, cons_option, filter_map, list_any}
use Rattle.std.specs.Option.{option_and_then, option_map_or}
use Rattle.std.proofs.Math.ListN.{get_or-append}
use Rattle.std.proofs.Math.Seq.{drop-cons, get_or-append_seam}
use Rattle.std.proofs.lemmas.Bool.{cases_lt}
use Rattle.std.proofs.lemmas.List.{get_or_past}
use Rattle.std.proofs.lemmas.List.Elements.{All-append, All-cons, All-nil, filter_map-append}
use Rattle.std.proofs.lemmas.Option.{get_or_from_slice_get, slice_get-get_or, unwrap_or-slice_get}
use Rattle.syntect_grammar.specs.syntect_pattern_table.Starts.{is_in}
use Rattle.syntect_grammar.specs.syntect_regex.Begins.{BeginsAtEdges, BeginsAtLines, NoneBeginsBefore, NoneBeginsOutside}
use Rattle.syntect_grammar.specs.syntect_grammar_contexts.Contexts.{is_same, match_in, match_of, target}
use Rattle.syntect_grammar.specs.Contexts.{context_at, set_of, syntaxes_in}
use Rattle.syntect_grammar.specs.Flats.{AreFlatsOf, AreListsOf, IsOpen, IsTableOf, Tells, flats_at, pattern_at}
use Rattle.syntect_grammar.specs.Patterns.{entries, included, patterns_of, room_in, walk, walk_patterns}
use Rattle.syntect_grammar.specs.Walk.{FindsSame}
use Rattle.syntect_grammar_lists.specs.Told.{AreCoarser, IsCoarser}
use Rattle.syntect_grammar_lists.specs.declared.flats.Flat.{Flat}
use Rattle.syntect_grammar.specs.syntect_grammar_contexts.declared.context.Context.{Context}
use Rattle.syntect_grammar.specs.syntect_grammar_contexts.declared.context.ContextId.{ContextId}
use Rattle.syntect_grammar.specs.syntect_grammar_contexts.declared.context.MatchPattern.{MatchPattern}
use Rattle.syntect_grammar.specs.syntect_grammar_contexts.declared.context.Pattern.{Pattern}
use Rattle.syntect_grammar.specs.syntect_grammar_contexts.declared.context.Pattern.TheVariants.{Match, Include}
use Rattle.syntect_grammar.specs.declared.syntax_set.SyntaxSet.{SyntaxSet}

-- ---- where a pattern stands ----

none_in : (k : ℕ) (p : Pattern) → slice_get [] k ≡ Some p → ⊥
none_in zero p e = cc
none_in (suc k) p e = cc

abbrev stands_at : SyntaxSet → ContextId → ℕ → Option MatchPattern
stands_at set id k = option_and_then (λ c. match_of c k) (context_at set id)

stands : (set : SyntaxSet) (id : ContextId) (k : ℕ) (m : MatchPattern) → slice_get (entries set id) k ≡ Some (Match m) → stands_at set id k ≡ Some m
stands set id k m e = by (context_at set id) e
  where
    by : (o : Option Context) → slice_get (option_map_or (λ c. c.patterns) o []) k ≡ Some (Match m) → option_and_then (λ (c : Context). match_of c k) o ≡ Some m
    by None h = absurd (none_in k (Match m) h)
    by (Some c) h = ap (option_and_then match_in) h

-- an entry, and those after it
pub entry_at : (es ps : List Pattern) → es ≡ ps → (k : ℕ) (p d : Pattern) → k < length es → get_or es k d ≡ p → drop k ps ≡ p ∷ drop (k + 1) ps
entry_at es ps same k p d l e =
    subst (λ (qs : List Pattern). drop k qs ≡ p ∷ drop (k + 1) qs) same
    (drop-cons es k d l ∙ ap (λ (q : Pattern). q ∷ drop (suc k) es) e ∙ ap (λ (n : ℕ). p ∷ drop n es) (sym (add-one k)))

module _ (set : SyntaxSet) (flat : Flat) (id : ContextId) (k : ℕ) (m : MatchPattern) (d : Pattern) (es : List Pattern) (same : es ≡ entries set id) (e : flat.context ≡ id) (f : flat.index ≡ k)
    (l : k < length es) (h : get_or es k d ≡ Match m) where
  found_there : pattern_at set flat ≡ Some m
  found_there =
      ap (λ (i : ContextId). stands_at set i flat.index) e ∙ ap (λ (n : ℕ). stands_at set id n) f
      ∙ stands set id k m (subst (λ (ps : List Pattern). slice_get ps k ≡ Some (Match m)) same (slice_get-get_or es k d l ∙ ap Some h))

  pub one_more : (flats after : List Flat) → after ≡ flats ++ flat ∷ [] → filter_map (pattern_at set) after ≡ filter_map (pattern_at set) flats ++ m ∷ []
  one_more flats after g =
      ap (filter_map (pattern_at set)) g ∙ filter_map-append (pattern_at set) flats (flat ∷ [])
      ∙ ap (λ (o : Option MatchPattern). filter_map (pattern_at set) flats ++ cons_option o []) found_there

  pub counted_more : (flats after : List Flat) → after ≡ flats ++ flat ∷ [] → length flats ≡ length (filter_map (pattern_at set) flats) → length after ≡ length (filter_map (pattern_at set) after)
  counted_more flats after g n =
      omega (arith, ap length g, length-append flats (flat ∷ []), ap length (one_more flats after g), length-append (filter_map (pattern_at set) flats) (m ∷ []), n)

  pub tells_more : (flats after : List Flat) → after ≡ flats ++ flat ∷ [] → flat.has_captures ≡ m.has_captures → NoneBeginsOutside flat.begins m.regex
      → NoneBeginsBefore false flat.words m.regex → NoneBeginsBefore true flat.blanks m.regex → (flat.at_edges ≡ true → BeginsAtEdges m.regex)
      → (flat.at_lines ≡ true → BeginsAtLines m.regex) → (flat.has_captures ≡ true → IsOpen flat) → All (Tells set) flats → All (Tells set) after
  tells_more flats after g c b f k a v o t =
      let tells : Tells set flat =
      subst (λ (o : Option MatchPattern). IfSome o (λ (x : MatchPattern). (flat.has_captures ≡ x.has_captures) × NoneBeginsOutside flat.begins x.regex × NoneBeginsBefore false flat.words x.regex × NoneBeginsBefore true flat.blanks x.regex × (flat.at_edges ≡ true → BeginsAtEdges x.regex) × (flat.at_lines ≡ true → BeginsAtLines x.regex) × (flat.has_captures ≡ true → IsOpen flat))) (sym found_there) (c, b, f, k, a, v, o) in
      subst (All (Tells set)) (sym g) (All-append (Tells set) flats (flat ∷ []) t (All-cons (Tells set) flat [] tells (All-nil (Tells set))))

-- ---- tables ----

-- the list that is kept of a context, if one is, is right
abbrev IsKept : SyntaxSet → ℕ → ℕ → List (Option (List Flat)) → Type 0
IsKept set index k lists = IfSome (get_or lists k None) (AreFlatsOf set (record { syntax_index = index; context_index = k }))

pub lists_more : (set : SyntaxSet) (index : ℕ) (lists after : List (Option (List Flat))) (kept : Option (List Flat)) (k : ℕ) → after ≡ lists ++ kept ∷ [] → length lists ≡ k
    → IfSome kept (AreFlatsOf set (record { syntax_index = index; context_index = k })) → AreListsOf set index lists → AreListsOf set index after
lists_more set index lists after kept k g n new old j l =
    subst (IsKept set index j) (sym g)
    (below_more (λ i. IsKept set index i (lists ++ kept ∷ [])) (length lists)
    (λ i h. subst (λ (o : Option (List Flat)). IfSome o (AreFlatsOf set (record { syntax_index = index; context_index = i }))) (sym (get_or-append lists (kept ∷ []) None i h)) (old i h))
    (subst (λ (o : Option (List Flat)). IfSome o (AreFlatsOf set (record { syntax_index = index; context_index = length lists }))) (sym (get_or-append_seam lists kept [] None))
    (subst (λ (i : ℕ). IfSome kept (AreFlatsOf set (record { syntax_index = index; context_index = i }))) (sym n) new))
    j (omega (arith, ap length g, length-append lists (kept ∷ []), l)))

pub table_more : (set : SyntaxSet) (table after : List (List (Option (List Flat)))) (lists : List (Option (List Flat))) (k : ℕ) → after ≡ table ++ lists ∷ [] → length table ≡ k → AreListsOf set k lists
    → ((j : ℕ) → j < length table → AreListsOf set j (get_or table j [])) → (j : ℕ) → j < length after → AreListsOf set j (get_or after j [])
table_more set table after lists k g n new old j l =
    subst (λ (ls : List (List (Option (List Flat)))). AreListsOf set j (get_or ls j [])) (sym g)
    (below_more (λ i. AreListsOf set i (get_or (table ++ lists ∷ []) i [])) (length table)
    (λ i h. subst (AreListsOf set i) (sym (get_or-append table (lists ∷ []) [] i h)) (old i h))
    (subst (AreListsOf set (length table)) (sym (get_or-append_seam table lists [] [])) (subst (λ (i : ℕ). AreListsOf set i lists) (sym n) new))
    j (omega (arith, ap length g, length-append table (lists ∷ []), l)))

pub is_table : (set : SyntaxSet) (table : List (List (Option (List Flat)))) → ((j : ℕ) → j < length table → AreListsOf set j (get_or table j [])) → IsTableOf set table
is_table set table h id = elim (cases_lt id.syntax_index (length table)) [
  | inl l ↦ held (h id.syntax_index l)
  | inr l ↦ no_list (ap (λ (ls : List (Option (List Flat))). get_or ls id.context_index None) (get_or_past table id.syntax_index [] l) ∙ get_or_past [] id.context_index None (omega arith))
]
  where
    no_list : flats_at table id ≡ None → IfSome (flats_at table id) (AreFlatsOf set id)
    no_list e = subst (λ (o : Option (List Flat)). IfSome o (AreFlatsOf set id)) (sym e) tt

    held : AreListsOf set id.syntax_index (get_or table id.syntax_index []) → IfSome (flats_at table id) (AreFlatsOf set id)
    held lists = elim (cases_lt id.context_index (length (get_or table id.syntax_index []))) [
      | inl l ↦ lists id.context_index l
      | inr l ↦ no_list (get_or_past (get_or table id.syntax_index []) id.context_index None l)
    ]

-- ---- what a table holds for a context ----

module _ (table : List (List (Option (List Flat)))) (id : ContextId) where
  pub kept_no_syntax : None ≡ slice_get table id.syntax_index → None ≡ flats_at table id
  kept_no_syntax e =
      sym (ap (λ (ls : List (Option (List Flat))). get_or ls id.context_index None) (sym (unwrap_or-slice_get table id.syntax_index []) ∙ sym (ap (λ o. unwrap_or o []) e)) ∙ get_or_past [] id.context_index None (omega arith))

  module _ (lists : List (Option (List Flat))) (e : Some lists ≡ slice_get table id.syntax_index) where
    row : get_or table id.syntax_index [] ≡ lists
    row = get_or_from_slice_get table id.syntax_index lists [] (sym e)

    pub kept_no_context : None ≡ slice_get lists id.context_index → None ≡ flats_at table id
    kept_no_context f =
        sym (ap (λ (ls : List (Option (List Flat))). get_or ls id.context_index None) row ∙ sym (unwrap_or-slice_get lists id.context_index None) ∙ sym (ap (λ o. unwrap_or o None) f))

    pub kept_at : (o out : Option (List Flat)) → Some o ≡ slice_get lists id.context_index → out ≡ o → out ≡ flats_at table id
    kept_at o out f g =
        g ∙ sym (ap (λ (ls : List (Option (List Flat))). get_or ls id.context_index None) row ∙ get_or_from_slice_get lists id.context_index o None (sym f))

-- a set of no syntaxes
pub empty_table : IsTableOf (set_of []) []
empty_table = is_table (set_of []) [] (λ j l. absurd (omega (arith, l)))

-- ---- the set of the same syntaxes ----

patterns_same : (inner outer : ContextId → List MatchPattern) (path : List ContextId) → ((id : ContextId) → inner id ≡ outer id) → (ps : List Pattern) → walk_patterns inner path ps ≡ walk_patterns outer path ps
patterns_same inner outer path h [] = refl
patterns_same inner outer path h (Match m ∷ ps) = ap (λ (ms : List MatchPattern). m ∷ ms) (patterns_same inner outer path h ps)
patterns_same inner outer path h (Include r ∷ ps) =
    ap (λ (ms : List MatchPattern). ms ++ walk_patterns inner path ps) (by (target r)) ∙ ap (λ (ms : List MatchPattern). included outer path (target r) ++ ms) (patterns_same inner outer path h ps)
  where
    by_path : (id : ContextId) (b : Bool) → (if b then [] else inner id) ≡ (if b then [] else outer id)
    by_path id true = refl
    by_path id false = h id

    by : (o : Option ContextId) → included inner path o ≡ included outer path o
    by None = refl
    by (Some id) = by_path id (list_any (is_same id) path)

walk_same : (room : ℕ) (set : SyntaxSet) (path : List ContextId) (ps : List Pattern) → walk room (set_of (syntaxes_in set)) path ps ≡ walk room set path ps
walk_same zero set path ps = refl
walk_same (suc room) set path ps =
    patterns_same (λ id. walk room (set_of (syntaxes_in set)) (path ++ id ∷ []) (entries set id)) (λ id. walk room set (path ++ id ∷ []) (entries set id)) path
    (λ id. walk_same room set (path ++ id ∷ []) (entries set id)) ps

-- what a context's walk gives depends on the syntaxes alone
pub same_patterns : (set : SyntaxSet) (id : ContextId) → patterns_of (set_of (syntaxes_in set)) id ≡ patterns_of set id
same_patterns set id = walk_same (room_in set) set (id ∷ []) (entries set id)

finds_in_set : (set : SyntaxSet) (id : ContextId) (flats : List Flat) → AreFlatsOf (set_of (syntaxes_in set)) id flats → FindsSame (filter_map (pattern_at set) flats) (patterns_of set id)
finds_in_set set id flats a = λ test. a.finds test ∙ ap (find test) (same_patterns set id)

-- what is true of the lists of the same syntaxes is true of the set's
pub in_set : (set : SyntaxSet) (id : ContextId) (flats : List Flat) → AreFlatsOf (set_of (syntaxes_in set)) id flats → AreFlatsOf set id flats
in_set set id flats a = record { finds = finds_in_set set id flats a; few = omega (arith, a.few, ap length (same_patterns set id)); tells = a.tells }

-- what holds of what is there implies what is implied
pub if_some : {X : Type 0} (P Q : X → Type 0) → ((x : X) → P x → Q x) → (o : Option X) → IfSome o P → IfSome o Q
if_some P Q h None k = tt
if_some P Q h (Some x) k = h x k

pub if_ok : {X E : Type 0} (P Q : X → Type 0) → ((x : X) → P x → Q x) → (r : Result X E) → IfOk r P → IfOk r Q
if_ok P Q h (Ok x) k = h x k
if_ok P Q h (Err e) k = tt

-- ---- patterns of which less is known ----

module _ (set : SyntaxSet) where
  same_place : (old new : Flat) → IsCoarser old new → pattern_at set new ≡ pattern_at set old
  same_place old new c = ap (λ (i : ContextId). stands_at set i new.index) c.context ∙ ap (stands_at set old.context) c.index

  abbrev TellsOf : Flat → MatchPattern → Type 0
  TellsOf flat m = (flat.has_captures ≡ m.has_captures) × NoneBeginsOutside flat.begins m.regex × NoneBeginsBefore false flat.words m.regex × NoneBeginsBefore true flat.blanks m.regex × (flat.at_edges ≡ true → BeginsAtEdges m.regex) × (flat.at_lines ≡ true → BeginsAtLines m.regex) × (flat.has_captures ≡ true → IsOpen flat)

  held : (a b : Bool) → (b ≡ false → a ≡ false) → a ≡ true → b ≡ true
  held a true h e = refl
  held a false h e = absurd (let k : true ≡ false = sym e ∙ h refl in cc)

  not_held : (a b : Bool) → (b ≡ true → a ≡ true) → a ≡ false → b ≡ false
  not_held a true h e = absurd (let k : true ≡ false = sym (h refl) ∙ e in cc)
  not_held a false h e = refl

  open_coarser : (old new : Flat) → IsCoarser old new → IsOpen old → IsOpen new
  open_coarser old new c o = record {
    begins = λ x. held (is_in old.begins x) (is_in new.begins x) (c.begins x) (o.begins x);
    words = λ x. held (is_in old.words x) (is_in new.words x) (c.words x) (o.words x);
    blanks = λ x. held (is_in old.blanks x) (is_in new.blanks x) (c.blanks x) (o.blanks x);
    edges = not_held old.at_edges new.at_edges c.at_edges o.edges;
    lines = not_held old.at_lines new.at_lines c.at_lines o.lines;
  }

  tells_coarser : (old new : Flat) → IsCoarser old new → Tells set old → Tells set new
  tells_coarser old new c t =
      subst (λ (o : Option MatchPattern). IfSome o (TellsOf new)) (sym (same_place old new c))
      (if_some (TellsOf old) (TellsOf new) (λ m h. (
        c.has_captures ∙ h.0,
        λ s utf8 place e. h.1 s utf8 place (c.begins _ e),
        λ s utf8 place end run e. h.2 s utf8 place end run (c.words _ e),
        λ s utf8 place end run e. h.3 s utf8 place end run (c.blanks _ e),
        λ e. h.4 (c.at_edges e),
        λ e. h.5 (c.at_lines e),
        λ e. open_coarser old new c (h.6 (sym c.has_captures ∙ e)),
      )) (pattern_at set old) t)

  same_patterns_at : (old new : List Flat) → AreCoarser old new → filter_map (pattern_at set) new ≡ filter_map (pattern_at set) old
  same_patterns_at [] [] c = refl
  same_patterns_at [] (n ∷ new) c = absurd (omega (arith, c.count))
  same_patterns_at (o ∷ old) [] c = absurd (omega (arith, c.count))
  same_patterns_at (o ∷ old) (n ∷ new) c =
      let rest : AreCoarser old new = record { count = omega (arith, c.count); each = λ k d l. c.each (suc k) d (omega (arith, l)) } in
      ap (λ (p : Option MatchPattern). cons_option p (filter_map (pattern_at set) new)) (same_place o n (c.each 0 o (omega arith)))
      ∙ ap (cons_option (pattern_at set o)) (same_patterns_at old new rest)

  pub coarser_flats : (id : ContextId) (old new : List Flat) → AreFlatsOf set id old → AreCoarser old new → AreFlatsOf set id new
  coarser_flats id old new a c = record {
    finds = λ test. ap (find test) (same_patterns_at old new c) ∙ a.finds test;
    few = omega (arith, a.few, c.count);
    tells = λ k d l.
        let inside : k < length old = omega (arith, l, c.count) in
        tells_coarser (get_or old k d) (get_or new k d) (c.each k d inside) (a.tells k d inside);
  }
