-- What a turn finds in the parts of a chain.
use Rattle.std.proofs.Common.{◌≡◌, ℕ, suc, ◌+◌, ◌<◌, ◌==◌, ◌&&◌, ◌||◌, nat_le, not, Bool, true, false, List, [], ◌∷◌, ◌++◌, find, get_or, length, map, take, Option, Some, None, refl, sym, ap, ◌∙◌, arith, append_assoc, if◌then◌else◌}
use Rattle.std.specs.Prelude.{IfSome, is_some}
use Rattle.std.specs.List.{list_any, cons_option, filter_map, flat_map}
use Rattle.std.specs.Option.{option_copied, option_to_list}
use Rattle.std.specs.Str.{IsUtf8}
use Rattle.std.proofs.lemmas.List.{append-nil, get_or_default}
use Rattle.std.proofs.lemmas.List.Elements.{filter_map-append}
use Rattle.std.proofs.Math.Seq.{take-suc}
use Rattle.syntect_reading_choice.specs.syntect_grammar_contexts.Substitution.{Opening}
use Rattle.syntect_reading_choice.specs.syntect_grammar_contexts.declared.context.MatchPattern.{MatchPattern}
use Rattle.syntect_reading_choice.specs.syntect_grammar.Patterns.{patterns_of}
use Rattle.syntect_reading_choice.specs.syntect_grammar.declared.syntax_set.SyntaxSet.{SyntaxSet}
use Rattle.syntect_reading_choice.specs.syntect_grammar.Walk.{FindsSame}
use Rattle.syntect_reading_choice.proofs.syntect_grammar_proofs.SameLaws.{same_self, same_append, same_map, same_filter_map, same_all}
use Rattle.syntect_reading_choice.specs.Best.{IsBest}
use Rattle.syntect_reading_choice.specs.Chain.{Member, members, chain, in_sight}
use Rattle.syntect_reading_choice.specs.Engine.{dialect}
use Rattle.syntect_reading_choice.specs.syntect_grammar.Flats.{pattern_at}
use Rattle.syntect_reading_choice.specs.Found.{FindsInText}
use Rattle.syntect_reading_choice.specs.Parts.{Source, seen_part, parts_by, level_parts, parts_of, source_members, part_members, flat_members}
use Rattle.syntect_reading_choice.specs.declared.level.Level.{Level}
use Rattle.syntect_reading_choice.specs.Turn.{Live, live, live_match, loops}
use Rattle.syntect_reading_choice.proofs.BestLaws.{best_same, farther}
use Rattle.syntect_reading_choice.specs.declared.chain.Part.{Part}
use Rattle.syntect_reading_choice.specs.syntect_grammar_lists.declared.flats.Flat.{Flat}
use Rattle.syntect_reading_choice.specs.declared.position.Position.{Position}
use Rattle.syntect_reading_choice.specs.declared.search.Best.{Best}
use Rattle.syntect_reading_choice.specs.syntect_grammar_contexts.declared.context.Context.{Context}
use Rattle.syntect_reading_choice.specs.syntect_grammar_contexts.declared.context.ContextId.{ContextId}

-- ---- lists in which each test finds the same have the same best ----

any_by_find : {X : Type 0} (p : X → Bool) (xs : List X) → list_any p xs ≡ is_some (find p xs)
any_by_find p [] = refl
any_by_find p (x ∷ xs) = by (p x) (any_by_find p xs)
  where
    by : (b : Bool) → list_any p xs ≡ is_some (find p xs) → (b || list_any p xs) ≡ is_some (if b then Some x else find p xs)
    by true e = refl
    by false e = e

same_any : {X : Type 0} (p : X → Bool) (xs ys : List X) → FindsSame xs ys → list_any p xs ≡ list_any p ys
same_any p xs ys h = any_by_find p xs ∙ ap is_some (h p) ∙ sym (any_by_find p ys)

module _ (line : List ℕ) (p : Position) (last : ℕ) where
  pub same_best : (b : Best) (xs ys : List Live) → FindsSame xs ys → IsBest line p last xs b → IsBest line p last ys b
  same_best b xs ys s h = record {
    least = sym (same_all (λ k. nat_le b.start k.start) xs ys s) ∙ h.least;
    first = λ i. (sym (same_any (λ k. k.start == b.start) xs ys s) ∙ (h.first i).0, sym (s (λ k. (k.start == b.start) && not (loops p k))) ∙ (h.first i).1);
    none = h.none;
    near = h.near;
    bound = h.bound;
    from = h.from;
  }

  -- a match after the last place changes nothing
  pub best_skipped : (b : Best) (ms : List Live) (o : Option Live) → IsBest line p last ms b → IfSome o (λ k. last < k.start) → IsBest line p last (ms ++ cons_option o []) b
  best_skipped b ms o h n =
      best_same line p last b ms o h (λ k e.
      let f : last < k.start = farther line p last o last k e n in
      (omega (arith, h.bound, f), λ i c. omega (arith, h.near i, f)))

module _ (finds : FindsInText dialect) (set : SyntaxSet) (line : List ℕ) (u : IsUtf8 line) (p : Position) (part : Part) where
  abbrev member : MatchPattern → Member
  member m = record { pattern = m; opening = option_copied part.opening; from_with_prototype = part.from_with_prototype }

  abbrev found_in : List Flat → List Live
  found_in flats = live dialect line p (flat_members set part flats)

  -- ---- one pattern more ----

  flats_append : (xs ys : List Flat) → found_in (xs ++ ys) ≡ found_in xs ++ found_in ys
  flats_append xs ys =
      ap (λ ms. live dialect line p (map member ms)) (filter_map-append (pattern_at set) xs ys)
      ∙ ap (live dialect line p) (map_append (filter_map (pattern_at set) xs) (filter_map (pattern_at set) ys))
      ∙ filter_map-append (live_match dialect (length p.levels) line p.place) (map member (filter_map (pattern_at set) xs)) (map member (filter_map (pattern_at set) ys))
    where
      map_append : (ms ns : List MatchPattern) → map member (ms ++ ns) ≡ map member ms ++ map member ns
      map_append [] ns = refl
      map_append (m ∷ ms) ns = ap (λ l. member m ∷ l) (map_append ms ns)

  pub flats_more : (ms : List Live) (flats : List Flat) (i : ℕ) (d : Flat) → i < length flats
      → (ms ++ found_in (take i flats)) ++ found_in (get_or flats i d ∷ []) ≡ ms ++ found_in (take (i + 1) flats)
  flats_more ms flats i d l =
      let next : suc i ≡ i + 1 = omega arith in
      let here : get_or flats i d ≡ get_or flats i (get_or flats i d) = get_or_default flats i d (get_or flats i d) l in
      let front : take i flats ++ get_or flats i d ∷ [] ≡ take (suc i) flats =
      sym (take-suc flats i (get_or flats i d) l ∙ ap (λ x. take i flats ++ x ∷ []) (sym here)) in
      append_assoc ms (found_in (take i flats)) (found_in (get_or flats i d ∷ []))
      ∙ ap (λ l. ms ++ l) (sym (flats_append (take i flats) (get_or flats i d ∷ [])) ∙ ap found_in front ∙ ap (λ n. found_in (take n flats)) next)

  -- ---- all patterns of a part ----

  pub flats_end : (last : ℕ) (b : Best) (ms : List Live) (flats : List Flat) → FindsSame (filter_map (pattern_at set) flats) (patterns_of set part.id)
      → IsBest line p last (ms ++ found_in flats) b → IsBest line p last (ms ++ live dialect line p (part_members set part)) b
  flats_end last b ms flats s h =
      same_best line p last b (ms ++ found_in flats) (ms ++ live dialect line p (part_members set part))
      (same_append ms ms (found_in flats) (live dialect line p (part_members set part)) (same_self ms)
      (same_filter_map (live_match dialect (length p.levels) line p.place) (flat_members set part flats) (part_members set part)
      (same_map member (filter_map (pattern_at set) flats) (patterns_of set part.id) s))) h

-- ---- one part more ----

module _ (line : List ℕ) (p : Position) where
  pub flat_map_end : {X Y : Type 0} (g : X → List Y) (xs : List X) (x : X) → flat_map g (xs ++ x ∷ []) ≡ flat_map g xs ++ g x
  flat_map_end g [] x = append-nil (g x)
  flat_map_end g (y ∷ ys) x = ap (λ l. g y ++ l) (flat_map_end g ys x) ∙ sym (append_assoc (g y) (flat_map g ys) (g x))

  -- the matches of one more
  pub live_more : {X : Type 0} (g : X → List Member) (xs : List X) (i : ℕ) (x : X) → i < length xs → x ≡ get_or xs i x
      → live dialect line p (flat_map g (take i xs)) ++ live dialect line p (g x) ≡ live dialect line p (flat_map g (take (i + 1) xs))
  live_more g xs i x l e =
      let next : suc i ≡ i + 1 = omega arith in
      let front : take i xs ++ x ∷ [] ≡ take (suc i) xs = sym (take-suc xs i x l ∙ ap (λ y. take i xs ++ y ∷ []) (sym e)) in
      sym (filter_map-append (live_match dialect (length p.levels) line p.place) (flat_map g (take i xs)) (g x))
      ∙ ap (live dialect line p) (sym (flat_map_end g (take i xs) x) ∙ ap (flat_map g) front ∙ ap (λ n. flat_map g (take n xs)) next)

-- ---- the parts are those of the chain ----

module _ (set : SyntaxSet) where
  by_ids : (from : Bool) (opening : Option Opening) (ids : List ContextId) → flat_map (source_members set) (parts_by from opening ids) ≡ flat_map (members set from opening) ids
  by_ids from opening [] = refl
  by_ids from opening (id ∷ ids) = ap (λ l. members set from opening id ++ l) (by_ids from opening ids)

  joined : (xs ys : List Source) → flat_map (source_members set) (xs ++ ys) ≡ flat_map (source_members set) xs ++ flat_map (source_members set) ys
  joined [] ys = refl
  joined (x ∷ xs) ys = ap (λ l. source_members set x ++ l) (joined xs ys) ∙ sym (append_assoc (source_members set x) (flat_map (source_members set) xs) (flat_map (source_members set) ys))

  by_levels : (levels : List Level) → flat_map (source_members set) (flat_map level_parts levels) ≡ flat_map (λ l. flat_map (members set true l.opening) l.prototypes) levels
  by_levels [] = refl
  by_levels (l ∷ ls) =
      joined (level_parts l) (flat_map level_parts ls)
      ∙ ap (λ x. x ++ flat_map (source_members set) (flat_map level_parts ls)) (by_ids true l.opening l.prototypes)
      ∙ ap (λ x. flat_map (members set true l.opening) l.prototypes ++ x) (by_levels ls)

  seen_members : (parts : List Part) → flat_map (part_members set) parts ≡ flat_map (source_members set) (map seen_part parts)
  seen_members [] = refl
  seen_members (x ∷ xs) = ap (λ l. part_members set x ++ l) (seen_members xs)

  pub parts_make_chain : (p : Position) (top : Level) (c : Context) (parts : List Part) → map seen_part parts ≡ parts_of p top c → flat_map (part_members set) parts ≡ chain set p top c
  parts_make_chain p top c parts e =
      seen_members parts ∙ ap (flat_map (source_members set)) e
      ∙ joined (levels ++ prototype) own
      ∙ ap (λ x. x ++ flat_map (source_members set) own) (joined levels prototype)
      ∙ ap (λ x. (x ++ flat_map (source_members set) prototype) ++ flat_map (source_members set) own) (by_levels (in_sight p))
      ∙ ap (λ x. (of_levels ++ x) ++ flat_map (source_members set) own) (by_ids false None (option_to_list c.prototype))
      ∙ ap (λ x. (of_levels ++ flat_map (members set false None) (option_to_list c.prototype)) ++ x) (append-nil (members set false top.opening top.context))
    where
      levels : List Source
      levels = flat_map level_parts (in_sight p)

      prototype : List Source
      prototype = parts_by false None (option_to_list c.prototype)

      own : List Source
      own = parts_by false top.opening (top.context ∷ [])

      of_levels : List Member
      of_levels = flat_map (λ l. flat_map (members set true l.opening) l.prototypes) (in_sight p)
