-- What a turn finds at a place in a part of the chain, and in all parts.
use Rattle.std.proofs.Common.{◌≡◌, ◌≢◌, ℕ, zero, suc, ◌+◌, ◌-◌, ◌<◌, ◌≤◌, ◌⊎◌, ◌||◌, Bool, true, false, List, [], ◌∷◌, ◌++◌, get_or, length, map, take, Option, Some, None, refl, sym, ap, subst, ◌∙◌, arith, inl, inr}
use Rattle.std.specs.Prelude.{if◌then◌else◌, is_some}
use Rattle.std.specs.List.{All, cons_option, flat_map}
use Rattle.std.specs.Option.{option_copied}
use Rattle.std.proofs.lemmas.Bool.{cases_lt}
use Rattle.std.proofs.lemmas.List.{append-nil, get_or_default, take_all}
use Rattle.std.proofs.Math.Seq.{take-length}
use Rattle.std.proofs.lemmas.List.Elements.{All-get_or}
use Rattle.syntect_reading_choice.specs.syntect_pattern.Pattern.{pattern_found}
use Rattle.syntect_reading_choice.specs.syntect_regex.Begins.{BeginsAtEdges, BeginsAtLines, NoneBeginsBefore, NoneBeginsOutside}
use Rattle.syntect_reading_choice.specs.syntect_grammar_contexts.Substitution.{Opening}
use Rattle.syntect_reading_choice.specs.syntect_grammar_contexts.declared.context.MatchPattern.{MatchPattern}
use Rattle.syntect_reading_choice.specs.syntect_grammar.Flats.{IsOpen, Tells, pattern_at}
use Rattle.syntect_reading_choice.specs.syntect_grammar.declared.syntax_set.SyntaxSet.{SyntaxSet}
use Rattle.syntect_reading_choice.specs.syntect_grammar_lists.Rows.{IsOut, behind_of}
use Rattle.syntect_reading_choice.specs.syntect_grammar_lists.Rows.{BeginIn as IsAnyOf}
use Rattle.syntect_reading_choice.specs.syntect_pattern_table.declared.starts.Places.{Places}
use Rattle.syntect_reading_choice.specs.syntect_grammar_lists.declared.flats.Flat.{Flat}
use Rattle.syntect_reading_choice.specs.syntect_grammar_lists.declared.flats.Outlook.{Outlook}
use Rattle.syntect_reading_choice.specs.syntect_pattern_table.Starts.{is_in, start_at}
use Rattle.syntect_reading_choice.specs.syntect_pattern_word_ends.Ends.{IsRunUpTo}
use Rattle.syntect_reading_choice.specs.Ahead.{AddsAll, AddsAt, AddsMember, AddsRun, AllAhead, AreAhead, AreAheadFrom, AreAheadUpTo, IsAhead, IsBestAt, IsQuiet, IsRuledOut, IsRun, Reaches, Sees, list_in, run_members}
use Rattle.syntect_reading_choice.specs.Engine.{dialect}
use Rattle.syntect_reading_choice.specs.Found.{FindsInText}
use Rattle.syntect_reading_state.specs.Losses.{LosesInPart, is_lost, marks_of}
use Rattle.syntect_reading_choice.specs.Parts.{flat_members, part_member, part_members}
use Rattle.syntect_reading_choice.specs.Best.{choice_by}
use Rattle.syntect_reading_choice.specs.Reader.{match_of, matches_of}
use Rattle.syntect_reading_choice.specs.Turn.{Live, searched_text, winner}
use Rattle.syntect_reading_choice.specs.syntect_pattern.Text.{is_boundary}
use Rattle.syntect_reading_choice.proofs.MidLaws.{mid_next}
use Rattle.syntect_reading_choice.proofs.AheadLaws.{ahead_behind, ahead_first, ahead_next, ahead_starts, best_kept, best_passed_by, no_match, out_still}
use Rattle.syntect_reading_choice.proofs.BestLaws.{best_at_end, best_wins}
use Rattle.syntect_reading_choice.proofs.PartLaws.{flats_end, flats_more, live_more}
use Rattle.syntect_reading_choice.specs.declared.chain.Part.{Part}
use Rattle.syntect_reading_choice.specs.declared.reader.LineReader.{LineReader}
use Rattle.syntect_reading_choice.specs.declared.search.Best.{Best}
use Rattle.syntect_reading_choice.specs.declared.search.Candidate.{Candidate}
use Rattle.syntect_reading_choice.specs.declared.sweep.Reach.{Reach}
use Rattle.syntect_reading_choice.specs.declared.runs.Run.{Run}

-- a run goes on with another one that begins at its end
pub run_on : (line : List ℕ) (blank : Bool) (i j e : ℕ) → IsRunUpTo blank line i j → IsRunUpTo blank line j e → IsRunUpTo blank line i e
run_on line blank i j e a b = record {
  order = omega (arith, a.order, b.order);
  within = b.within;
  chars = λ k l m. elim (cases_lt k j) [
    | inl n ↦ a.chars k l n
    | inr n ↦ b.chars k n m
  ];
}

-- what is known of a run is known of its later places
pub reaches_on : (line : List ℕ) (i j : ℕ) (r : Reach) → i ≤ j → Reaches line i r → Reaches line j r
reaches_on line i j r l h m =
    let known : (IsRunUpTo r.blank line i r.end) × (r.behind ≡ start_at line r.end) × (r.behind < 130) = h (omega (arith, l, m)) in
    (record { order = omega (arith, m); within = known.0.within; chars = λ k a b. known.0.chars k (omega (arith, l, a)) b }, known.1, known.2)

-- what is seen of a place rules patterns out
pub ruled_out : (o : Outlook) (line : List ℕ) (i : ℕ) (flat : Flat) → Sees o line i → IsOut o flat → IsRuledOut line i flat
ruled_out o line i flat s (inl e) = inl (sym (ap (is_in flat.begins) s.here) ∙ e)
ruled_out o line i flat s (inr (inl e)) = inr (inl (record { blank = o.blank; end = s.end; run = s.run; out = sym (ap (is_in (behind_of o.blank flat)) s.behind) ∙ e }))
ruled_out o line i flat s (inr (inr (inl p))) = inr (inr (inl (p.1, s.edges p.0)))
ruled_out o line i flat s (inr (inr (inr p))) = inr (inr (inr (p.1, s.lines p.0)))

module _ (finds : FindsInText dialect) (reader : LineReader) (i : ℕ) (run : Run) where
  abbrev flats : List Flat
  flats = list_in run.flats

  abbrev found_in : List Flat → List Live
  found_in fs = matches_of reader (flat_members reader.set.now run.part fs)

  -- with this pattern more a best stays the best
  abbrev Stays : Best → Flat → Type 0
  Stays b f = (xs : List Live) → IsBestAt reader i xs b → IsBestAt reader i (xs ++ found_in (f ∷ [])) b

  -- ---- one pattern ----

  stays_by : (b : Best) (f : Flat) (o : Option MatchPattern) → pattern_at reader.set.now f ≡ o
      → ((m : MatchPattern) → o ≡ Some m → (xs : List Live) → IsBestAt reader i xs b → IsBestAt reader i (xs ++ cons_option (match_of reader (part_member run.part m)) []) b)
      → Stays b f
  stays_by b f None e h xs k = rw e (subst (λ l. IsBestAt reader i l b) (sym (append-nil xs)) k)
  stays_by b f (Some m) e h xs k = rw e (h m refl xs k)

  -- one that is ahead, where a best is found already
  kept : (b : Best) (c : Candidate) (f : Flat) (lost : Bool) → b.candidate ≡ Some c → ((m : MatchPattern) → pattern_at reader.set.now f ≡ Some m → IsAhead reader lost i (part_member run.part m)) → Stays b f
  kept b c f lost e h = stays_by b f (pattern_at reader.set.now f) refl (λ m g xs k. best_kept reader i b xs c _ k e (ahead_starts reader (part_member run.part m) finds lost i (h m g)))

  -- one that is ahead of this place too
  passed : (b : Best) (f : Flat) (lost : Bool) → ((m : MatchPattern) → pattern_at reader.set.now f ≡ Some m → IsAhead reader lost (i + 1) (part_member run.part m)) → Stays b f
  passed b f lost h = stays_by b f (pattern_at reader.set.now f) refl (λ m g xs k. best_passed_by reader i b xs _ k (ahead_behind reader (part_member run.part m) finds lost i (h m g)))

  -- ---- patterns one after another ----

  one_more : (b : Best) (ms : List Live) (fs : List Flat) (j : ℕ) (d : Flat) → j < length fs → IsBestAt reader i ((ms ++ found_in (take j fs)) ++ found_in (get_or fs j d ∷ [])) b
      → IsBestAt reader i (ms ++ found_in (take (j + 1) fs)) b
  one_more b ms fs j d l h = subst (λ xs. IsBestAt reader i xs b) (flats_more finds reader.set.now reader.line.now reader.text reader.position.now run.part ms fs j d l) h

  past : (fs : List Flat) (j k : ℕ) → length fs ≤ j → length fs ≤ k → take j fs ≡ take k fs
  past fs j k l m = take_all j fs l ∙ sym (take_all k fs m)

  pub more : (b : Best) (ms : List Live) (fs : List Flat) (j n : ℕ) → IsBestAt reader i (ms ++ found_in (take j fs)) b
      → ((k : ℕ) (d : Flat) → j ≤ k → k < j + n → k < length fs → Stays b (get_or fs k d)) → IsBestAt reader i (ms ++ found_in (take (j + n) fs)) b
  more b ms fs j zero h f = let e : j ≡ j + 0 = omega arith in subst (λ k. IsBestAt reader i (ms ++ found_in (take k fs)) b) e h
  more b ms fs j (suc n) h f =
      let before : IsBestAt reader i (ms ++ found_in (take (j + n) fs)) b = more b ms fs j n h (λ k d l m q. f k d l (omega (arith, m)) q) in
      let e : j + n + 1 ≡ j + suc n = omega arith in
      elim (cases_lt (j + n) (length fs)) [
        | inl l ↦ subst (λ k. IsBestAt reader i (ms ++ found_in (take k fs)) b) e (by fs refl l before)
        | inr l ↦ subst (λ xs. IsBestAt reader i (ms ++ found_in xs) b) (past fs (j + n) (j + suc n) l (omega (arith, l))) before
      ]
    where
      by : (xs : List Flat) → fs ≡ xs → j + n < length fs → IsBestAt reader i (ms ++ found_in (take (j + n) fs)) b → IsBestAt reader i (ms ++ found_in (take (j + n + 1) fs)) b
      by [] s l k = absurd (omega (arith, l, ap length s))
      by (x ∷ xs) s l k = one_more b ms fs (j + n) x l (f (j + n) x (omega arith) (omega arith) l _ k)

  pub up_to : (b : Best) (ms : List Live) (fs : List Flat) (j k : ℕ) → j ≤ k → IsBestAt reader i (ms ++ found_in (take j fs)) b
      → ((q : ℕ) (d : Flat) → j ≤ q → q < k → q < length fs → Stays b (get_or fs q d)) → IsBestAt reader i (ms ++ found_in (take k fs)) b
  up_to b ms fs j k l h f =
      let e : j + (k - j) ≡ k = omega arith in
      subst (λ n. IsBestAt reader i (ms ++ found_in (take n fs)) b) e (more b ms fs j (k - j) h (λ q d a c z. f q d a (omega (arith, c)) z))

  -- ---- patterns that can't begin with what stands here ----

  module _ (r : IsRun reader.set.now run) where
    -- the text that is searched is the pattern's own, where that has no back references
    own_text : (m : MatchPattern) → m.has_captures ≡ false → m.regex ≡ searched_text dialect m (option_copied run.part.opening)
    own_text m e = by (option_copied run.part.opening)
      where
        by : (o : Option Opening) → m.regex ≡ searched_text dialect m o
        by None = refl
        by (Some o) = ap (λ (b : Bool). if b then dialect.substituted m.regex o.region o.line else m.regex) (sym e)

    never : (b : Bool) → b ≡ true → b ≡ false → ⊥
    never b e f = let k : true ≡ false = sym e ∙ f in cc

    -- a pattern that is ruled out has no back references
    no_captures : (flat : Flat) → (flat.has_captures ≡ true → IsOpen flat) → IsRuledOut reader.line.now i flat → flat.has_captures ≡ false
    no_captures flat told out = by flat.has_captures refl
      where
        ruled : IsOpen flat → IsRuledOut reader.line.now i flat → ⊥
        ruled o (inl e) = never (is_in flat.begins (start_at reader.line.now i)) (o.begins (start_at reader.line.now i)) e
        ruled o (inr (inl cut)) = at_end cut.blank cut.out
          where
            at_end : (blank : Bool) → is_in (behind_of blank flat) (start_at reader.line.now cut.end) ≡ false → ⊥
            at_end false e = never (is_in flat.words (start_at reader.line.now cut.end)) (o.words (start_at reader.line.now cut.end)) e
            at_end true e = never (is_in flat.blanks (start_at reader.line.now cut.end)) (o.blanks (start_at reader.line.now cut.end)) e
        ruled o (inr (inr (inl off))) = never flat.at_edges off.0 o.edges
        ruled o (inr (inr (inr off))) = never flat.at_lines off.0 o.lines

        by : (b : Bool) → flat.has_captures ≡ b → flat.has_captures ≡ false
        by false e = e
        by true e = absurd (ruled (told e) out)

    none_here : (flat : Flat) (pattern : List ℕ) → NoneBeginsOutside flat.begins pattern × NoneBeginsBefore false flat.words pattern × NoneBeginsBefore true flat.blanks pattern × (flat.at_edges ≡ true → BeginsAtEdges pattern) × (flat.at_lines ≡ true → BeginsAtLines pattern) → IsRuledOut reader.line.now i flat
        → pattern_found pattern reader.line.now i ≡ pattern_found pattern reader.line.now (i + 1)
    none_here flat pattern h (inl out) = h.0 reader.line.now reader.text i out
    none_here flat pattern h (inr (inl cut)) = by cut.blank cut.run cut.out
      where
        by : (blank : Bool) → IsRunUpTo blank reader.line.now i cut.end → is_in (behind_of blank flat) (start_at reader.line.now cut.end) ≡ false
            → pattern_found pattern reader.line.now i ≡ pattern_found pattern reader.line.now (i + 1)
        by false run out = h.1 reader.line.now reader.text i cut.end run out
        by true run out = h.2 reader.line.now reader.text i cut.end run out
    none_here flat pattern h (inr (inr (inl off))) = h.3 off.0 reader.line.now i off.1
    none_here flat pattern h (inr (inr (inr off))) = h.4 off.0 reader.line.now i off.1

    pub passes : (lost : Bool) (k : ℕ) (d : Flat) → k < length flats → IsRuledOut reader.line.now i (get_or flats k d)
        → ((m : MatchPattern) → pattern_at reader.set.now (get_or flats k d) ≡ Some m → IsAhead reader lost i (part_member run.part m))
        → (m : MatchPattern) → pattern_at reader.set.now (get_or flats k d) ≡ Some m → IsAhead reader lost (i + 1) (part_member run.part m)
    passes lost k d l out a m e =
        let told : Tells reader.set.now (get_or flats k d) = All-get_or (Tells reader.set.now) flats k d l r.flats.tells in
        let begins : (((get_or flats k d).has_captures ≡ m.has_captures)) × NoneBeginsOutside (get_or flats k d).begins m.regex × NoneBeginsBefore false (get_or flats k d).words m.regex × NoneBeginsBefore true (get_or flats k d).blanks m.regex × ((get_or flats k d).at_edges ≡ true → BeginsAtEdges m.regex) × ((get_or flats k d).at_lines ≡ true → BeginsAtLines m.regex)
        × ((get_or flats k d).has_captures ≡ true → IsOpen (get_or flats k d)) = rw e at told in
        let same : m.regex ≡ searched_text dialect m (option_copied run.part.opening) = own_text m (sym begins.0 ∙ no_captures (get_or flats k d) begins.6 out) in
        ahead_next reader (part_member run.part m) lost i (a m e) (rw same at (none_here (get_or flats k d) m.regex (begins.1, begins.2, begins.3, begins.4, begins.5) out))

    -- those between two indexes that can't begin here change nothing,
    pub skipped : (marks : List Bool) (b : Best) (ms : List Live) (j k : ℕ) → j ≤ k
        → ((q : ℕ) (d : Flat) → j ≤ q → q < k → q < length flats → IsRuledOut reader.line.now i (get_or flats q d)) → AreAheadFrom reader marks i run j
        → IsBestAt reader i (ms ++ found_in (take j flats)) b → IsBestAt reader i (ms ++ found_in (take k flats)) b
    skipped marks b ms j k l out ahead h =
        up_to b ms flats j k l h (λ q d a c z. passed b (get_or flats q d) (is_lost marks q) (passes (is_lost marks q) q d z (out q d a c z) (λ m e. ahead q d m a z e)))

    -- and are ahead of this place too
    pub skipped_ahead : (marks : List Bool) (j k : ℕ)
        → ((q : ℕ) (d : Flat) → j ≤ q → q < k → q < length flats → IsRuledOut reader.line.now i (get_or flats q d)) → AreAheadFrom reader marks i run j
        → AreAheadUpTo reader marks (i + 1) run j → AreAheadUpTo reader marks (i + 1) run k
    skipped_ahead marks j k out ahead before q d m l z e = elim (cases_lt q j) [
      | inl a ↦ before q d m a z e
      | inr a ↦ passes (is_lost marks q) q d z (out q d a l z) (λ n f. ahead q d n a z f) m e
    ]

    -- the same of those before an index
    pub begun : (marks : List Bool) (b : Best) (ms : List Live) (k : ℕ)
        → ((q : ℕ) (d : Flat) → 0 ≤ q → q < k → q < length flats → IsRuledOut reader.line.now i (get_or flats q d)) → AreAhead reader marks i run
        → IsBestAt reader i ms b → IsBestAt reader i (ms ++ found_in (take k flats)) b
    begun marks b ms k out ahead h = skipped marks b ms 0 k (omega arith) out ahead (subst (λ xs. IsBestAt reader i xs b) (sym (append-nil ms)) h)

    pub begun_ahead : (marks : List Bool) (k : ℕ)
        → ((q : ℕ) (d : Flat) → 0 ≤ q → q < k → q < length flats → IsRuledOut reader.line.now i (get_or flats q d)) → AreAhead reader marks i run
        → AreAheadUpTo reader marks (i + 1) run k
    begun_ahead marks k out ahead = skipped_ahead marks 0 k out ahead (λ q d m l. absurd (omega (arith, l)))

  -- ---- the pattern at an index ----

  pub stepped : (marks : List Bool) (b : Best) (ms : List Live) (index : ℕ) → index < length flats → AddsAt reader i marks run index (ms ++ found_in (take index flats)) b
      → IsBestAt reader i (ms ++ found_in (take (index + 1) flats)) b
  stepped marks b ms index l added = by flats refl l
    where
      by : (xs : List Flat) → flats ≡ xs → index < length flats → IsBestAt reader i (ms ++ found_in (take (index + 1) flats)) b
      by [] s l = absurd (omega (arith, l, ap length s))
      by (x ∷ xs) s l = one_more b ms flats index x l (added.best x)

  pub stepped_ahead : (marks : List Bool) (b : Best) (ms : List Live) (index : ℕ) → AddsAt reader i marks run index ms b → b.is_match ≡ false
      → AreAheadUpTo reader marks (i + 1) run index → AreAheadUpTo reader marks (i + 1) run (index + 1)
  stepped_ahead marks b ms index added is before k d m l z e = elim (cases_lt k index) [
    | inl a ↦ before k d m a z e
    | inr a ↦
        (let same : k ≡ index = omega (arith, a, l) in
        subst (λ (j : ℕ). IsAhead reader (is_lost marks j) (i + 1) (part_member run.part m)) (sym same) (added.ahead d m is (sym (ap (λ j. pattern_at reader.set.now (get_or flats j d)) same) ∙ e)))
  ]

  -- what was ahead stays so where of each pattern the same is known
  pub still_from : (old new : List Bool) (from : ℕ) → ((k : ℕ) → from ≤ k → is_lost new k ≡ is_lost old k) → AreAhead reader old i run → AreAheadFrom reader new i run from
  still_from old new from h a k d m l z e = subst (λ (t : Bool). IsAhead reader t i (part_member run.part m)) (sym (h k l)) (a k d m (omega arith) z e)

  pub still_up_to : (old new : List Bool) (at to : ℕ) → ((k : ℕ) → k ≢ to → is_lost new k ≡ is_lost old k) → AreAheadUpTo reader old at run to → AreAheadUpTo reader new at run to
  still_up_to old new at to h a k d m l z e =
      let other : k ≢ to = omega (arith, l) in
      subst (λ (t : Bool). IsAhead reader t at (part_member run.part m)) (sym (h k other)) (a k d m l z e)

  -- what is known of those after an index stays where one at that index is out,
  pub known_behind : (old now new : List Bool) (index next : ℕ) → index + 1 ≤ next → ((k : ℕ) → index ≤ k → is_lost now k ≡ is_lost old k) → ((k : ℕ) → k ≢ index → is_lost new k ≡ is_lost now k)
      → (k : ℕ) → next ≤ k → is_lost new k ≡ is_lost old k
  known_behind old now new index next n h g k l =
      let other : k ≢ index = omega (arith, l, n) in
      g k other ∙ h k (omega (arith, l, n))

  -- a pattern that is out, or none at all, changes nothing
  pub adds_nothing : (marks : List Bool) (b : Best) (ms : List Live) (index : ℕ) → ((d : Flat) (m : MatchPattern) → pattern_at reader.set.now (get_or flats index d) ≡ Some m → IsAhead reader (is_lost marks index) (i + 1) (part_member run.part m))
      → IsBestAt reader i ms b → AddsAt reader i marks run index ms b
  adds_nothing marks b ms index h k = record {
    best = λ d. passed b (get_or flats index d) (is_lost marks index) (h d) ms k;
    ahead = λ d m _ e. h d m e;
  }

  pub adds_out : (marks : List Bool) (b : Best) (ms : List Live) (index : ℕ) → index < length flats → is_lost marks index ≡ true → AreAheadFrom reader marks i run index → IsBestAt reader i ms b → AddsAt reader i marks run index ms b
  adds_out marks b ms index l e a = adds_nothing marks b ms index (λ d m f. out_still reader (part_member run.part m) (is_lost marks index) i (i + 1) e (a index d m (omega arith) l f))

  -- what is found with a pattern's member is found with the pattern
  pub adds_member : (marks : List Bool) (lost : Bool) (b : Best) (ms : List Live) (index : ℕ) (m : MatchPattern) → is_lost marks index ≡ lost → ((d : Flat) → pattern_at reader.set.now (get_or flats index d) ≡ Some m)
      → AddsMember reader i lost (part_member run.part m) ms b → AddsAt reader i marks run index ms b
  adds_member marks lost b ms index m e at added = record {
    best = λ d. rw (at d) added.best;
    ahead = λ d n is f.
        (let q : Some m ≡ Some n = sym (at d) ∙ f in
        subst (λ (x : MatchPattern). IsAhead reader (is_lost marks index) (i + 1) (part_member run.part x)) (some_same m n q)
        (subst (λ (t : Bool). IsAhead reader t (i + 1) (part_member run.part m)) (sym e) (added.ahead is)));
  }
    where
      some_same : (x y : MatchPattern) → Some x ≡ Some y → x ≡ y
      some_same x y q = cc

  -- ---- all patterns of a part ----

  module _ (r : IsRun reader.set.now run) (marks : List Bool) (b : Best) (ms : List Live) (index : ℕ) where
    ended : IsBestAt reader i (ms ++ found_in flats) b → IsBestAt reader i (ms ++ matches_of reader (part_members reader.set.now run.part)) b
    ended h = record { best = flats_end finds reader.set.now reader.line.now reader.text reader.position.now run.part i b ms flats r.flats.finds h.best; here = h.here }

    -- the list was gone through, or one is found and all others begin no earlier
    pub run_done : IsBestAt reader i (ms ++ found_in (take index flats)) b → (length flats ≤ index) ⊎ ((c : Candidate) × (b.candidate ≡ Some c))
        → AreAheadFrom reader marks i run index → IsBestAt reader i (ms ++ matches_of reader (part_members reader.set.now run.part)) b
    run_done h (inl l) a = ended (subst (λ xs. IsBestAt reader i (ms ++ found_in xs) b) (take_all index flats l) h)
    run_done h (inr c) a = elim (cases_lt index (length flats)) [
      | inl l ↦ ended (subst (λ xs. IsBestAt reader i (ms ++ found_in xs) b) (take-length flats)
          (up_to b ms flats index (length flats) (omega (arith, l)) h (λ q d j k z. kept b c.0 (get_or flats q d) (is_lost marks q) c.1 (λ m e. a q d m j z e))))
      | inr l ↦ ended (subst (λ xs. IsBestAt reader i (ms ++ found_in xs) b) (take_all index flats l) h)
    ]

    pub run_ended : IsBestAt reader i (ms ++ found_in (take index flats)) b → (b.is_match ≡ false → AreAheadUpTo reader marks (i + 1) run index)
        → (length flats ≤ index) ⊎ ((c : Candidate) × (b.candidate ≡ Some c)) → AreAheadFrom reader marks i run index → AddsRun reader i marks run ms b
    run_ended h ahead o a = record { best = run_done h o a; ahead = by o }
      where
        by : (length flats ≤ index) ⊎ ((c : Candidate) × (b.candidate ≡ Some c)) → b.is_match ≡ false → AreAhead reader marks (i + 1) run
        by (inl l) is k d m z w e = ahead is k d m (omega (arith, l, w)) w e
        by (inr c) is k d m z w e = absurd (no_match reader i b (ms ++ found_in (take index flats)) c.0 h.best c.1 is)

pub none_held : (o : Option Candidate) → is_some o ≡ false → o ≡ None
none_held None e = refl
none_held (Some c) e = cc

pub one_held : (o : Option Candidate) → is_some o ≡ true → (c : Candidate) × (o ≡ Some c)
one_held None e = cc
one_held (Some c) e = (c, refl)

-- ---- all parts of a chain ----

module _ (reader : LineReader) (i : ℕ) where
  -- the first parts are ahead of a place
  abbrev pub AheadUpTo : List (List Bool) → ℕ → List Run → ℕ → Type 0
  AheadUpTo losses at runs to = (k : ℕ) (r : Run) → k < to → k < length runs → AreAhead reader (marks_of losses k) at (get_or runs k r)

  pub runs_more : (marks : List Bool) (b : Best) (runs : List Run) (j : ℕ) (x : Run) → j < length runs → x ≡ get_or runs j x → AddsRun reader i marks x (matches_of reader (flat_map (run_members reader.set.now) (take j runs))) b
      → IsBestAt reader i (matches_of reader (flat_map (run_members reader.set.now) (take (j + 1) runs))) b
  runs_more marks b runs j x l e added = subst (λ xs. IsBestAt reader i xs b) (live_more reader.line.now reader.position.now (run_members reader.set.now) runs j x l e) added.best

  pub runs_ahead : (old new : List (List Bool)) (b : Best) (ms : List Live) (runs : List Run) (j : ℕ) (x : Run) → j < length runs → x ≡ get_or runs j x → LosesInPart j old new → AddsRun reader i (marks_of new j) x ms b → b.is_match ≡ false
      → AheadUpTo old (i + 1) runs j → AheadUpTo new (i + 1) runs (j + 1)
  runs_ahead old new b ms runs j x l e h added is before k r n z = elim (cases_lt k j) [
    | inl a ↦
        (let other : k ≢ j = omega (arith, a) in
        subst (λ (t : List Bool). AreAhead reader t (i + 1) (get_or runs k r)) (sym (h k other)) (before k r a z))
    | inr a ↦
        (let same : k ≡ j = omega (arith, a, n) in
        let here : get_or runs k r ≡ x = ap (λ y. get_or runs y r) same ∙ get_or_default runs j r x l ∙ sym e in
        subst (λ (y : Run). AreAhead reader (marks_of new k) (i + 1) y) (sym here) (subst (λ (q : ℕ). AreAhead reader (marks_of new q) (i + 1) x) (sym same) (added.ahead is)))
  ]

  pub one_ahead : (old now : List (List Bool)) (runs : List Run) (j : ℕ) (x : Run) → j < length runs → x ≡ get_or runs j x → ((k : ℕ) → j ≤ k → marks_of now k ≡ marks_of old k) → AllAhead reader old i runs → AreAhead reader (marks_of now j) i x
  one_ahead old now runs j x l e h a =
      subst (λ (t : List Bool). AreAhead reader t i x) (sym (h j (omega arith))) (subst (λ (y : Run). AreAhead reader (marks_of old j) i y) (sym e) (a j x l))

  -- the marks of later parts stay
  pub marks_behind : (old now new : List (List Bool)) (j : ℕ) → ((k : ℕ) → j ≤ k → marks_of now k ≡ marks_of old k) → LosesInPart j now new → (k : ℕ) → j + 1 ≤ k → marks_of new k ≡ marks_of old k
  marks_behind old now new j h g k l =
      let other : k ≢ j = omega (arith, l) in
      g k other ∙ h k (omega (arith, l))

  pub runs_end : (losses : List (List Bool)) (b : Best) (runs : List Run) (j : ℕ) → length runs ≤ j → IsBestAt reader i (matches_of reader (flat_map (run_members reader.set.now) (take j runs))) b
      → (b.is_match ≡ false → AheadUpTo losses (i + 1) runs j) → AddsAll reader i losses runs b
  runs_end losses b runs j l h a = record {
    best = subst (λ rs. IsBestAt reader i (matches_of reader (flat_map (run_members reader.set.now) rs)) b) (take_all j runs l) h;
    ahead = λ is k r z. a is k r (omega (arith, z, l)) z;
  }

-- nothing is found before the first part is gone through
pub none_yet : (reader : LineReader) (i : ℕ) (b : Best) → reader.position.now.place ≤ i → b.start ≡ i + 1 → b.is_match ≡ false → b.candidate ≡ None → IsBestAt reader i [] b
none_yet reader i b l s is n = record {
  best = record {
    least = refl;
    first = λ f. absurd (let e : true ≡ false = sym f ∙ is in cc);
    none = λ _. (omega (arith, s), n);
    near = λ f. absurd (let e : true ≡ false = sym f ∙ is in cc);
    bound = omega (arith, s);
    from = omega (arith, l, s);
  };
  here = λ f. absurd (let e : true ≡ false = sym f ∙ is in cc);
}

-- the members of the parts with their patterns are those of the parts
pub runs_members : (set : SyntaxSet) (runs : List Run) (parts : List Part) → map (λ r. r.part) runs ≡ parts → flat_map (run_members set) runs ≡ flat_map (part_members set) parts
runs_members set runs parts e = by runs ∙ ap (flat_map (part_members set)) e
  where
    by : (rs : List Run) → flat_map (run_members set) rs ≡ flat_map (part_members set) (map (λ r. r.part) rs)
    by [] = refl
    by (r ∷ rs) = ap (λ l. part_members set r.part ++ l) (by rs)

pub all_first : (reader : LineReader) (losses : List (List Bool)) (runs : List Run) → losses ≡ [] → AllAhead reader losses reader.position.now.place runs
all_first reader losses runs e k r z q d m f w g = ahead_first reader (part_member (get_or runs k r).part m) (is_lost (marks_of losses k) q) (ap (λ (l : List (List Bool)). is_lost (marks_of l k) q) e)

-- ---- places where nothing can begin ----

none-left : (a b : Bool) → (a || b) ≡ false → a ≡ false
none-left true b e = cc
none-left false b e = refl

none-right : (a b : Bool) → (a || b) ≡ false → b ≡ false
none-right true b e = cc
none-right false b e = e

-- what the patterns of one part more begin with
pub begin_more : (begins any both : Places) (runs : List Run) (j : ℕ) (run : Run) → run ≡ get_or runs j run → IsAnyOf any (list_in run.flats)
    → ((x : ℕ) → is_in both x ≡ (is_in begins x || is_in any x))
    → ((x k : ℕ) (r : Run) → x < 130 → is_in begins x ≡ false → k < j → k < length runs → IsQuiet x (get_or runs k r))
    → (x k : ℕ) (r : Run) → x < 130 → is_in both x ≡ false → k < j + 1 → k < length runs → IsQuiet x (get_or runs k r)
begin_more begins any both runs j run here any-of is before x k r l e m n = elim (cases_lt k j) [
  | inl a ↦ before x k r l (none-left (is_in begins x) (is_in any x) (sym (is x) ∙ e)) a n
  | inr a ↦
      (let same : k ≡ j = omega (arith, a, m) in
      let at : get_or runs k r ≡ run = ap (λ y. get_or runs y r) same ∙ get_or_default runs j r run (omega (arith, n, same)) ∙ sym here in
      let quiet : IsQuiet x run = λ q d z. any-of x q d l z (none-right (is_in begins x) (is_in any x) (sym (is x) ∙ e)) in
      subst (IsQuiet x) (sym at) quiet)
]

module _ (finds : FindsInText dialect) (reader : LineReader) (runs : List Run) (all : All (IsRun reader.set.now) runs) (losses : List (List Bool)) where
  pub passed_place : (i : ℕ) → All (IsQuiet (start_at reader.line.now i)) runs → AllAhead reader losses i runs → AllAhead reader losses (i + 1) runs
  passed_place i quiet ahead k r l q d m z w e =
      let run : Run = get_or runs k r in
      begun_ahead finds reader i run (all k r l) (marks_of losses k) (length (list_in run.flats)) (λ j f _ n _. inl (quiet k r l j f n)) (ahead k r l) q d m w w e

  -- nor does anything begin within a character
  pub passed_mid : (i : ℕ) → is_boundary reader.line.now i ≡ false → AllAhead reader losses i runs → AllAhead reader losses (i + 1) runs
  passed_mid i mid ahead k r l q d m z w e =
      ahead_next reader (part_member (get_or runs k r).part m) (is_lost (marks_of losses k) q) i (ahead k r l q d m z w e)
      (mid_next (searched_text dialect m (option_copied (get_or runs k r).part.opening)) reader.line.now i mid)

-- ---- the winner of the chain ----

module _ (reader : LineReader) (i : ℕ) (losses : List (List Bool)) (runs : List Run) (b : Best) where
  -- where one begins at this place, it wins,
  pub chain_won : AddsAll reader i losses runs b → b.is_match ≡ true
      → choice_by reader.line.now reader.position.now.place b ≡ winner reader.line.now reader.position.now (matches_of reader (flat_map (run_members reader.set.now) runs))
  chain_won added is = best_wins reader.line.now reader.position.now i b (matches_of reader (flat_map (run_members reader.set.now) runs)) added.best.best is

  -- and at the line's end there is none
  pub chain_ended : FindsInText dialect → length reader.line.now ≤ i → AddsAll reader i losses runs b → b.is_match ≡ false
      → choice_by reader.line.now reader.position.now.place b ≡ winner reader.line.now reader.position.now (matches_of reader (flat_map (run_members reader.set.now) runs))
  chain_ended finds l added is = best_at_end finds reader.line.now reader.text reader.position.now (flat_map (run_members reader.set.now) runs) i b l added.best.best is
