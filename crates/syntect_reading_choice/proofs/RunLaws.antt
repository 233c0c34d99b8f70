-- The patterns of a part in the form that they are searched in.
use Rattle.std.proofs.Common.{◌≡◌, ℕ, zero, suc, ◌+◌, ◌<◌, List, [], ◌∷◌, ◌++◌, drop, get_or, length, map, Option, Some, None, refl, sym, ap, subst, ◌∙◌, arith, inl, inr}
use Rattle.std.proofs.Math.ListN.{get_or-append}
use Rattle.std.proofs.Math.Seq.{get_or-append_seam}
use Rattle.std.proofs.lemmas.Bool.{cases_lt}
use Rattle.std.specs.Prelude.{unwrap_or}
use Rattle.std.specs.Option.{option_copied}
use Rattle.syntect_reading_choice.specs.syntect_grammar_contexts.declared.context.MatchPattern.{MatchPattern}
use Rattle.syntect_reading_choice.specs.syntect_grammar.Flats.{pattern_at}
use Rattle.syntect_reading_choice.specs.syntect_grammar.declared.syntax_set.SyntaxSet.{SyntaxSet}
use Rattle.syntect_reading_choice.specs.syntect_grammar_lists.declared.flats.Flat.{Flat}
use Rattle.syntect_reading_choice.specs.Ahead.{IsRun}
use Rattle.syntect_reading_choice.specs.Engine.{dialect}
use Rattle.syntect_reading_choice.specs.Turn.{searched_text}
use Rattle.syntect_reading_choice.specs.declared.chain.Part.{Part}
use Rattle.syntect_reading_choice.specs.declared.runs.Run.{Run}
use Rattle.syntect_reading_choice.proofs.ListLaws.{drop_at}

module _ (set : SyntaxSet) (part : Part) where
  -- the first patterns are searched so
  abbrev pub Replaced : List Flat → ℕ → List (Option (List ℕ)) → Type 0
  Replaced flats to replaced = (k : ℕ) (d : Flat) (m : MatchPattern) → k < to → k < length flats → pattern_at set (get_or flats k d) ≡ Some m
      → unwrap_or (get_or replaced k None) m.regex ≡ searched_text dialect m (option_copied part.opening)

  -- with what stands in place of one more
  pub replaced_more : (flats : List Flat) (i : ℕ) (old new : List (Option (List ℕ))) (r : Option (List ℕ)) → length old ≡ i → new ≡ old ++ r ∷ []
      → ((d : Flat) (m : MatchPattern) → pattern_at set (get_or flats i d) ≡ Some m → unwrap_or r m.regex ≡ searched_text dialect m (option_copied part.opening)) → Replaced flats i old → Replaced flats (i + 1) new
  replaced_more flats i old new r count e here before k d m t inside at = elim (cases_lt k i) [
    | inl b ↦
        ap (λ (o : Option (List ℕ)). unwrap_or o m.regex) (ap (λ rs. get_or rs k None) e ∙ get_or-append old (r ∷ []) None k (omega (arith, count, b)))
        ∙ before k d m b inside at
    | inr b ↦
        (let same : k ≡ i = omega (arith, t, b) in
        ap (λ (o : Option (List ℕ)). unwrap_or o m.regex)
        (ap (λ rs. get_or rs k None) e ∙ ap (λ q. get_or (old ++ r ∷ []) q None) (same ∙ sym count) ∙ get_or-append_seam old r [] None)
        ∙ here d m (ap (pattern_at set) (ap (λ q. get_or flats q d) (sym same)) ∙ at))
  ]

-- ---- the parts of runs ----

snoc : {X : Type 0} (xs : List X) (x : X) (ys : List X) → (xs ++ x ∷ []) ++ ys ≡ xs ++ x ∷ ys
snoc [] x ys = refl
snoc (z ∷ xs) x ys = ap (λ l. z ∷ l) (snoc xs x ys)

parts_pushed : (rs : List Run) (r : Run) → map (λ s. s.part) (rs ++ r ∷ []) ≡ map (λ s. s.part) rs ++ r.part ∷ []
parts_pushed [] r = refl
parts_pushed (s ∷ rs) r = ap (λ l. s.part ∷ l) (parts_pushed rs r)

pub run_pushed : (rs new : List Run) (r : Run) (parts : List Part) (i : ℕ) (x : Part) → new ≡ rs ++ r ∷ [] → r.part ≡ x → i < length parts → x ≡ get_or parts i x
    → map (λ s. s.part) rs ++ drop i parts ≡ parts → map (λ s. s.part) new ++ drop (i + 1) parts ≡ parts
run_pushed rs new r parts i x e f l is h =
    ap (λ l. map (λ s. s.part) l ++ drop (i + 1) parts) e
    ∙ ap (λ l. l ++ drop (i + 1) parts) (parts_pushed rs r)
    ∙ snoc (map (λ s. s.part) rs) r.part (drop (i + 1) parts)
    ∙ ap (λ y. map (λ s. s.part) rs ++ y ∷ drop (i + 1) parts) f
    ∙ ap (λ l. map (λ s. s.part) rs ++ l) (sym (drop_at parts i x l is))
    ∙ h

pub runs_pushed : (set : SyntaxSet) (rs new : List Run) (r : Run) → new ≡ rs ++ r ∷ [] → ((k : ℕ) (d : Run) → k < length rs → IsRun set (get_or rs k d)) → IsRun set r
    → (k : ℕ) (d : Run) → k < length new → IsRun set (get_or new k d)
runs_pushed set rs new r e all one k d l = subst (λ xs. IsRun set (get_or xs k d)) (sym e) (by rs k all (rw e at l))
  where
    by : (xs : List Run) (j : ℕ) → ((q : ℕ) (c : Run) → q < length xs → IsRun set (get_or xs q c)) → j < length (xs ++ r ∷ []) → IsRun set (get_or (xs ++ r ∷ []) j d)
    by [] zero h m = one
    by [] (suc j) h m = absurd (omega (arith, m))
    by (x ∷ xs) zero h m = h 0 d (omega arith)
    by (x ∷ xs) (suc j) h m = by xs j (λ q c n. h (suc q) c (omega (arith, n))) (omega (arith, m))
