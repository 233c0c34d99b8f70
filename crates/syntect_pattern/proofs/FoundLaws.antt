-- What a search finds: the groups outside lookarounds are nested or disjoint and lie in the match.
use Rattle.std.proofs.Common.{◌≡◌, ℕ, zero, suc, ◌-◌, ◌≤◌, ◌⊎◌, List, [], ◌∷◌, length, map, Bool, true, false, not, ◌&&◌, ◌||◌, Option, Some, None, replicate, refl, ap, sym, subst, ◌∙◌, arith, inl, inr, ⊎_elim}
use Rattle.std.specs.Prelude.{◌==◌, slice_get, slice_set, option_map, if◌then◌else◌, IsUtf8, IsCharBoundary}
use Rattle.std.specs.Option.{option_or}
use Rattle.syntect_pattern.specs.Text.{is_boundary}
use Rattle.syntect_pattern.specs.Trees.{Tree, nothing, one_of, anchor, same, seq, alt, repeat, group, atomic, ahead, behind, in_look, has_group, group_in_look, group_count}
use Rattle.syntect_pattern.specs.Matches.{Groups, Member, close, matches, unset, found_at, found_within, found}
use Rattle.syntect_pattern.specs.Nesting.{Span, AreNested, is_around, is_inside, IsSet, LiesIn, IsLaidOut, looks_fail, outside, IsMatch, FindsMatches}
use Rattle.syntect_pattern.proofs.Each.{Each}
use Rattle.syntect_pattern.proofs.TextLemmas.{some_same, boundary-true}
use Rattle.syntect_pattern.proofs.MatchLaws.{Step, IsClosed, steps-matches}
use Rattle.syntect_pattern.proofs.NestingLaws.{Fine, Grows, Arrives, matches-nested, matches-lie}

or_left : (a b : Bool) → a ≡ true → (a || b) ≡ true
or_left true b e = refl
or_left false b e = cc

or_right : (a b : Bool) → b ≡ true → (a || b) ≡ true
or_right true b e = refl
or_right false b e = e

and_both : (a b : Bool) → a ≡ true → b ≡ true → (a && b) ≡ true
and_both true b e f = f
and_both false b e f = cc

same_number : (n : ℕ) → (n == n) ≡ true
same_number n = grind arith

not_here : (picks look : Bool) → (look ≡ true → picks ≡ false) → not (look && picks) ≡ true
not_here picks false f = refl
not_here picks true f = ap not (f refl)

-- a test that the groups in lookarounds fail
pub in_look-fails : (picks : ℕ → Bool) (look : Bool) (t : Tree) → ((n : ℕ) → in_look look t n ≡ true → picks n ≡ false) → looks_fail picks look t ≡ true
in_look-fails picks look nothing f = refl
in_look-fails picks look (one_of set) f = refl
in_look-fails picks look (anchor a) f = refl
in_look-fails picks look (same fold n) f = refl
in_look-fails picks look (seq a b) f =
    and_both _ _ (in_look-fails picks look a (λ n e. f n (or_left _ _ e))) (in_look-fails picks look b (λ n e. f n (or_right _ _ e)))
in_look-fails picks look (alt a b) f =
    and_both _ _ (in_look-fails picks look a (λ n e. f n (or_left _ _ e))) (in_look-fails picks look b (λ n e. f n (or_right _ _ e)))
in_look-fails picks look (repeat greedy least most a) f = in_look-fails picks look a f
in_look-fails picks look (group k a) f =
    and_both _ _
    (not_here (picks k) look (λ e. f k (or_left _ _ (and_both _ _ e (same_number k)))))
    (in_look-fails picks look a (λ n e. f n (or_right _ _ e)))
in_look-fails picks look (atomic a) f = in_look-fails picks look a f
in_look-fails picks look (ahead negated a) f = in_look-fails picks true a f
in_look-fails picks look (behind negated a) f = in_look-fails picks true a f

outside-fails : (t : Tree) → looks_fail (outside t) false t ≡ true
outside-fails t = in_look-fails (outside t) false t (λ n e. ap not e)

-- no step changes how many groups there are
abbrev SameLength : Bool → Step
SameLength b i g j h = length h ≡ length g

length-slice_set : {A : Type 0} (xs : List A) (n : ℕ) (v : A) → length (slice_set xs n v) ≡ length xs
length-slice_set [] n v = refl
length-slice_set (x ∷ xs) zero v = refl
length-slice_set (x ∷ xs) (suc n) v = ap suc (length-slice_set xs n v)

same_length : (s : List ℕ) → IsClosed s (λ _. false) SameLength
same_length s = record {
  here = λ b i g. refl;
  reads = λ b i c g e. refl;
  joins = λ b i j k g h l p q. q ∙ p;
  closes = λ b n i j g h t p. length-slice_set h n (Some (i, j)) ∙ p;
  looks = λ b k i j g h at p. p;
}

matches-length : (s : List ℕ) → IsUtf8 s → (t : Tree) (i : ℕ) (g : Groups) → Each (λ m. length m.1 ≡ length g) (matches s t i g)
matches-length s text t i g = steps-matches s text (λ _. false) SameLength (same_length s) false t (in_look-fails (λ _. false) false t (λ n e. refl)) i g

none_set : (k n : ℕ) (x : Span) → IsSet (replicate k None) n x → ⊥
none_set zero n x e = cc
none_set (suc k) zero x e = cc
none_set (suc k) (suc n) x e = none_set k n x e

length-replicate : {A : Type 0} (k : ℕ) (x : A) → length (replicate k x) ≡ k
length-replicate zero x = refl
length-replicate (suc k) x = ap suc (length-replicate k x)

first_set : (g : Groups) (x : Span) (n : ℕ) → length g ≡ suc n → IsSet (slice_set g 0 (Some x)) 0 x
first_set [] x n e = absurd (omega arith)
first_set (y ∷ g) x n e = refl

-- a group that stands in no lookaround is the whole match or one that is picked
if_false : (b look : Bool) → (if b then Some look else None) ≡ Some false → not look ≡ true
if_false true look e = ap not (some_same look false e)
if_false false look e = cc

outside-suc : (t : Tree) (n : ℕ) → group_in_look t (suc n) ≡ Some false → outside t (suc n) ≡ true
outside-suc t n e = if_false (has_group t (suc n)) (in_look false t (suc n)) e

same_span : (g : Groups) (n : ℕ) (x y : Span) → IsSet g n x → IsSet g n y → x ≡ y
same_span g n x y e f = some_same x y (some_same (Some x) (Some y) (sym e ∙ f))

module _ (s : List ℕ) (t : Tree) (i j : ℕ) (g : Groups) (w : IsSet g 0 (i, j)) (l : LiesIn s i j (i, j)) (laid : IsLaidOut s (outside t) i j g) where
  captured-within : (n : ℕ) (x : Span) → group_in_look t n ≡ Some false → IsSet g n x → LiesIn s i j x
  captured-within zero x e f = subst (λ y. LiesIn s i j y) (same_span g 0 (i, j) x w f) l
  captured-within (suc n) x e f = laid.within (suc n) x (outside-suc t n e) f

  captured-nested : (n m : ℕ) (x y : Span) → group_in_look t n ≡ Some false → group_in_look t m ≡ Some false → IsSet g n x → IsSet g m y → AreNested x y
  captured-nested zero m x y e d f h =
      let k = captured-within m y d h in
      subst (λ z. AreNested z y) (same_span g 0 (i, j) x w f) (is_around k.from k.to)
  captured-nested (suc n) zero x y e d f h =
      let k = captured-within (suc n) x e f in
      subst (λ z. AreNested x z) (same_span g 0 (i, j) y w h) (is_inside k.from k.to)
  captured-nested (suc n) (suc m) x y e d f h = laid.nested (suc n) (suc m) x y (outside-suc t n e) (outside-suc t m d) f h

module _ (s : List ℕ) (text : IsUtf8 s) (tree : Tree) where
  -- the first member at a place
  member_is : (i from : ℕ) (g : Groups) (ms : List Member) → from ≤ i → IsCharBoundary s i
      → Each (λ m. Grows s (outside tree) text i (unset s tree) m.0 m.1 × Fine s (outside tree) text m.0 m.1) (map (close 0 i) ms)
      → Each (λ m. length m.1 ≡ length (unset s tree)) ms
      → Each (λ m. Arrives s text i m.0 m.1) (map (close 0 i) ms)
      → option_map (λ m. m.1) (slice_get (map (close 0 i) ms) 0) ≡ Some g → IsMatch s tree from g
  member_is i from g [] a at e l lie q = cc
  member_is i from g (m ∷ ms) a at e l lie q =
      let is : slice_set (m.1) 0 (Some (i, m.0)) ≡ g = some_same _ _ q in
      let long : length (m.1) ≡ suc (group_count tree) = l.0 ∙ length-replicate (suc (group_count tree)) None in
      let set : IsSet (slice_set (m.1) 0 (Some (i, m.0))) 0 (i, m.0) = first_set (m.1) (i, m.0) (group_count tree) long in
      let span : LiesIn s i m.0 (i, m.0) = record { from = omega arith; rises = e.0.0.from; to = omega arith; starts = at; ends = e.0.1.at } in
      let laid : IsLaidOut s (outside tree) i m.0 (slice_set (m.1) 0 (Some (i, m.0))) = record {
        within = λ n x t u. ⊎_elim (λ old. absurd (none_set (suc (group_count tree)) n x old)) (λ w. w) (e.0.0.spans n x t u);
        nested = e.0.1.laid.nested;
      } in
      subst (λ h. IsMatch s tree from h) is (record {
        start = i;
        end = m.0;
        after = a;
        slots = length-slice_set (m.1) 0 (Some (i, m.0)) ∙ long;
        whole = set;
        lie = lie.0.lie;
        within = captured-within s tree i m.0 _ set span laid;
        nested = captured-nested s tree i m.0 _ set span laid;
      })

  start_fine : (i : ℕ) → is_boundary s i ≡ true → Fine s (outside tree) text i (unset s tree)
  start_fine i b = record {
    at = boundary-true s i b;
    laid = record {
      within = λ n x t u. absurd (none_set (suc (group_count tree)) n x u);
      nested = λ n m x y t u e q. absurd (none_set (suc (group_count tree)) n x e);
    };
  }

  at_place : (i from : ℕ) (g : Groups) → from ≤ i → (b : Bool) → is_boundary s i ≡ b
      → (if b then option_map (λ m. m.1) (slice_get (matches s (group 0 tree) i (unset s tree)) 0) else None) ≡ Some g → IsMatch s tree from g
  at_place i from g a false e q = cc
  at_place i from g a true e q =
      member_is i from g (matches s tree i (unset s tree)) a (boundary-true s i e)
      (matches-nested s (outside tree) text (group 0 tree) i (unset s tree) (outside-fails tree) (start_fine i e))
      (matches-length s text tree i (unset s tree))
      (matches-lie s text (group 0 tree) i (unset s tree) (in_look-fails (λ _. false) false (group 0 tree) (λ n e. refl)) (boundary-true s i e) (λ n x u. absurd (none_set (suc (group_count tree)) n x u)))
      q

  at_found : (i from : ℕ) (g : Groups) → from ≤ i → found_at s tree i ≡ Some g → IsMatch s tree from g
  unfolding found_at
  at_found i from g a q = at_place i from g a (is_boundary s i) refl q

  either_found : (a b : Option Groups) (g : Groups) → option_or a b ≡ Some g → (a ≡ Some g) ⊎ (b ≡ Some g)
  either_found None b g e = inr e
  either_found (Some x) b g e = inl e

  within_found : (n i from : ℕ) (g : Groups) → from ≤ i → found_within s tree n i ≡ Some g → IsMatch s tree from g
  within_found zero i from g a q = cc
  within_found (suc n) i from g a q =
      ⊎_elim (λ p. at_found i from g a p) (λ p. within_found n (suc i) from g (omega arith) p)
      (either_found (found_at s tree i) (found_within s tree n (suc i)) g q)

  -- what a search finds
  pub found-is_match : (from : ℕ) (g : Groups) → found s tree from ≡ Some g → IsMatch s tree from g
  unfolding found
  found-is_match from g q = within_found (suc (length s) - from) from from g (omega arith) q

pub finds_matches : FindsMatches
finds_matches s tree from g text q = found-is_match s text tree from g q
