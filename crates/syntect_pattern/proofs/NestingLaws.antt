-- The groups of a match outside lookarounds are nested or disjoint and lie in the match.
use Rattle.std.proofs.Common.{◌≡◌, ℕ, zero, suc, ◌+◌, ◌≤◌, ◌⊎◌, List, [], ◌∷◌, length, Bool, true, false, not, ◌&&◌, Some, refl, ap, sym, subst, ◌∙◌, arith, inl, inr, ⊎_elim}
use Rattle.std.specs.Prelude.{slice_get, slice_set, IsUtf8, IsCharBoundary}
use Rattle.std.specs.Char.{len_utf8}
use Rattle.syntect_pattern.specs.Text.{char_at}
use Rattle.syntect_pattern.specs.Trees.{Tree}
use Rattle.syntect_pattern.specs.Matches.{Groups, matches}
use Rattle.syntect_pattern.specs.Nesting.{Span, AreNested, is_before, is_after, is_around, is_inside, IsSet, LiesIn, IsLaidOut, looks_fail}
use Rattle.syntect_pattern.proofs.Each.{Each, each_of}
use Rattle.syntect_pattern.proofs.TextLemmas.{boundary-past, some_same}
use Rattle.syntect_pattern.proofs.MatchLaws.{Step, IsClosed, steps-matches}

-- what is read after a group is set: that group, or what was there
get-set : {A : Type 0} (xs : List A) (n m : ℕ) (v x : A) → slice_get (slice_set xs n v) m ≡ Some x → ((m ≡ n) × (v ≡ x)) ⊎ (slice_get xs m ≡ Some x)
get-set [] n m v x e = cc
get-set (y ∷ xs) zero zero v x e = inl (refl, some_same v x e)
get-set (y ∷ xs) zero (suc m) v x e = inr e
get-set (y ∷ xs) (suc n) zero v x e = inr e
get-set (y ∷ xs) (suc n) (suc m) v x e = ⊎_elim (λ p. inl (ap suc p.0, p.1)) (λ q. inr q) (get-set xs n m v x e)

lies-wider : (s : List ℕ) (low high low' high' : ℕ) (x : Span) → low' ≤ low → high ≤ high' → LiesIn s low high x → LiesIn s low' high' x
lies-wider s low high low' high' x a b l =
    let f = l.from in
    let t = l.to in
    record { from = omega arith; rises = l.rises; to = omega arith; starts = l.starts; ends = l.ends }

laid-wider : (s : List ℕ) (picks : ℕ → Bool) (i j : ℕ) (g : Groups) → i ≤ j → IsLaidOut s picks 0 i g → IsLaidOut s picks 0 j g
laid-wider s picks i j g h l = record {
  within = λ n x p e. lies-wider s 0 i 0 j x (omega arith) h (l.within n x p e);
  nested = l.nested;
}

module _ (s : List ℕ) (picks : ℕ → Bool) (text : IsUtf8 s) where
  -- a place that can be reached, with the groups set before it
  pub record Fine (i : ℕ) (g : Groups) : Type 0 where
    pub at : IsCharBoundary s i
    pub laid : IsLaidOut s picks 0 i g

  -- each group stays or is set between the two places
  pub record Grows (i : ℕ) (g : Groups) (j : ℕ) (h : Groups) : Type 0 where
    pub from : i ≤ j
    pub spans : (n : ℕ) (x : Span) → picks n ≡ true → IsSet h n x → IsSet g n x ⊎ LiesIn s i j x

  abbrev pub Lays : Bool → Step
  Lays true k g j h = (n : ℕ) (x : Span) → picks n ≡ true → IsSet h n x → IsSet g n x
  Lays false i g j h = Fine i g → Grows i g j h × Fine j h

  lays-here : (b : Bool) (i : ℕ) (g : Groups) → Lays b i g i g
  lays-here true i g = λ n x p e. e
  lays-here false i g = λ f. (record { from = omega arith; spans = λ n x p e. inl e }, f)

  lays-read : (b : Bool) (i c : ℕ) (g : Groups) → char_at s i ≡ Some c → Lays b i g (i + len_utf8 c) g
  lays-read true i c g e = λ n x p q. q
  lays-read false i c g e = λ f.
      let more : i ≤ i + len_utf8 c = omega arith in (
        record { from = more; spans = λ n x p q. inl q },
        record { at = boundary-past s i c text f.at e; laid = laid-wider s picks i (i + len_utf8 c) g more f.laid },
      )

  grows-join : (i j k : ℕ) (g h l : Groups) → Grows i g j h → Grows j h k l → Grows i g k l
  grows-join i j k g h l a b =
      let p = a.from in
      let q = b.from in
      record {
        from = omega arith;
        spans = λ n x t e. ⊎_elim
            (λ old. ⊎_elim (λ older. inl older) (λ w. inr (lies-wider s i j i k x (omega arith) q w)) (a.spans n x t old))
            (λ w. inr (lies-wider s j k i k x p (omega arith) w))
            (b.spans n x t e);
      }

  lays-join : (b : Bool) (i j k : ℕ) (g h l : Groups) → Lays b i g j h → Lays b j h k l → Lays b i g k l
  lays-join true i j k g h l a b = λ n x t e. a n x t (b n x t e)
  lays-join false i j k g h l a b = λ f.
      let first = a f in
      let second = b first.1 in
      (grows-join i j k g h l first.0 second.0, second.1)

  lays-look : (b : Bool) (k i j : ℕ) (g h : Groups) → (k ≡ i) ⊎ IsCharBoundary s k → Lays true k g j h → Lays b i g i h
  lays-look true k i j g h at r = r
  lays-look false k i j g h at r = λ f. (
    record { from = omega arith; spans = λ n x t e. inl (r n x t e) },
    record {
      at = f.at;
      laid = record {
        within = λ n x t e. f.laid.within n x t (r n x t e);
        nested = λ n m x y t u e q. f.laid.nested n m x y t u (r n x t e) (r m y u q);
      };
    },
  )

  -- the closed group and an earlier or an inner one
  beside : (i j : ℕ) (g : Groups) (m : ℕ) (y : Span) → i ≤ j → Fine i g → picks m ≡ true → IsSet g m y ⊎ LiesIn s i j y → AreNested (i, j) y
  beside i j g m y l f t (inl old) = is_after ((f.laid.within m y t old).to)
  beside i j g m y l f t (inr w) = is_around w.from w.to

  turn : (x y : Span) → AreNested x y → AreNested y x
  turn x y (is_before h) = is_after h
  turn x y (is_after h) = is_before h
  turn x y (is_around h k) = is_inside h k
  turn x y (is_inside h k) = is_around h k

  -- the span is the closed group's, or stood there
  New : ℕ → ℕ → Groups → ℕ → Span → Type 0
  New i j h m y = ((i, j) ≡ y) ⊎ IsSet h m y

  renew : (n i j m : ℕ) (h : Groups) (y : Span) → IsSet (slice_set h n (Some (i, j))) m y → New i j h m y
  unfolding New
  renew n i j m h y e = ⊎_elim (λ p. inl (some_same (i, j) y p.1)) (λ q. inr q) (get-set h n m (Some (i, j)) (Some y) e)

  module _ (i j : ℕ) (g h : Groups) (f : Fine i g) (grown : Grows i g j h) (fine : Fine j h) where
    close-lies : (m : ℕ) (y : Span) → picks m ≡ true → New i j h m y → IsSet g m y ⊎ LiesIn s i j y
    unfolding New
    close-lies m y t (inl e) = inr (subst (λ z. LiesIn s i j z) e (record { from = omega arith; rises = grown.from; to = omega arith; starts = f.at; ends = fine.at }))
    close-lies m y t (inr e) = grown.spans m y t e

    close-within : (m : ℕ) (y : Span) → picks m ≡ true → New i j h m y → LiesIn s 0 j y
    unfolding New
    close-within m y t (inl e) = subst (λ z. LiesIn s 0 j z) e (record { from = omega arith; rises = grown.from; to = omega arith; starts = f.at; ends = fine.at })
    close-within m y t (inr e) = fine.laid.within m y t e

    close-nested : (m k : ℕ) (x y : Span) → picks m ≡ true → picks k ≡ true → New i j h m x → New i j h k y → AreNested x y
    unfolding New
    close-nested m k x y t u (inl e) q = subst (λ z. AreNested z y) e (beside i j g k y grown.from f u (close-lies k y u q))
    close-nested m k x y t u (inr d) (inl e) =
        turn y x (subst (λ z. AreNested z x) e (beside i j g m x grown.from f t (close-lies m x t (inr d))))
    close-nested m k x y t u (inr d) (inr e) = fine.laid.nested m k x y t u d e

  failing : (n m : ℕ) → not (picks n) ≡ true → m ≡ n → picks m ≡ true → ⊥
  failing n m a e t = false_not (picks n) a (ap picks (sym e) ∙ t)
    where
      false_not : (b : Bool) → not b ≡ true → b ≡ true → ⊥
      false_not true a b = cc
      false_not false a b = cc

  lays-close : (b : Bool) (n i j : ℕ) (g h : Groups) → not (b && picks n) ≡ true → Lays b i g j h → Lays b i g j (slice_set h n (Some (i, j)))
  lays-close true n i j g h test r = λ m x t e.
      ⊎_elim (λ p. absurd (failing n m test p.0 t)) (λ q. r m x t q) (get-set h n m (Some (i, j)) (Some x) e)
  lays-close false n i j g h test r = λ f.
      let a = r f in (
        record { from = a.0.from; spans = λ m x t e. close-lies i j g h f a.0 a.1 m x t (renew n i j m h x e) },
        record {
          at = a.1.at;
          laid = record {
            within = λ m x t e. close-within i j g h f a.0 a.1 m x t (renew n i j m h x e);
            nested = λ m k x y t u e d. close-nested i j g h f a.0 a.1 m k x y t u (renew n i j m h x e) (renew n i j k h y d);
          };
        },
      )

  lays : IsClosed s picks Lays
  lays = record { here = lays-here; reads = lays-read; joins = lays-join; closes = lays-close; looks = lays-look }

  -- from a fine place with fine groups, each member is fine, and each group stays or is
  -- set in the match
  pub matches-nested : (t : Tree) (i : ℕ) (g : Groups) → looks_fail picks false t ≡ true → Fine i g
      → Each (λ m. Grows i g m.0 m.1 × Fine m.0 m.1) (matches s t i g)
  matches-nested t i g e f =
      each_of (λ m. Lays false i g m.0 m.1) (λ m. Grows i g m.0 m.1 × Fine m.0 m.1) (matches s t i g) (λ m r. r f)
      (steps-matches s text picks Lays lays false t e i g)

-- Every group lies in the text, also one in a lookaround.
module _ (s : List ℕ) (text : IsUtf8 s) where
  -- each group that is set lies in the text
  abbrev pub AllLie : Groups → Type 0
  AllLie g = (n : ℕ) (x : Span) → IsSet g n x → LiesIn s 0 (length s) x

  -- from a boundary with such groups to one not before it
  pub record Arrives (i j : ℕ) (h : Groups) : Type 0 where
    pub from : i ≤ j
    pub at : IsCharBoundary s j
    pub lie : AllLie h

  abbrev pub Keeps : Bool → Step
  Keeps b i g j h = IsCharBoundary s i → AllLie g → Arrives i j h

  keeps-join : (b : Bool) (i j k : ℕ) (g h l : Groups) → Keeps b i g j h → Keeps b j h k l → Keeps b i g k l
  keeps-join b i j k g h l p q = λ at f.
      let a = p at f in
      let c = q a.at a.lie in
      record { from = omega (arith, a.from, c.from); at = c.at; lie = c.lie }

  keeps-close : (b : Bool) (n i j : ℕ) (g h : Groups) → Keeps b i g j h → Keeps b i g j (slice_set h n (Some (i, j)))
  keeps-close b n i j g h r = λ at f.
      let a = r at f in
      let own : LiesIn s 0 (length s) (i, j) = record { from = omega arith; rises = a.from; to = a.at.0; starts = at; ends = a.at } in
      record {
        from = a.from;
        at = a.at;
        lie = λ m x e. ⊎_elim (λ p. subst (λ z. LiesIn s 0 (length s) z) (some_same (i, j) x p.1) own) (λ q. a.lie m x q) (get-set h n m (Some (i, j)) (Some x) e);
      }

  keeps-look : (b : Bool) (k i j : ℕ) (g h : Groups) → (k ≡ i) ⊎ IsCharBoundary s k → Keeps true k g j h → Keeps b i g i h
  keeps-look b k i j g h at r = λ here f.
      let there : IsCharBoundary s k = ⊎_elim (λ p. subst (IsCharBoundary s) (sym p) here) (λ q. q) at in
      record { from = omega arith; at = here; lie = (r there f).lie }

  keeps : IsClosed s (λ _. false) Keeps
  keeps = record {
    here = λ b i g at f. record { from = omega arith; at = at; lie = f };
    reads = λ b i c g e at f. record { from = omega arith; at = boundary-past s i c text at e; lie = f };
    joins = keeps-join;
    closes = λ b n i j g h t r. keeps-close b n i j g h r;
    looks = keeps-look;
  }

  -- from a boundary, where each group lies in the text, each member's groups do
  pub matches-lie : (t : Tree) (i : ℕ) (g : Groups) → looks_fail (λ _. false) false t ≡ true → IsCharBoundary s i → AllLie g
      → Each (λ m. Arrives i m.0 m.1) (matches s t i g)
  matches-lie t i g e at f =
      each_of (λ m. Keeps false i g m.0 m.1) (λ m. Arrives i m.0 m.1) (matches s t i g) (λ m r. r at f)
      (steps-matches s text (λ _. false) Keeps keeps false t e i g)
