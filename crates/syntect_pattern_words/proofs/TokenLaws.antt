-- What stands next, and loops.
use Rattle.std.proofs.Common.{◌≡◌, ℕ, ◌≤◌, ◌&&◌, Bool, true, false, [], ◌∷◌, drop, Option, Some, None, refl, sym, subst, ap, ◌∙◌, arith, leb-true}
use Rattle.std.specs.Prelude.{nat_le, option_map, if◌then◌else◌, MatchOption}
use Rattle.std.proofs.lemmas.Bool.{and_parts}
use Rattle.std.proofs.lemmas.Bool.Decides.{nat_tests}
use Rattle.std.specs.Cmp.{both_ways}
use Rattle.syntect_pattern.specs.Trees.{Tree, repeat, atomic}
use Rattle.syntect_pattern.specs.Reading.{Text, begins, first, between, pass, ◌>>=◌, ◌>>◌}
use Rattle.syntect_pattern.specs.Grammar.{Flags, Names, Cursor, passed, Quantifier, quantifier, is_allowed, loop, looped, quantified, next_char, next_of}
use Rattle.syntect_pattern_words.specs.QuantifierViews.{capped_count, capped_quantifier, capped_all}
use Rattle.syntect_pattern_words.specs.BodyViews.{IsOver}
use Rattle.syntect_pattern_words.specs.TokenViews.{token_as}
use Rattle.syntect_pattern_words.specs.declared.tokens.Token.{Token}

pub next-none : (t : Text) → first t ≡ None → IsOver (next_of t)
unfolding first
next-none [] e = tt
next-none (x ∷ t) e = let h : Some x ≡ None = e in cc

pub next-some : (t : Text) (c : ℕ) → first t ≡ Some c → next_of t ≡ next_char t c
unfolding first
next-some [] c e = cc
next-some (x ∷ t) c e = let h : Some x ≡ Some c = e in let same : x ≡ c = cc in ap (next_char (x ∷ t)) same

pub next-first : (t : Text) (c : ℕ) (o : Option Token) → first t ≡ Some c → MatchOption o (IsOver (next_char t c)) (λ k. next_char t c ≡ token_as k)
    → MatchOption o (IsOver (next_of t)) (λ k. next_of t ≡ token_as k)
next-first t c None e h = subst IsOver (sym (next-some t c e)) h
next-first t c (Some k) e h = next-some t c e ∙ h

-- -- Counts that are cut

least-test : (n : ℕ) → nat_le n 1000 ≡ nat_le (capped_count n) 1000
least-test n = both_ways (nat_le n 1000) (nat_le (capped_count n) 1000) (λ e. grind (arith, nat_tests)) (λ e. grind (arith, nat_tests))

both-true : (a b c d : ℕ) → a ≤ b → c ≤ d → (nat_le a b && nat_le c d) ≡ true
both-true a b c d h k = grind (arith, nat_tests)

most-test : (n m : ℕ) → (nat_le n m && nat_le m 1000) ≡ (nat_le (capped_count n) (capped_count m) && nat_le (capped_count m) 1000)
most-test n m =
    both_ways (nat_le n m && nat_le m 1000) (nat_le (capped_count n) (capped_count m) && nat_le (capped_count m) 1000)
    (λ e. let p = and_parts (nat_le n m) (nat_le m 1000) e in let h = leb-true n m p.0 in let k = leb-true m 1000 p.1 in both-true (capped_count n) (capped_count m) (capped_count m) 1000 (omega arith) (omega arith))
    (λ e.
    let p = and_parts (nat_le (capped_count n) (capped_count m)) (nat_le (capped_count m) 1000) e in
    let h = leb-true (capped_count n) (capped_count m) p.0 in
    let k = leb-true (capped_count m) 1000 p.1 in
    both-true n m m 1000 (omega arith) (omega arith))

allowed-test : (n : ℕ) (m : Option ℕ) → is_allowed n m ≡ is_allowed (capped_count n) (option_map capped_count m)
allowed-test n None = least-test n
allowed-test n (Some m) = most-test n m

abbrev made : ℕ → Option ℕ → Bool → Quantifier
made n m short = record { least = n; most = m; short = short }

allowed-same : (n : ℕ) (m : Option ℕ) (short : Bool) → is_allowed n m ≡ true → capped_quantifier (made n m short) ≡ made n m short
allowed-same n None short e =
    let h = leb-true n 1000 e in
    let same : capped_count n ≡ n = omega arith in
    ap (λ (k : ℕ). made k None short) same
allowed-same n (Some m) short e =
    let p = and_parts (nat_le n m) (nat_le m 1000) e in
    let h = leb-true n m p.0 in
    let k = leb-true m 1000 p.1 in
    let same : capped_count n ≡ n = omega arith in
    let also : capped_count m ≡ m = omega arith in
    ap (λ (x : ℕ). made x (Some (capped_count m)) short) same ∙ ap (λ (x : ℕ). made n (Some x) short) also

looped-is : (a : Tree) (p : Cursor) (o : Option (Quantifier × Text)) → looped a p o ≡ looped a p (capped_all o)
looped-is a p None = refl
looped-is a p (Some (q, rest)) = by_test (is_allowed q.least q.most) refl
  where
    by_test : (t : Bool) → is_allowed q.least q.most ≡ t → looped a p (Some (q, rest)) ≡ looped a p (Some (capped_quantifier q, rest))
    by_test true e = ap (λ (r : Quantifier). looped a p (Some (r, rest))) (sym (allowed-same q.least q.most q.short e))
    by_test false e =
        ap (λ (b : Bool). b >> (let (tree, after) = loop q a rest in Some (tree, record p { text = after }))) e
        ∙ sym (ap (λ (b : Bool). b >> (let (tree, after) = loop (capped_quantifier q) a rest in Some (tree, record p { text = after }))) (sym (allowed-test q.least q.most) ∙ e))

module _ (a : Tree) (flags : Flags) (names : Names) (t : Text) where
  pub quantified-stuck : pass flags.spaced between t ≡ None → quantified a (record { flags = flags; names = names; text = t }) ≡ None
  unfolding quantified passed
  quantified-stuck e = ap (λ (o : Option Text). option_map (λ u. record { flags = flags; names = names; text = u }) o >>= λ h. looped a h (quantifier h.text)) e

  module _ (u : Text) (e : pass flags.spaced between t ≡ Some u) where
    quantified-at : quantified a (record { flags = flags; names = names; text = t }) ≡ looped a (record { flags = flags; names = names; text = u }) (capped_all (quantifier u))
    unfolding quantified passed
    quantified-at =
        ap (λ (o : Option Text). option_map (λ u. record { flags = flags; names = names; text = u }) o >>= λ h. looped a h (quantifier h.text)) e
        ∙ looped-is a (record { flags = flags; names = names; text = u }) (quantifier u)

    pub quantified-once : capped_all (quantifier u) ≡ None → quantified a (record { flags = flags; names = names; text = t }) ≡ Some (a, record { flags = flags; names = names; text = u })
    quantified-once q = quantified-at ∙ ap (looped a (record { flags = flags; names = names; text = u })) q

    module _ (q : Quantifier) (r : Text) (is : capped_all (quantifier u) ≡ Some (q, r)) where
      pub quantified-refused : is_allowed q.least q.most ≡ false → quantified a (record { flags = flags; names = names; text = t }) ≡ None
      quantified-refused f =
          quantified-at ∙ ap (looped a (record { flags = flags; names = names; text = u })) is
          ∙ ap (λ (b : Bool). b >> (let (tree, after) = loop q a r in Some (tree, record { flags = flags; names = names; text = after }))) f

      pub quantified-loop : is_allowed q.least q.most ≡ true → (b : Tree) (v : Text) → loop q a r ≡ (b, v)
          → quantified a (record { flags = flags; names = names; text = t }) ≡ Some (b, record { flags = flags; names = names; text = v })
      quantified-loop f b v l =
          quantified-at ∙ ap (looped a (record { flags = flags; names = names; text = u })) is
          ∙ ap (λ (b : Bool). b >> (let (tree, after) = loop q a r in Some (tree, record { flags = flags; names = names; text = after }))) f
          ∙ ap (λ (x : Tree × Text). Some (x.0, record { flags = flags; names = names; text = x.1 })) l

-- -- What comes after a quantifier

module _ (q : Quantifier) (a : Tree) (t : Text) where
  after_sign : Bool → Bool → Tree × Text
  after_sign lazy possessive =
      if lazy then (repeat false q.least q.most a, drop 1 t)
      else if possessive then (atomic (repeat true q.least q.most a), drop 1 t)
      else (repeat true q.least q.most a, t)

  pub loop-lazy : begins "?" t ≡ true → loop q a t ≡ (repeat false q.least q.most a, drop 1 t)
  unfolding loop after_sign
  loop-lazy e = ap (λ b. after_sign b (q.short && begins "+" t)) e

  pub loop-possessive : begins "?" t ≡ false → (q.short && begins "+" t) ≡ true → loop q a t ≡ (atomic (repeat true q.least q.most a), drop 1 t)
  unfolding loop after_sign
  loop-possessive e h = ap (λ b. after_sign b (q.short && begins "+" t)) e ∙ ap (after_sign false) h

  pub loop-greedy : begins "?" t ≡ false → (q.short && begins "+" t) ≡ false → loop q a t ≡ (repeat true q.least q.most a, t)
  unfolding loop after_sign
  loop-greedy e h = ap (λ b. after_sign b (q.short && begins "+" t)) e ∙ ap (after_sign false) h
