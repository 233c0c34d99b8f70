-- Lists that are made from front to back, each element from those before it.
use Rattle.std.proofs.Common.{◌≡◌, ℕ, zero, suc, ◌+◌, ◌<◌, List, [], ◌∷◌, ◌++◌, length, get_or, refl, sym, ap, ◌∙◌, arith, length-append, zero-add}
use Rattle.std.proofs.Math.ListN.{get_or-append}
use Rattle.std.proofs.Math.Seq.{get_or-append_seam}

module _ (A C : Type 0) (d : A) (e : C) (make : List A → C → A) where
  abbrev pub made_from : List A → List C → List A
  made_from before [] = before
  made_from before (c ∷ cs) = made_from (before ++ make before c ∷ []) cs

  get_or-made_from : (xs : List A) (cs : List C) (n : ℕ) → n < length xs → get_or (made_from xs cs) n d ≡ get_or xs n d
  get_or-made_from xs [] n h = refl
  get_or-made_from xs (c ∷ cs) n h =
      get_or-made_from (xs ++ make xs c ∷ []) cs n (omega (arith, length-append xs (make xs c ∷ [])))
      ∙ get_or-append xs (make xs c ∷ []) d n h

  -- the element depends on those before the place alone
  abbrev pub DependsOn : ℕ → C → Type 0
  DependsOn k c = (xs ys : List A) → ((j : ℕ) → j < k → get_or xs j d ≡ get_or ys j d) → make xs c ≡ make ys c

  made-from : (xs : List A) (cs : List C) → ((j : ℕ) → j < length cs → DependsOn (length xs + j) (get_or cs j e))
      → (j : ℕ) → j < length cs → get_or (made_from xs cs) (length xs + j) d ≡ make (made_from xs cs) (get_or cs j e)
  made-from xs [] h j l = absurd (omega arith)
  made-from xs (c ∷ cs) h zero l =
      let new : A = make xs c in
      let more : List A = xs ++ new ∷ [] in
      get_or-made_from more cs (length xs + 0) (omega (arith, length-append xs (new ∷ [])))
      ∙ ap (λ n. get_or more n d) (omega arith)
      ∙ get_or-append_seam xs new [] d
      ∙ h 0 (omega arith) xs (made_from more cs)
      (λ j p. sym (get_or-made_from more cs j (omega (arith, length-append xs (new ∷ []))) ∙ get_or-append xs (new ∷ []) d j (omega arith)))
  made-from xs (c ∷ cs) h (suc j) l =
      let new : A = make xs c in
      let more : List A = xs ++ new ∷ [] in
      ap (λ n. get_or (made_from more cs) n d) (omega (arith, length-append xs (new ∷ [])))
      ∙ made-from more cs (λ i p. by i (h (suc i) (omega arith))) j (omega arith)
    where
      by : (i : ℕ) → DependsOn (length xs + suc i) (get_or cs i e) → DependsOn (length (xs ++ make xs c ∷ []) + i) (get_or cs i e)
      by i f = λ ys zs g. f ys zs (λ j q. g j (omega (arith, q, length-append xs (make xs c ∷ []))))

  -- each element is made of the list
  pub made : (cs : List C) → ((j : ℕ) → j < length cs → DependsOn j (get_or cs j e)) → (k : ℕ) → k < length cs → get_or (made_from [] cs) k d ≡ make (made_from [] cs) (get_or cs k e)
  made cs h k l =
      ap (λ n. get_or (made_from [] cs) n d) (sym (zero-add k))
      ∙ made-from [] cs (λ j p. by j (h j p)) k l
    where
      by : (j : ℕ) → DependsOn j (get_or cs j e) → DependsOn (0 + j) (get_or cs j e)
      by j f = λ ys zs g. f ys zs (λ i q. g i (omega arith))

  pub length-made_from : (xs : List A) (cs : List C) → length (made_from xs cs) ≡ length xs + length cs
  length-made_from xs [] = omega arith
  length-made_from xs (c ∷ cs) = length-made_from (xs ++ make xs c ∷ []) cs ∙ omega (arith, length-append xs (make xs c ∷ []))
