-- The text of a scope that was built of a text.
use Rattle.std.proofs.Common.{◌≡◌, ◌==◌, ℕ, suc, ◌+◌, ◌-◌, ◌≤◌, Bool, true, false, List, [], ◌∷◌, ◌++◌, map, refl, ap, sym, ◌∙◌, arith, cond, Option, Some, None, is_some, unwrap_or, add-one}
use Rattle.std.specs.Prelude.{slice_get, if◌then◌else◌}
use Rattle.std.specs.Option.{option_map_or}
use Rattle.std.specs.List.{slice_split, position_from, join_with_byte, onto_first}
use Rattle.std.specs.Str.{bytes_eq}
use Rattle.std.proofs.lemmas.Slice.Eq.{bytes_eq-Decides}
use Rattle.std.proofs.lemmas.Bool.Decides.{Decides-eqb}
use Rattle.syntect_scope.specs.Repository.{atom_text, atom_texts, number_in, place_in, with_atom, with_atoms, without_dots}
use Rattle.syntect_scope.specs.Laws.{BuildsBack}
use Rattle.syntect_scope.proofs.RepositoryLaws.{grows, has_atom, place_more}

-- ---- the parts between dots ----

some_part : (bs : List ℕ) → (p : List ℕ) × (ps : List (List ℕ)) × (slice_split (λ b. b == 46) bs ≡ p ∷ ps)
some_part [] = ([], [], refl)
some_part (b ∷ bs) = go (b == 46) (slice_split (λ b. b == 46) bs) (some_part bs)
  where
    go : (d : Bool) (l : List (List ℕ)) → (p : List ℕ) × (ps : List (List ℕ)) × (l ≡ p ∷ ps) → (p : List ℕ) × (ps : List (List ℕ)) × (cond d ([] ∷ l) (onto_first b l) ≡ p ∷ ps)
    go true l h = ([], l, refl)
    go false l h = (b ∷ h.0, h.1, rw h.2 refl)

join_onto : (b : ℕ) (p : List ℕ) (ps : List (List ℕ)) → join_with_byte 46 ((b ∷ p) ∷ ps) ≡ b ∷ join_with_byte 46 (p ∷ ps)
join_onto b p [] = refl
join_onto b p (q ∷ ps) = refl

pub join_split : (bs : List ℕ) → join_with_byte 46 (slice_split (λ b. b == 46) bs) ≡ bs
join_split [] = refl
join_split (b ∷ bs) = go (join_split bs) (b == 46) refl
  where
    go : join_with_byte 46 (slice_split (λ b. b == 46) bs) ≡ bs → (d : Bool) → (b == 46) ≡ d → join_with_byte 46 (cond d ([] ∷ slice_split (λ b. b == 46) bs) (onto_first b (slice_split (λ b. b == 46) bs))) ≡ b ∷ bs
    go back true e =
        let s : (p : List ℕ) × (ps : List (List ℕ)) × (slice_split (λ b. b == 46) bs ≡ p ∷ ps) = some_part bs in
        let dot : b ≡ 46 = (Decides-eqb b 46).0 e in
        let rest : join_with_byte 46 (s.0 ∷ s.1) ≡ bs = ap (join_with_byte 46) (sym s.2) ∙ back in
        rw (s.2, rest, dot) refl
    go back false e =
        let s : (p : List ℕ) × (ps : List (List ℕ)) × (slice_split (λ b. b == 46) bs ≡ p ∷ ps) = some_part bs in
        let rest : join_with_byte 46 (s.0 ∷ s.1) ≡ bs = ap (join_with_byte 46) (sym s.2) ∙ back in
        rw (s.2, join_onto b s.0 s.1, rest) refl

-- ---- the text of a number ----

found_text : (t : List ℕ) (xs : List (List ℕ)) (i k : ℕ) → position_from (bytes_eq t) i xs ≡ Some k → (i ≤ k) × (slice_get xs (k - i) ≡ Some t)
found_text t [] i k h = cc
found_text t (x ∷ xs) i k h = go (found_text t xs (i + 1) k) (bytes_eq t x) refl h
  where
    some_is : {a b : ℕ} → Some a ≡ Some b → a ≡ b
    some_is {a} e = ap (λ o. unwrap_or o a) e

    go : (position_from (bytes_eq t) (i + 1) xs ≡ Some k → (i + 1 ≤ k) × (slice_get xs (k - (i + 1)) ≡ Some t)) → (d : Bool) → bytes_eq t x ≡ d → (if d then Some i else position_from (bytes_eq t) (i + 1) xs) ≡ Some k → (i ≤ k) × (slice_get (x ∷ xs) (k - i) ≡ Some t)
    go later true e h =
        let same : i ≡ k = some_is h in
        let z : k - i ≡ 0 = omega (arith, same) in
        (omega (arith, same), rw z (ap Some (sym ((bytes_eq-Decides t x).0 e))))
    go later false e h =
        let ih : (i + 1 ≤ k) × (slice_get xs (k - (i + 1)) ≡ Some t) = later h in
        let z : k - i ≡ suc (k - (i + 1)) = omega (arith, ih.0) in
        (omega (arith, ih.0), rw z ih.1)

pub text_of_number : (r : List (List ℕ)) (t : List ℕ) → is_some (place_in r t) ≡ true → atom_text r (number_in r t) ≡ t
text_of_number r t h = go (place_in r t) refl h
  where
    go : (o : Option ℕ) → place_in r t ≡ o → is_some o ≡ true → atom_text r (option_map_or (λ i. i + 1) o 0) ≡ t
    go None e h = cc
    go (Some k) e h =
        let f : (0 ≤ k) × (slice_get r (k - 0) ≡ Some t) = found_text t r 0 k e in
        let z : k - 0 ≡ k = omega arith in
        let g : slice_get r k ≡ Some t = ap (λ n. slice_get r n) (sym z) ∙ f.1 in
        rw (add-one k, g) refl

-- ---- the text of a scope ----

there : (r ts : List (List ℕ)) (t : List ℕ) → is_some (place_in (with_atoms (with_atom r t) ts) t) ≡ true
there r ts t =
    let g : (more : List (List ℕ)) × (with_atoms (with_atom r t) ts ≡ with_atom r t ++ more) = grows (with_atom r t) ts in
    ap (λ (l : List (List ℕ)). is_some (place_in l t)) g.1 ∙ ap is_some (place_more t (with_atom r t) g.0 (has_atom r t)) ∙ has_atom r t

texts_back : (r ts : List (List ℕ)) → map (atom_text (with_atoms r ts)) (map (number_in (with_atoms r ts)) ts) ≡ ts
texts_back r [] = refl
texts_back r (t ∷ ts) = rw (text_of_number (with_atoms (with_atom r t) ts) t (there r ts t), texts_back (with_atom r t) ts) refl

pub builds_back : BuildsBack
builds_back repo [] = refl
builds_back repo (b ∷ bs) =
    ap (join_with_byte 46) (texts_back repo (atom_texts (b ∷ bs))) ∙ join_split (without_dots (b ∷ bs))
