-- Marks of patterns that are out.
use Rattle.std.proofs.Common.{◌≡◌, ℕ, zero, suc, ◌<◌, Bool, true, false, List, [], ◌∷◌, ◌++◌, get_or, length, refl, sym, ap, subst, ◌∙◌}
use Rattle.std.specs.Prelude.{slice_set}
use Rattle.std.proofs.lemmas.List.{get_or-set_same, get_or-set_other}
use Rattle.syntect_reading_state.specs.Losses.{LosesAt, LosesOf, is_lost, marks_of}

-- with what is found past the end once more at it, each place has what it had
pub same_with_one : {X : Type 0} (xs : List X) (d : X) (k : ℕ) → get_or (xs ++ d ∷ []) k d ≡ get_or xs k d
same_with_one [] d zero = refl
same_with_one [] d (suc k) = refl
same_with_one (x ∷ xs) d zero = refl
same_with_one (x ∷ xs) d (suc k) = same_with_one xs d k

pub same_pushed : {X : Type 0} (xs old new : List X) (d e : X) → new ≡ old ++ e ∷ [] → e ≡ d → ((k : ℕ) → get_or old k d ≡ get_or xs k d) → (k : ℕ) → get_or new k d ≡ get_or xs k d
same_pushed {X = X} xs old new d e is here h k = ap (λ (ys : List X). get_or ys k d) (is ∙ ap (λ (x : X). old ++ x ∷ []) here) ∙ same_with_one old d k ∙ h k

-- the mark at an index is set
pub loses_at : (index : ℕ) (old reached new : List Bool) → index < length reached → ((k : ℕ) → is_lost reached k ≡ is_lost old k) → new ≡ slice_set reached index true → LosesAt index old new
loses_at index old reached new l h e = record {
  here = ap (λ (xs : List Bool). get_or xs index false) e ∙ get_or-set_same reached index true false l;
  others = λ k n. ap (λ (xs : List Bool). get_or xs k false) e ∙ get_or-set_other reached index k true false n ∙ h k;
}

-- the marks of one part are put in the place of those that it had
pub loses_of : (part index : ℕ) (old reached new : List (List Bool)) (was marks : List Bool) → part < length reached → ((k : ℕ) → marks_of reached k ≡ marks_of old k) → was ≡ marks_of reached part → LosesAt index was marks
    → new ≡ slice_set reached part marks → LosesOf part index old new
loses_of part index old reached new was marks l h w a e = record {
  here =
      subst (λ (m : List Bool). LosesAt index m (marks_of new part)) (w ∙ h part)
      (subst (λ (m : List Bool). LosesAt index was m) (sym (ap (λ (xs : List (List Bool)). get_or xs part []) e ∙ get_or-set_same reached part marks [] l)) a);
  others = λ k n. ap (λ (xs : List (List Bool)). get_or xs k []) e ∙ get_or-set_other reached part k marks [] n ∙ h k;
}
