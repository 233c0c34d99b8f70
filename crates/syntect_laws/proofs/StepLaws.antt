-- Steps that do the same.
use Rattle.std.proofs.Common.{◌≡◌, List, [], ◌∷◌, Result, Ok, Err, refl, ap, ◌∙◌}
use Rattle.std.specs.Prelude.{IfOk}
use Rattle.std.specs.List.{AllByRecursion}
use Rattle.syntect_laws.specs.syntect_grammar_loader.LoadingSteps.{Refusal, Step, on, ◌>>=◌, found_in, each}

-- whatever has been read, the steps find the same and leave the same, or refuse for the same reason
abbrev pub Same : {A : Type 0} → Step A → Step A → Type 0
Same m l = (s : _) → m s ≡ l s

pub same_rest : {A B : Type 0} (m : Step A) (f g : A → Step B)
    → ((a : A) → Same (f a) (g a)) → Same (m >>= f) (m >>= g)
same_rest m f g h s = go (m s)
  where
    go : (r : Result _ Refusal) → on r f ≡ on r g
    go (Ok p) = h p.0 p.1
    go (Err r) = refl

pub same_first : {A B : Type 0} (m l : Step A) (f : A → Step B) → Same m l → Same (m >>= f) (l >>= f)
same_first m l f h s = ap (λ r. on r f) (h s)

pub same_both : {A B : Type 0} (m l : Step A) (f g : A → Step B)
    → Same m l → ((a : A) → Same (f a) (g a)) → Same (m >>= f) (l >>= g)
same_both m l f g h k s = ap (λ r. on r f) (h s) ∙ same_rest l f g k s

pub same_found : {A B : Type 0} (P : A → Type 0) (r : Result A Refusal) (f g : A → Step B)
    → IfOk r P → ((a : A) → P a → Same (f a) (g a)) → Same (found_in r >>= f) (found_in r >>= g)
same_found P (Ok a) f g h k s = k a h s
same_found P (Err r) f g h k s = refl

pub same_each : {A B : Type 0} (P : A → Type 0) (f g : B → A → Step B) (b : B) (xs : List A)
    → AllByRecursion P xs → ((b : B) (x : A) → P x → Same (f b x) (g b x)) → Same (each f b xs) (each g b xs)
same_each P f g b [] h k s = refl
same_each P f g b (x ∷ xs) h k s =
    ap (λ r. on r (λ c. each f c xs)) (k b x h.0 s)
    ∙ same_rest (g b x) (λ c. each f c xs) (λ c. each g c xs) (λ c. same_each P f g c xs h.1 k) s
