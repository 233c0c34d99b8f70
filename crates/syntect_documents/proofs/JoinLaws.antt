-- Texts that are appended one after another.
use Rattle.std.proofs.Common.{◌≡◌, ℕ, List, ◌++◌, ap, ◌∙◌, append_assoc}

-- three of them
pub three_joined : (a b c o o1 o2 whole : List ℕ) → o1 ≡ o ++ a → o2 ≡ o1 ++ b → whole ≡ o2 ++ c → whole ≡ o ++ (a ++ (b ++ c))
three_joined a b c o o1 o2 whole e1 e2 e3 = (e3 ∙ ap (λ (x : List ℕ). x ++ c) (e2 ∙ ap (λ (x : List ℕ). x ++ b) e1)) ∙ turned o a b c
  where
    turned : (o a b c : List ℕ) → ((o ++ a) ++ b) ++ c ≡ o ++ (a ++ (b ++ c))
    turned o a b c = simp append_assoc

-- five of them
pub five_joined : (a b c d e o o1 o2 o3 o4 whole : List ℕ) → o1 ≡ o ++ a → o2 ≡ o1 ++ b → o3 ≡ o2 ++ c → o4 ≡ o3 ++ d → whole ≡ o4 ++ e → whole ≡ o ++ (a ++ (b ++ (c ++ (d ++ e))))
five_joined a b c d e o o1 o2 o3 o4 whole e1 e2 e3 e4 e5 = (e5 ∙ ap (λ (x : List ℕ). x ++ e) (e4 ∙ ap (λ (x : List ℕ). x ++ d) (e3 ∙ ap (λ (x : List ℕ). x ++ c) (e2 ∙ ap (λ (x : List ℕ). x ++ b) e1)))) ∙ turned o a b c d e
  where
    turned : (o a b c d e : List ℕ) → ((((o ++ a) ++ b) ++ c) ++ d) ++ e ≡ o ++ (a ++ (b ++ (c ++ (d ++ e))))
    turned o a b c d e = simp append_assoc

-- six of them
pub six_joined : (a b c d e f o o1 o2 o3 o4 o5 whole : List ℕ) → o1 ≡ o ++ a → o2 ≡ o1 ++ b → o3 ≡ o2 ++ c → o4 ≡ o3 ++ d → o5 ≡ o4 ++ e → whole ≡ o5 ++ f → whole ≡ o ++ (a ++ (b ++ (c ++ (d ++ (e ++ f)))))
six_joined a b c d e f o o1 o2 o3 o4 o5 whole e1 e2 e3 e4 e5 e6 = (e6 ∙ ap (λ (x : List ℕ). x ++ f) (e5 ∙ ap (λ (x : List ℕ). x ++ e) (e4 ∙ ap (λ (x : List ℕ). x ++ d) (e3 ∙ ap (λ (x : List ℕ). x ++ c) (e2 ∙ ap (λ (x : List ℕ). x ++ b) e1))))) ∙ turned o a b c d e f
  where
    turned : (o a b c d e f : List ℕ) → (((((o ++ a) ++ b) ++ c) ++ d) ++ e) ++ f ≡ o ++ (a ++ (b ++ (c ++ (d ++ (e ++ f)))))
    turned o a b c d e f = simp append_assoc
