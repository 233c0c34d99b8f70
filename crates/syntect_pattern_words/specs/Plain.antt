-- Characters that stand for themselves.
use Rattle.std.specs.Prelude.{◌≡◌, ◌||◌, ℕ, Bool, ◌∷◌, Some, None}
use Rattle.syntect_pattern.specs.Reading.{Text, ◌∈◌, is_name_char, pass, between}
use Rattle.syntect_pattern.specs.Grammar.{quantifier, next_of, plain}

-- the text begins with this character, which stands for itself: nothing is passed over before it or
-- after it, and nothing repeats it
pub record BeginsPlainly (t : Text) (c : ℕ) (rest : Text) : Type 0 where
  pub letters : t ≡ c ∷ rest
  pub before : (spaced : Bool) → pass spaced between t ≡ Some t
  pub next : next_of t ≡ plain c
  pub behind : (spaced : Bool) → pass spaced between rest ≡ Some rest
  pub once : quantifier rest ≡ None

-- ---- For proofs and private functions alone ----

-- a letter, a digit, or a sign that means nothing in a pattern
abbrev pub is_plain : ℕ → Bool
is_plain c = is_name_char c || c ∈ "-=:;,<>!/'\"@%&~"

-- neither a quantifier nor what is passed over begins with it
abbrev pub is_firm : ℕ → Bool
is_firm c = is_plain c || c ∈ "|)[\\.^$"
