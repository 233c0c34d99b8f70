-- Parts of a text, which is its bytes.
use Rattle.std.specs.Prelude.{◌≡◌, ◌<◌, ℕ, List, ◌∷◌, ◌++◌, length, chars, encode_utf8}

-- the first character, and what follows it
pub record BeginsWith (text : List ℕ) (c : ℕ) (rest : List ℕ) : Type 0 where
  pub letters : chars text ≡ c ∷ chars rest
  pub whole : text ≡ encode_utf8 c ++ rest
  pub shorter : length rest < length text

-- ---- For proofs and private functions alone ----

-- the text ends with the other
pub record IsRest (text rest : List ℕ) : Type 0 where
  pub front : List ℕ
  pub whole : text ≡ front ++ rest
