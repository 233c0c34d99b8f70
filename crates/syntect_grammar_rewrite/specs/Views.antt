-- Words and tokens, as the code has them.
use Rattle.std.specs.Prelude.{◌≡◌, ℕ, ◌<◌, Bool, true, false, List, take}
use Rattle.syntect_grammar_rewrite.specs.Cutting.{char_len}
use Rattle.syntect_grammar_rewrite.specs.Replacing as replacing
use Rattle.syntect_grammar_rewrite.specs.Replacing.{word_len, replacement}
use Rattle.syntect_grammar_rewrite.specs.Tokens.{Token, plain, class}
use Rattle.syntect_grammar_rewrite.specs.Newlines.{line_token, ended_token}

-- ---- For proofs and private functions alone ----

-- no word is at the front
pub record IsNoWord (words : replacing.Words) (t : List ℕ) : Type 0 where
  pub len : word_len words t ≡ char_len t
  pub written : replacement words t ≡ take (char_len t) t

-- a word of n bytes is at the front, of which the last is ASCII
pub record IsWord (words : replacing.Words) (t : List ℕ) (n : ℕ) (new : List ℕ) : Type 0 where
  pub some : 0 < n
  pub len : word_len words t ≡ n
  pub written : replacement words t ≡ new

-- a token by its text, and by whether it is a class that takes a newline
abbrev pub token_of : Bool → List ℕ → Token
token_of true s = class true s
token_of false s = plain s

-- the first token of a text for lines that have no newline, by its text and by whether it is a
-- class that takes one
abbrev pub IsLineToken : List ℕ → List ℕ → Bool → Type 0
IsLineToken t s takes =
    (after : ℕ) → ended_token (line_token t) after ≡ ended_token (token_of takes s) after
