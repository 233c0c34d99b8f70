-- The ends of lines, in patterns for lines that have their newline and for lines that have none.
use Rattle.std.specs.Prelude.{ℕ, true, false, not, ◌&&◌, ◌==◌, if◌then◌else◌, Bool, List, [], ◌∷◌, ◌++◌, flat_map, codes}
use Rattle.std.specs.List.{starts_with}
use Rattle.syntect_grammar_rewrite.specs.Cutting.{◌∈◌, first, parts}
use Rattle.syntect_grammar_rewrite.specs.Tokens.{Token, plain, class, is_newline, token_len, token, tokens, token_text}

-- a token `$` matches at the end of each line, which stands before the newline
abbrev pub anchored_token : Token → List ℕ
anchored_token (plain s) = if first s ∈ "$" then codes "(?m:$)" else s
anchored_token (class newline s) = s

-- a text for lines that have their newline
unfoldable pub anchored : List ℕ → List ℕ
anchored t = flat_map anchored_token (tokens t)

-- the text begins with a newline that may be missing
abbrev pub begins_optional : List ℕ → Bool
begins_optional t = starts_with ◌==◌ t (codes "(?:\\n)?")

-- The tokens of a text for lines that have no newline: a newline that may be missing is one, and is
-- the end of the text that may be missing.
abbrev pub line_token_len : List ℕ → ℕ
line_token_len t = if begins_optional t then 7 else token_len t

-- the first token, for lines without a newline: `(?:$|)` in place of `(?:\n)?`
abbrev pub line_token : List ℕ → Token
line_token t = if begins_optional t then plain (codes "(?:$|)") else token t

-- the tokens of a text, each `(?:\n)?` replaced by `(?:$|)`
abbrev pub line_tokens : List ℕ → List Token
line_tokens t = parts line_token_len line_token t

-- the first byte of the tokens, and 0 where there are none
abbrev pub next : List Token → ℕ
next [] = 0
next (k ∷ ks) = first (token_text k)

-- A token `\n` that isn't repeated becomes the end of the text. A class that takes a newline, and
-- isn't optional, takes the end of the text as well.
abbrev pub ended_token : Token → ℕ → List ℕ
ended_token (plain s) after = if is_newline s && not (after ∈ "?+*") then codes "$" else s
ended_token (class true s) after = if after ∈ "?" then s else codes "(?:" ++ s ++ codes "|$)"
ended_token (class false s) after = s

-- the text of these tokens, each as it is for lines that have no newline
abbrev pub ended_tokens : List Token → List ℕ
ended_tokens [] = []
ended_tokens (k ∷ ks) = ended_token k (next ks) ++ ended_tokens ks

-- a text for lines that have no newline; one without `\n` stays
unfoldable pub ended : List ℕ → List ℕ
ended t = ended_tokens (line_tokens t)
