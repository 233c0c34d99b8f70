-- Single steps of a search.
use Rattle.std.specs.Prelude.{ℕ, ◌+◌, Bool, List, [], ◌∷◌, Option, Some, None, if◌then◌else◌}
use Rattle.std.specs.Char.{len_utf8}
use Rattle.syntect_pattern.specs.Matches.{Groups, Member}
use Rattle.syntect_pattern.specs.Sets.{from_to, holds}
use Rattle.syntect_pattern.specs.Text.{char_at}

-- the place after the character, if it passes the test
abbrev pub after_char : (ℕ → Bool) → Option ℕ → ℕ → Option ℕ
after_char test None i = None
after_char test (Some c) i = if test c then Some (i + len_utf8 c) else None

-- a match that ends at the place without changing groups, if there is one
abbrev pub at_end : Option ℕ → Groups → List Member
at_end None g = []
at_end (Some j) g = (j, g) ∷ []

-- on from the place, if there is one
abbrev pub on_from : Option ℕ → (ℕ → Option ℕ) → Option ℕ
on_from None k = None
on_from (Some j) k = k j

-- the place after the letters, if they stand there one after the other
abbrev pub after_letters : List ℕ → Bool → List ℕ → ℕ → Option ℕ
after_letters s fold [] i = Some i
after_letters s fold (c ∷ cs) i =
    on_from (after_char (holds (from_to fold c c)) (char_at s i) i) (after_letters s fold cs)
