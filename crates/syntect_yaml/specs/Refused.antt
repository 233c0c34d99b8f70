-- Where a text is refused.
use Rattle.std.specs.Prelude.{◌≡◌, ℕ, ◌+◌, ◌≤◌, ◌==◌, Bool, ◌||◌, nat_lt, nat_le, List, length, take, count_by}
use Rattle.std.specs.List.{after_last}
use Rattle.syntect_yaml.specs.declared.read.LinePlace.{LinePlace}

-- a character begins with this byte
abbrev pub begins_character : ℕ → Bool
begins_character b = nat_lt b 128 || nat_le 192 b

-- the place after these bytes: one line for each line feed, one column for each character after the
-- last, both from 1 on
pub record IsPlaceBehind (before : List ℕ) (place : LinePlace) : Type 0 where
  pub line : place.line ≡ count_by (λ b. b == 10) before + 1
  pub column : place.column ≡ count_by begins_character (after_last (λ b. b == 10) before) + 1

-- a place in these bytes, or at their end
pub record IsPlaceIn (bytes : List ℕ) (place : LinePlace) : Type 0 where
  pub count : ℕ
  pub within : count ≤ length bytes
  pub behind : IsPlaceBehind (take count bytes) place
