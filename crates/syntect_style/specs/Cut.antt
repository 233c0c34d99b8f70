-- Pieces of a line that are cut at a byte.
use Rattle.std.specs.Prelude.{◌≡◌, ℕ, zero, suc, ◌-◌, ◌<◌, ◌≤◌, nat_le, List, [], ◌∷◌, ◌++◌, length, map, take, drop, if◌then◌else◌, IsUtf8}
use Rattle.std.specs.Borrow.{Bor}
use Rattle.std.specs.List.{flat_map}
use Rattle.std.specs.Str.{IsCharBoundary}
use Rattle.syntect_theme.specs.Modifying.{restyled}
use Rattle.syntect_theme.specs.declared.style.Style.{Style}
use Rattle.syntect_theme.specs.declared.style.StyleModifier.{StyleModifier}

-- the longest front of whole characters with at most so many bytes
pub record IsFront (text : List ℕ) (limit front : ℕ) : Type 0 where
  pub bound : front ≤ limit
  pub boundary : IsCharBoundary text front
  pub longest : (i : ℕ) → front < i → i ≤ limit → ¬ (IsCharBoundary text i)

module _ {A : Type 0} where
  -- pieces without where they lie
  abbrev pub plain : List (A × Bor (List ℕ)) → List (A × List ℕ)
  plain pieces = map (λ p. (p.0, p.1.now)) pieces

  -- the pieces that lie in the first so many bytes as a whole
  abbrev pub whole : ℕ → List (A × List ℕ) → List (A × List ℕ)
  whole n [] = []
  whole n (p ∷ ps) = if nat_le (length p.1) n then p ∷ whole (n - length p.1) ps else []

  -- how many of the bytes are left after them
  abbrev pub bytes_left : ℕ → List (A × List ℕ) → ℕ
  bytes_left n [] = n
  bytes_left n (p ∷ ps) = if nat_le (length p.1) n then bytes_left (n - length p.1) ps else n

  -- the pieces after them
  abbrev pub others : ℕ → List (A × List ℕ) → List (A × List ℕ)
  others n [] = []
  others n (p ∷ ps) = if nat_le (length p.1) n then others (n - length p.1) ps else p ∷ ps

  -- of pieces with so many bytes left, the first is cut where bytes are left
  abbrev pub cut_front : ℕ → ℕ → List (A × List ℕ) → List (A × List ℕ)
  cut_front front zero ps = []
  cut_front front (suc n) [] = []
  cut_front front (suc n) (p ∷ ps) = (p.0, take front p.1) ∷ []

  abbrev pub cut_back : ℕ → ℕ → List (A × List ℕ) → List (A × List ℕ)
  cut_back front zero ps = ps
  cut_back front (suc n) [] = []
  cut_back front (suc n) (p ∷ ps) = (p.0, drop front p.1) ∷ ps

  abbrev pub CutsFirst : ℕ → ℕ → List (A × List ℕ) → Type 0
  CutsFirst front zero ps = Unit {0}
  CutsFirst front (suc n) [] = Unit {0}
  CutsFirst front (suc n) (p ∷ ps) = IsFront p.1 (suc n) front

  -- Pieces that are cut at a byte: whole pieces as long as they fit, then a front of the next one
  -- where bytes are left, and the rest.
  pub record IsCut (n : ℕ) (ps first second : List (A × List ℕ)) : Type 0 where
    pub front : ℕ
    pub cuts : CutsFirst front (bytes_left n ps) (others n ps)
    pub first_is : first ≡ whole n ps ++ cut_front front (bytes_left n ps) (others n ps)
    pub second_is : second ≡ cut_back front (bytes_left n ps) (others n ps)

  -- ---- what the two parts are together ----

  -- the text of pieces
  abbrev pub joined : List (A × List ℕ) → List ℕ
  joined ps = flat_map (λ p. p.1) ps

  -- its bytes, each with the attribute of its piece
  abbrev pub shown : List (A × List ℕ) → List (A × ℕ)
  shown ps = flat_map (λ p. map (λ b. (p.0, b)) p.1) ps

  -- each piece is a text of UTF-8
  abbrev pub AreTexts : List (A × List ℕ) → Type 0
  AreTexts [] = Unit {0}
  AreTexts (p ∷ ps) = IsUtf8 p.1 × AreTexts ps

  -- Two parts of pieces: they join to the text, and each byte keeps its attribute. The text of the
  -- first is the longest front of whole characters with at most so many bytes.
  pub record IsParted (n : ℕ) (ps first second : List (A × List ℕ)) : Type 0 where
    pub text : joined first ++ joined second ≡ joined ps
    pub attributes : shown first ++ shown second ≡ shown ps
    pub longest : AreTexts ps → IsFront (joined ps) n (length (joined first))

-- the styles of pieces, changed
abbrev pub changed : StyleModifier → List (Style × List ℕ) → List (Style × List ℕ)
changed modifier ps = map (λ p. (restyled modifier p.0, p.1)) ps

-- pieces between two bytes are changed: they are cut at the first,
-- and what is after it at the second
pub record IsModified (start end : ℕ) (modifier : StyleModifier)
    (ps new : List (Style × List ℕ)) : Type 0 where
  pub before : List (Style × List ℕ)
  pub behind : List (Style × List ℕ)
  pub inside : List (Style × List ℕ)
  pub after : List (Style × List ℕ)
  pub at_start : IsCut start ps before behind
  pub at_end : IsCut (end - start) behind inside after
  pub joined : new ≡ before ++ (changed modifier inside ++ after)
