-- Texts of scopes and the repository of atoms: the list of the atoms' texts, where atom k is the
-- k-th text, from 1.
use Rattle.std.specs.Prelude.{◌≡◌, ℕ, zero, suc, ◌==◌, nat_lt, ◌+◌, ◌≤◌, Bool, false, List, [], ◌∷◌, ◌++◌, length, map, is_some, if◌then◌else◌, Option, Some, None, unwrap_or, slice_get}
use Rattle.std.specs.Option.{option_map_or}
use Rattle.std.specs.List.{slice_split, position_from, list_any, join_with_byte}
use Rattle.std.specs.Str.{bytes_eq}
use Rattle.syntect_scope.specs.declared.repository.ParseScopeError.{ParseScopeError}
use Rattle.syntect_scope.specs.declared.repository.ParseScopeError.TheVariants.{TooLong, TooManyAtoms, Memory}

-- ---- the atoms of a text ----

-- a byte before a text that has no dot at its end
abbrev pub onto : ℕ → List ℕ → List ℕ
onto b [] = if b == 46 then [] else b ∷ []
onto b (x ∷ xs) = b ∷ x ∷ xs

-- the text without the dots at its end
abbrev pub without_dots : List ℕ → List ℕ
without_dots [] = []
without_dots (b ∷ bs) = onto b (without_dots bs)

-- the parts of a text between its dots
abbrev pub between_dots : List ℕ → List (List ℕ)
between_dots text = slice_split (λ b. b == 46) text

-- the texts of the atoms that a text names: none for the empty text, else the parts between dots
abbrev pub atom_texts : List ℕ → List (List ℕ)
atom_texts [] = []
atom_texts (b ∷ bs) = between_dots (without_dots (b ∷ bs))

-- ---- the repository ----

-- no text stands twice
abbrev pub IsDistinct : List (List ℕ) → Type 0
IsDistinct [] = Unit {0}
IsDistinct (t ∷ ts) = (list_any (bytes_eq t) ts ≡ false) × IsDistinct ts

-- at most 65534 texts, each once
pub record IsRepository (repo : List (List ℕ)) : Type 0 where
  pub limit : length repo ≤ 65534
  pub distinct : IsDistinct repo

-- the place of a text
abbrev pub place_in : List (List ℕ) → List ℕ → Option ℕ
place_in repo t = position_from (bytes_eq t) 0 repo

-- the number of a text, and 0 where there is none
abbrev pub number_in : List (List ℕ) → List ℕ → ℕ
number_in repo t = option_map_or (λ i. i + 1) (place_in repo t) 0

-- the repository with a text, put last unless it is there
abbrev pub with_atom : List (List ℕ) → List ℕ → List (List ℕ)
with_atom repo t = if is_some (place_in repo t) then repo else repo ++ t ∷ []

-- the repository with each of the texts
abbrev pub with_atoms : List (List ℕ) → List (List ℕ) → List (List ℕ)
with_atoms repo [] = repo
with_atoms repo (t ∷ ts) = with_atoms (with_atom repo t) ts

-- the scope that a text names in a repository
abbrev pub scope_in : List (List ℕ) → List ℕ → List ℕ
scope_in repo text = map (number_in repo) (atom_texts text)

-- the repository with the atoms of each of the scopes
abbrev pub with_scopes : List (List ℕ) → List (List ℕ) → List (List ℕ)
with_scopes repo [] = repo
with_scopes repo (text ∷ texts) = with_scopes (with_atoms repo (atom_texts text)) texts

-- a text names more than eight atoms
abbrev pub is_too_long : List ℕ → Bool
is_too_long text = nat_lt 8 (length (atom_texts text))

-- the refusal of the first of the scopes that a repository can't take, if there is one: too many
-- atoms in the text, or more in the repository than it can hold
abbrev pub first_refusal : List (List ℕ) → List (List ℕ) → Option ParseScopeError
first_refusal repo [] = None
first_refusal repo (text ∷ texts) =
    if is_too_long text then Some TooLong
    else if nat_lt 65534 (length (with_atoms repo (atom_texts text))) then Some TooManyAtoms
    else first_refusal (with_atoms repo (atom_texts text)) texts

-- lack of memory, or this refusal
abbrev pub IsRefusalOrMemory : Option ParseScopeError → ParseScopeError → Type 0
IsRefusalOrMemory o Memory = Unit {0}
IsRefusalOrMemory o TooLong = o ≡ Some TooLong
IsRefusalOrMemory o TooManyAtoms = o ≡ Some TooManyAtoms

-- ---- the text of a scope ----

-- the text of an atom number, if the repository has it
abbrev pub atom_in : List (List ℕ) → ℕ → Option (List ℕ)
atom_in repo zero = None
atom_in repo (suc i) = slice_get repo i

-- the same, and a question mark for a number that it does not have
abbrev pub atom_text : List (List ℕ) → ℕ → List ℕ
atom_text repo n = unwrap_or (atom_in repo n) (63 ∷ [])

-- the texts of the atoms, joined by dots
abbrev pub scope_text : List (List ℕ) → List ℕ → List ℕ
scope_text repo scope = join_with_byte 46 (map (atom_text repo) scope)

-- the texts of scopes, each followed by one space
abbrev pub scopes_text : List (List ℕ) → List (List ℕ) → List ℕ
scopes_text repo [] = []
scopes_text repo (scope ∷ scopes) = scope_text repo scope ++ 32 ∷ scopes_text repo scopes
