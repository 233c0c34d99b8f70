-- How a path of scopes is found in a stack of scopes, and what a selector scores there.
use Rattle.std.specs.Prelude.{ℕ, suc, ◌+◌, ◌*◌, ◌^◌, nat_le, Bool, true, ◌&&◌, List, [], ◌∷◌, ◌++◌, length, map, max, if◌then◌else◌, Option, Some, None, is_some}
use Rattle.std.specs.Option.{option_map}
use Rattle.std.specs.List.{find, list_all, list_any}
use Rattle.syntect_scope.specs.Atoms.{is_prefix}
use Rattle.syntect_scope.specs.declared.selector.ScopeSelector.{ScopeSelector}
use Rattle.syntect_scope.specs.declared.stack.ScopeStack.{ScopeStack}

-- ---- choices ----

-- All choices for a path in the part of a stack that begins at a place: rising places, one for each
-- scope of the path, which is a prefix of the scope of the stack there.
abbrev pub choices : List (List ℕ) → List (List ℕ) → ℕ → List (List ℕ)
choices [] stack at = [] ∷ []
choices (s ∷ path) [] at = []
choices (s ∷ path) (t ∷ stack) at =
    (if is_prefix s t then map (λ ps. at ∷ ps) (choices path stack (suc at)) else []) ++ choices (s ∷ path) stack (suc at)

-- no place of the first choice lies above that of the second
abbrev pub is_below : List ℕ → List ℕ → Bool
is_below (p ∷ ps) (q ∷ qs) = nat_le p q && is_below ps qs
is_below [] qs = true
is_below (p ∷ ps) [] = true

-- the choice whose places are the lowest, each of them, if there is a choice
abbrev pub least_choice : List (List ℕ) → List (List ℕ) → Option (List ℕ)
least_choice path stack = find (λ ps. list_all (is_below ps) (choices path stack 0)) (choices path stack 0)

-- ---- scores ----

-- the atoms of each scope of a path, weighed by the place that was chosen for it
abbrev pub score_at : List (List ℕ) → List ℕ → ℕ
score_at (s ∷ path) (p ∷ ps) = length s * 8 ^ p + score_at path ps
score_at [] ps = 0
score_at (s ∷ path) [] = 0

-- the score of a path in a stack, if it has a choice there
abbrev pub path_score : List (List ℕ) → List (List ℕ) → Option ℕ
path_score path stack = option_map (score_at path) (least_choice path stack)

-- the score of a stack that serves as a path: none where it has no scopes
abbrev pub stack_score : List (List ℕ) → List (List ℕ) → Option ℕ
stack_score [] stack = None
stack_score (s ∷ path) stack = path_score (s ∷ path) stack

-- an exclusion that is empty or has a choice
abbrev pub excludes : List (List ℕ) → ScopeStack → Bool
excludes stack exclusion = is_some (least_choice exclusion.scopes stack)

-- 1 for the empty path
abbrev pub unexcluded_score : List (List ℕ) → List (List ℕ) → Option ℕ
unexcluded_score [] stack = Some 1
unexcluded_score (s ∷ path) stack = path_score (s ∷ path) stack

-- the score of a selector in a stack: none where an exclusion holds or the path has no choice
abbrev pub selector_score : ScopeSelector → List (List ℕ) → Option ℕ
selector_score selector stack =
    if list_any (excludes stack) selector.excludes then None else unexcluded_score selector.path.scopes stack

-- the greater of two scores
abbrev pub greater_score : Option ℕ → Option ℕ → Option ℕ
greater_score None q = q
greater_score (Some m) None = Some m
greater_score (Some m) (Some n) = Some (max m n)

-- the score of a union: that of its greatest member
abbrev pub union_score : List ScopeSelector → List (List ℕ) → Option ℕ
union_score [] stack = None
union_score (selector ∷ selectors) stack = greater_score (selector_score selector stack) (union_score selectors stack)
