-- What the text of a selector, and of a union of selectors, names.
use Rattle.std.specs.Prelude.{ℕ, ◌==◌, ◌&&◌, List, [], ◌∷◌, map, if◌then◌else◌, Option, Some, None}
use Rattle.std.specs.List.{slice_split, onto_first, flat_map}
use Rattle.syntect_scope.specs.Repository.{scope_in}
use Rattle.syntect_scope.specs.Stack.{plain}
use Rattle.syntect_scope.specs.Words.{words}
use Rattle.syntect_scope.specs.declared.selector.ScopeSelector.{ScopeSelector}
use Rattle.syntect_scope.specs.declared.stack.ScopeStack.{ScopeStack}

-- ---- how a text is cut ----

-- the parts of a union: at commas, and these at bars
abbrev pub union_parts : List ℕ → List (List ℕ)
union_parts text = flat_map (slice_split (λ b. b == 124)) (slice_split (λ b. b == 44) text)

-- the parts of a selector: at each space with a hyphen after it
abbrev pub hyphen_parts : List ℕ → List (List ℕ)
hyphen_parts [] = [] ∷ []
hyphen_parts (b ∷ []) = (b ∷ []) ∷ []
hyphen_parts (b ∷ c ∷ rest) = if (b == 32) && (c == 45) then [] ∷ hyphen_parts rest else onto_first b (hyphen_parts (c ∷ rest))

-- ---- what the parts name ----

-- the texts of a selector's scopes, in the order of the text
abbrev pub selector_words : List ℕ → List (List ℕ)
selector_words text = flat_map words (hyphen_parts text)

-- the texts of all scopes of a union
abbrev pub union_words : List ℕ → List (List ℕ)
union_words text = flat_map selector_words (union_parts text)

-- the stack of the scopes that a part names in a repository
abbrev pub stack_in : List (List ℕ) → List ℕ → ScopeStack
stack_in repo text = plain (map (scope_in repo) (words text))

-- the first stack is the path, the others are the exclusions
abbrev pub selector_of : List ScopeStack → ScopeSelector
selector_of [] = record { path = plain []; excludes = [] }
selector_of (path ∷ exclusions) = record { path = path; excludes = exclusions }

-- the selector that a text names in a repository
abbrev pub selector_in : List (List ℕ) → List ℕ → ScopeSelector
selector_in repo text = selector_of (map (stack_in repo) (hyphen_parts text))

-- the selectors of a union
abbrev pub selectors_in : List (List ℕ) → List ℕ → List ScopeSelector
selectors_in repo text = map (selector_in repo) (union_parts text)

-- ---- selectors of one scope ----

-- the scope of a list that has just this one
abbrev pub only_scope : List (List ℕ) → Option (List ℕ)
only_scope [] = None
only_scope (scope ∷ []) = Some scope
only_scope (scope ∷ other ∷ scopes) = None

-- the scope of a selector that has one scope and no exclusion
abbrev pub sole_scope : ScopeSelector → Option (List ℕ)
sole_scope selector = without selector.excludes (only_scope selector.path.scopes)
  where
    without : List ScopeStack → Option (List ℕ) → Option (List ℕ)
    without [] scope = scope
    without (exclusion ∷ exclusions) scope = None
