-- Classes of scopes, and the tags of their spans.
use Rattle.std.specs.Prelude.{ℕ, List, [], ◌++◌, map, codes}
use Rattle.std.specs.List.{join_with_byte}
use Rattle.syntect_writers.specs.declared.class_style.ClassStyle.{ClassStyle}
use Rattle.syntect_writers.specs.declared.class_style.ClassStyle.TheVariants.{Spaced, SpacedPrefixed}
use Rattle.syntect_writers.specs.syntect_scope.Repository.{atom_text}
use Rattle.syntect_writers.specs.Entities.{escaped}

-- what stands before each atom
abbrev pub prefix_of : ClassStyle → List ℕ
prefix_of Spaced = []
prefix_of (SpacedPrefixed prefix) = prefix.now

-- the class of an atom, as HTML writes it
abbrev pub class_text : List ℕ → List (List ℕ) → ℕ → List ℕ
class_text prefix repo atom = escaped (prefix ++ atom_text repo atom)

-- the classes of a scope, those of its atoms, with spaces between
abbrev pub classes_text : List ℕ → List (List ℕ) → List ℕ → List ℕ
classes_text prefix repo scope = join_with_byte 32 (map (class_text prefix repo) scope)

-- the tag that opens the span of a scope
abbrev pub opening_tag : List ℕ → List (List ℕ) → List ℕ → List ℕ
opening_tag prefix repo scope =
    codes "<span class=\"" ++ (classes_text prefix repo scope ++ codes "\">")

-- the tag that closes a span
abbrev pub closing_tag : List ℕ
closing_tag = codes "</span>"
