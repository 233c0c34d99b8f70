-- Laws of the definitions.
use Rattle.std.specs.Prelude.{◌≡◌, ℕ, List}
use Rattle.syntect_scope.specs.Repository.{atom_texts, scope_in, scope_text, with_atoms, without_dots}

-- the text of a scope that was built of a text is that text without the dots at its end
abbrev pub BuildsBack : Type 0
BuildsBack =
    (repo : List (List ℕ)) (text : List ℕ) → scope_text (with_atoms repo (atom_texts text)) (scope_in (with_atoms repo (atom_texts text)) text) ≡ without_dots text
