-- What linking left unresolved in a set, as texts.
use Rattle.std.specs.Prelude.{ℕ, List}
use Rattle.std.specs.List.{flat_map}
use Rattle.syntect_grammar_linker.specs.Unlinked.{unlinked_of}
use Rattle.syntect_grammar.specs.Link.{syntaxes_in}
use Rattle.syntect_grammar.specs.declared.syntax_set.SyntaxSet.{SyntaxSet}

-- those of a set
abbrev pub unlinked_in : List (List ℕ) → SyntaxSet → List (List ℕ)
unlinked_in atoms set = flat_map (unlinked_of atoms) (syntaxes_in set)
