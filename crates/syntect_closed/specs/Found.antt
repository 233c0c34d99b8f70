-- What finders answer for heads.
use Rattle.std.specs.Prelude.{◌≡◌, ℕ, List, [], map, Option}
use Rattle.std.specs.Option.{option_map}
use Rattle.syntect_closed.specs.syntect_grammar.Contexts.{syntaxes_in, set_paths}
use Rattle.syntect_closed.specs.syntect_grammar.Finding.{found_by_scope, found_by_name, found_by_extension, found_by_token, found_plain_text, found_by_first_line, found_by_path, found_by_file_name, found_for_file}
use Rattle.syntect_closed.specs.syntect_grammar.Link.{linked}
use Rattle.syntect_closed.specs.Shelved.{Whole, shelved}
use Rattle.syntect_closed.specs.syntect_grammar_contexts.declared.syntax_reference.SyntaxReference.{SyntaxReference}
use Rattle.syntect_closed.specs.syntect_grammar_loader.declared.definition.SyntaxDefinition.{SyntaxDefinition}
use Rattle.syntect_closed.specs.syntect_grammar.declared.syntax_set.SyntaxSet.{SyntaxSet}

-- what finders look at, and the place: a syntax without its variables, and without its contexts and
-- their names
abbrev pub seen_head : SyntaxReference → SyntaxReference
seen_head s = record s { variables = []; names = []; contexts = [] }

-- the heads of a set
abbrev pub heads_in : SyntaxSet → List SyntaxReference
heads_in set = map seen_head (syntaxes_in set)

-- what was found is the same as far as its head goes: it stands at the same place
abbrev pub SameHead : Option SyntaxReference → Option SyntaxReference → Type 0
SameHead a b = option_map seen_head a ≡ option_map seen_head b

-- each finder finds the same in both sets, as far as heads go
pub record FindAlike (a b : SyntaxSet) : Type 0 where
  pub by_scope : (scope : List ℕ) → SameHead (found_by_scope a scope) (found_by_scope b scope)
  pub by_name : (name : List ℕ) → SameHead (found_by_name a name) (found_by_name b name)
  pub by_extension : (extension : List ℕ)
      → SameHead (found_by_extension a extension) (found_by_extension b extension)
  pub by_token : (token : List ℕ) → SameHead (found_by_token a token) (found_by_token b token)
  pub plain_text : SameHead (found_plain_text a) (found_plain_text b)
  pub by_first_line : (line : List ℕ)
      → SameHead (found_by_first_line a line) (found_by_first_line b line)
  pub by_file_name : (path : List ℕ)
      → SameHead (found_by_file_name a path) (found_by_file_name b path)
  pub for_file : (path line : List ℕ)
      → SameHead (found_for_file a path line) (found_for_file b path line)
  pub by_path : set_paths a ≡ set_paths b → (path : List ℕ)
      → SameHead (found_by_path a path) (found_by_path b path)

-- Sets of the same heads find alike.
abbrev pub HeadsFindAlike : Type 0
HeadsFindAlike = (a b : SyntaxSet) → heads_in a ≡ heads_in b → FindAlike a b

-- A set in which some definitions stand as heads alone has the heads of the set of all.
abbrev pub ShelvedHaveHeads : Type 0
ShelvedHaveHeads = (whole : Whole) (ds : List SyntaxDefinition) (all some : SyntaxSet)
    → syntaxes_in all ≡ linked ds → syntaxes_in some ≡ linked (shelved whole 0 ds)
    → heads_in some ≡ heads_in all
