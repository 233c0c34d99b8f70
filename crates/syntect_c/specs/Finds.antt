-- Languages that are found for a text.
use Rattle.std.specs.Prelude.{◌≡◌, List, ℕ, Option, Some, None, string_bytes}
use Rattle.syntect_assets.specs.declared.assets.Assets.{Assets}
use Rattle.syntect_assets.specs.syntect_grammar.Finding.{found_by_file_name, found_by_first_line}
use Rattle.syntect_assets.specs.syntect_grammar.declared.syntax_set.SyntaxSet.{SyntaxSet}
use Rattle.syntect_assets.specs.syntect_grammar_contexts.declared.syntax_reference.SyntaxReference.{SyntaxReference}
use Rattle.syntect_c.specs.declared.set.SetContent.{SetContent}
use Rattle.syntect_c.specs.declared.set.Stage.{Stage}

-- the first, or where there is none the second
abbrev pub first_of : {X : Type 0} → Option X → Option X → Option X
first_of (Some x) other = Some x
first_of None other = other

-- the language of a text: what the name of its file tells, or else its first line
abbrev pub language_for : SyntaxSet → List ℕ → List ℕ → Option SyntaxReference
language_for set file line = first_of (found_by_file_name set file) (found_by_first_line set line)

-- the output is the name of the language of a text
pub record Finds (file line : List ℕ) (content : SetContent) : Type 0 where
  pub assets : Assets
  pub linked : content.stage ≡ Stage.Linked assets
  pub syntax : SyntaxReference
  pub found : language_for assets.set file line ≡ Some syntax
  pub told : string_bytes content.output ≡ syntax.name

-- so does that of what is held
pub record FindsHeld (file line : List ℕ) (held : Option SetContent) : Type 0 where
  pub content : SetContent
  pub held_is : held ≡ Some content
  pub finds : Finds file line content
