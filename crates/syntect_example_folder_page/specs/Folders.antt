-- What a caller of a folder of grammars is told. `Told` is what calls on the tree told.
use Rattle.std.specs.Prelude.{◌≡◌, ℕ, true, List, [], Some}
use Rattle.syntect.specs.Finding.{found_by_extension}
use Rattle.syntect.specs.Folders.{AddsFolder}
use Rattle.syntect.specs.Link.{definitions_in, linked, syntaxes_in}
use Rattle.syntect.specs.Pages.{IsPage}
use Rattle.syntect.specs.PlainText.{AddsPlainText}
use Rattle.syntect.specs.SyntaxReference.{SyntaxReference}
use Rattle.syntect.specs.SyntaxSet.{SyntaxSet}
use Rattle.syntect.specs.SyntaxSetBuilder.{SyntaxSetBuilder}
use Rattle.syntect.specs.Theme.{Theme}
use Rattle.syntect.specs.Trees.{Answer}

-- ---- For proofs and private functions alone ----

-- The page shows the text's lines as they read in the last syntax of an extension, of the set that
-- links plain text and the grammars of a folder, as its files were read.
pub record ShowsText (Told : Answer → Type 0) (folder extension : List ℕ)
    (repository : List (List ℕ)) (theme : Theme) (text page : List ℕ) : Type 0 where
  pub nothing : SyntaxSetBuilder
  pub plain : SyntaxSetBuilder
  pub all : SyntaxSetBuilder
  pub left : List (List ℕ)
  pub found : List (List ℕ)
  pub no_definition : definitions_in nothing ≡ []
  pub adds_plain : AddsPlainText nothing plain repository left
  pub adds_folder : AddsFolder Told true folder left plain found all
  pub set : SyntaxSet
  pub links : syntaxes_in set ≡ linked (definitions_in all)
  pub syntax : SyntaxReference
  pub last : Some syntax ≡ found_by_extension set extension
  pub shows : IsPage set theme syntax text page
