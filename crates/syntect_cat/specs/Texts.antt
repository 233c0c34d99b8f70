-- The text that shows a file, in each format.
use Rattle.std.specs.Prelude.{◌≡◌, ℕ, List, Option, IsUtf8}
use Rattle.syntect_cat.specs.syntect_base.Limiting.{usual}
use Rattle.syntect_cat.specs.syntect_base.Trees.{Answer, opened}
use Rattle.syntect_cat.specs.syntect_easy.Files.{IsTextFault}
use Rattle.syntect_cat.specs.syntect_grammar.declared.error.Error.{Error}
use Rattle.syntect_cat.specs.syntect_grammar.declared.error.Error.TheVariants as error
use Rattle.syntect_cat.specs.syntect_grammar_contexts.declared.syntax_reference.SyntaxReference.{SyntaxReference}
use Rattle.syntect_cat.specs.syntect_grammar.declared.syntax_set.SyntaxSet.{SyntaxSet}
use Rattle.syntect_cat.specs.syntect_parsing.declared.within.LineLimit.{LineLimit}
use Rattle.syntect_cat.specs.syntect_theme.declared.theme.Theme.{Theme}
use Rattle.syntect_cat.specs.syntect_easy.Files.{IsToldWithin}
use Rattle.syntect_cat.specs.syntect_easy.Rows.{IsTextOf}
use Rattle.syntect_cat.specs.syntect_grammar_limits.declared.first_line_error.FirstLineLimit.{FirstLineLimit}
use Rattle.syntect_cat.specs.syntect_assets.Texts.{IsWritten}
use Rattle.syntect_cat.specs.syntect_assets.declared.format.Format.{Format as Form}
use Rattle.syntect_cat.specs.syntect_assets.declared.format.Format.TheVariants as form
use Rattle.syntect_cat.specs.Notes.{note_of}
use Rattle.syntect_cat.specs.declared.note.Note.{Note}
use Rattle.syntect_cat.specs.declared.job.Format.{Format}
use Rattle.syntect_cat.specs.declared.job.Format.TheVariants.{Html, Terminal}

-- ---- For proofs and private functions alone ----

-- what texts are written as
abbrev pub form_of : Format → Form
form_of Html = form.Html
form_of Terminal = form.Terminal

-- All shows the text of the file that was opened at the path, in the syntax of its path or of what
-- it had ahead, or as plain text where that was not found, within the usual limits, of which this
-- is reported. `Told` is what calls on the tree told.
pub record ShowsFile (Told : Answer → Type 0) (format : Format) (set : SyntaxSet) (theme : Theme)
    (path all : List ℕ) (note : Option Note) : Type 0 where
  pub left : Option (List ℕ)
  pub told : Told (opened path left)
  pub syntax : SyntaxReference
  pub limit : Option FirstLineLimit
  pub syntax_is : IsToldWithin usual set path left syntax limit
  pub first : Option (ℕ × LineLimit)
  pub note_is : note ≡ note_of limit first
  pub text : List ℕ
  pub whole : IsTextOf left text
  pub utf8 : IsUtf8 text
  pub written : IsWritten usual (form_of format) set theme syntax text all first

-- a fault of the file: it wasn't opened, for this fault; or it was, and then not read further, or it
-- is no text
abbrev pub IsFaultOfFile : (Told : Answer → Type 0) → List ℕ → Error → Type 0
IsFaultOfFile Told path (error.Io e) = IsTextFault Told path e
IsFaultOfFile Told path e = Unit {0}
