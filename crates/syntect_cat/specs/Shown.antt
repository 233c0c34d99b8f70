-- The text that shows a file. `Told` is what calls on the tree told.
use Rattle.std.specs.Prelude.{◌≡◌, ℕ, true, List, [], Option, String}
use Rattle.std.specs.Global.{Global}
use Rattle.std.specs.declared.io.Error.{Error as IoError}
use Rattle.syntect_cat.specs.syntect_base.Limiting.{usual}
use Rattle.syntect_cat.specs.syntect_base.Trees.{Answer, has_bytes}
use Rattle.syntect_cat.specs.syntect_base.declared.limits.LimitReached.{LimitReached as AReached}
use Rattle.syntect_cat.specs.syntect_grammar_limits.FoldersWithin.{AddsFolderWithin, RefusesFolderWithin}
use Rattle.syntect_cat.specs.syntect_grammar_limits.declared.folder_error.FolderWithinError.TheVariants.{LimitReached}
use Rattle.syntect_cat.specs.syntect_easy.Files.{IsTextFault}
use Rattle.syntect_cat.specs.syntect_grammar.Folders.{no_definitions}
use Rattle.syntect_cat.specs.syntect_grammar.Link.{definitions_in, paths_in, syntaxes_in, set_paths, linked}
use Rattle.syntect_cat.specs.syntect_grammar.Metadata.{entries_in, kept_sets, metadata_in, IsMergedOf}
use Rattle.syntect_cat.specs.syntect_grammar.PlainText.{AddsPlainText}
use Rattle.syntect_cat.specs.syntect_grammar.declared.syntax_set.SyntaxSet.{SyntaxSet}
use Rattle.syntect_cat.specs.syntect_grammar.declared.syntax_set.SyntaxSetBuilder.{SyntaxSetBuilder}
use Rattle.syntect_cat.specs.syntect_theme_files.ThemeFiles.{IsThemeOf}
use Rattle.syntect_cat.specs.syntect_theme.declared.theme.Theme.{Theme}
use Rattle.syntect_cat.specs.Texts.{ShowsFile}
use Rattle.syntect_cat.specs.Words.{words_for}
use Rattle.syntect_cat.specs.declared.fault.Fault.{Fault}
use Rattle.syntect_cat.specs.declared.fault.Fault.TheVariants.{Limit, File}
use Rattle.syntect_cat.specs.declared.job.Format.{Format}
use Rattle.syntect_cat.specs.declared.note.Note.{Note}

-- ---- For proofs and private functions alone ----

-- The set links the syntax of plain text and the grammars in a folder, read for lines with newlines
-- and within the usual limits, and has the metadata there.
-- All is read with a repository that was empty and has become this one.
pub record IsSetOf (Told : Answer → Type 0) (folder : List ℕ) (repository : List (List ℕ))
    (set : SyntaxSet) : Type 0 where
  pub plain : SyntaxSetBuilder
  pub all : SyntaxSetBuilder
  pub left : List (List ℕ)
  pub found : List (List ℕ)
  pub adds_plain : AddsPlainText no_definitions plain [] left
  pub no_entries : entries_in plain ≡ []
  pub nothing_kept : kept_sets plain ≡ []
  pub adds_folder : AddsFolderWithin Told usual true folder left plain found all
  pub syntaxes : syntaxes_in set ≡ linked (definitions_in all)
  pub paths : set_paths set ≡ paths_in all
  pub metadata : IsMergedOf found all repository (metadata_in set)

-- The grammar in the file of this path passes the limit: it is the first in the folder that gives
-- no definition.
pub record PassesLimit (Told : Answer → Type 0) (folder : List ℕ) (r : AReached)
    (path : String Global) : Type 0 where
  pub plain : SyntaxSetBuilder
  pub all : SyntaxSetBuilder
  pub left : List (List ℕ)
  pub found : List (List ℕ)
  pub adds_plain : AddsPlainText no_definitions plain [] left
  pub refuses : RefusesFolderWithin Told usual true folder left plain (LimitReached r path)
      found all

-- why a fault is reported: a limit, as a grammar in the folder passes it; the file, as it wasn't
-- opened, for a fault, or then not read further, or is no text
abbrev pub HasReason : (Told : Answer → Type 0) → List ℕ → List ℕ → Fault → Type 0
HasReason Told folder file (Limit r path) = PassesLimit Told folder r path
HasReason Told folder file File = (e : IoError) × IsTextFault Told file e
HasReason Told folder file fault = Unit {0}

-- the same where folder and file are those that these words name
abbrev pub HasReasonFor : (Told : Answer → Type 0) → List (List ℕ) → Fault → Type 0
HasReasonFor Told words fault =
    (folder theme file : List ℕ) (format : Format)
    → words ≡ words_for folder theme format file → HasReason Told folder file fault

-- The text shows the file by the grammars of the folder and the theme of the bytes that were read
-- of its path, and this is reported of limits that were reached.
pub record IsShown (Told : Answer → Type 0) (folder path : List ℕ) (format : Format)
    (file text : List ℕ) (note : Option Note) : Type 0 where
  pub repository : List (List ℕ)
  pub after : List (List ℕ)
  pub set : SyntaxSet
  pub bytes : List ℕ
  pub theme : Theme
  pub set_is : IsSetOf Told folder repository set
  pub theme_read : Told (has_bytes path bytes)
  pub theme_is : IsThemeOf repository bytes after theme
  pub shows : ShowsFile Told format set theme file text note

-- the text is what these words ask for, and this is reported of it
abbrev pub IsAskedFor : (Told : Answer → Type 0) → List (List ℕ) → List ℕ → Option Note → Type 0
IsAskedFor Told words text note =
    (folder theme file : List ℕ) × (format : Format) × (words ≡ words_for folder theme format file)
    × IsShown Told folder theme format file text note
