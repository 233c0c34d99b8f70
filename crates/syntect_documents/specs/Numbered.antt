-- Texts as HTML with inline styles, each line in a span of its own.
use Rattle.std.specs.Prelude.{◌≡◌, ℕ, ◌+◌, List, [], ◌∷◌, ◌++◌, Option, Some, IsUtf8, string_bytes}
use Rattle.std.specs.Borrow.{Bor}
use Rattle.syntect_documents.specs.syntect_base.Trees.{Answer, opened}
use Rattle.syntect_documents.specs.syntect_base.declared.limits.Limits.{Limits}
use Rattle.syntect_documents.specs.syntect_grammar_contexts.declared.syntax_reference.SyntaxReference.{SyntaxReference}
use Rattle.syntect_documents.specs.syntect_grammar.declared.syntax_set.SyntaxSet.{SyntaxSet}
use Rattle.syntect_documents.specs.syntect_parsing.declared.within.LineLimit.{LineLimit}
use Rattle.syntect_documents.specs.syntect_assets.syntect_theme.declared.style.Style.{Style}
use Rattle.syntect_documents.specs.syntect_assets.syntect_theme.declared.theme.Theme.{Theme}
use Rattle.syntect_documents.specs.syntect_writers.Classes.{closing_tag}
use Rattle.syntect_documents.specs.syntect_writers.Spans.{line_text, opening, closing, background_of}
use Rattle.syntect_documents.specs.syntect_writers.declared.html.IncludeBackground.{IncludeBackground}
use Rattle.syntect_documents.specs.syntect_writers.declared.html.IncludeBackground.TheVariants.{IfDifferent}
use Rattle.syntect_documents.specs.syntect_easy.Files.{IsToldWithin}
use Rattle.syntect_documents.specs.syntect_easy.PlainLines.{AreLinesOf, Shown, first_plain, pieces_in}
use Rattle.syntect_documents.specs.syntect_easy.Rows.{IsTextOf}
use Rattle.syntect_documents.specs.syntect_assets.Assets.{language_named}
use Rattle.syntect_documents.specs.syntect_assets.declared.assets.Assets.{Assets}
use Rattle.syntect_documents.specs.syntect_assets.declared.assets.Shown.{Shown as ShownText}
use Rattle.syntect_documents.specs.Lines.{line_tag}
use Rattle.syntect_documents.specs.declared.lines.LineForm.{LineForm}

-- a line in styled pieces, as the one of a number
abbrev pub numbered_line : LineForm → IncludeBackground → ℕ → List (Style × Bor (List ℕ)) → List ℕ
numbered_line form spans number pieces =
    line_tag form number ++ (line_text spans pieces ++ closing_tag)

-- lines, the first of which has this number
abbrev pub numbered_lines : LineForm → IncludeBackground → ℕ → List Shown → List ℕ
numbered_lines form spans number [] = []
numbered_lines form spans number (line ∷ lines) =
    numbered_line form spans number (pieces_in line)
    ++ numbered_lines form spans (number + 1) lines

-- the lines of a text by a theme, whose own colour behind them isn't told again
abbrev pub body_of : LineForm → Theme → List Shown → List ℕ
body_of form theme lines =
    numbered_lines form (IfDifferent (background_of theme)) form.first lines

-- All is the text's lines, each read within the limits or plain, in the theme's frame; `first` is
-- the first plain line, by its number from one, and its limit.
pub record IsNumbered (limits : Limits) (form : LineForm) (set : SyntaxSet) (theme : Theme)
    (syntax : SyntaxReference) (text all : List ℕ) (first : Option (ℕ × LineLimit)) : Type 0 where
  pub lines : List Shown
  pub are_lines : AreLinesOf limits set theme syntax text lines
  pub written : all ≡ opening theme ++ (body_of form theme lines ++ closing)
  pub first_is : first ≡ first_plain 0 lines

-- the text shows a text in a syntax, by a theme, with its lines in this form
abbrev pub NumbersIn : Assets → List ℕ → SyntaxReference → Theme → LineForm → ShownText → Type 0
NumbersIn assets text syntax theme form shown =
    IsNumbered assets.limits form assets.set theme syntax text (string_bytes shown.text) shown.plain

-- the same in the language of a name
pub record NumbersText (assets : Assets) (text name : List ℕ) (theme : Theme) (form : LineForm)
    (shown : ShownText) : Type 0 where
  pub syntax : SyntaxReference
  pub named : language_named assets name ≡ Some syntax
  pub shows : NumbersIn assets text syntax theme form shown

-- the text shows what the file holds that was opened at the path, in the syntax of its path or of
-- what it had ahead, or as plain text
pub record NumbersFile (Told : Answer → Type 0) (assets : Assets) (path : List ℕ)
    (theme : Theme) (form : LineForm) (shown : ShownText) : Type 0 where
  pub left : Option (List ℕ)
  pub told : Told (opened path left)
  pub syntax : SyntaxReference
  pub syntax_is : IsToldWithin assets.limits assets.set path left syntax shown.first_line
  pub text : List ℕ
  pub whole : IsTextOf left text
  pub utf8 : IsUtf8 text
  pub shows : NumbersIn assets text syntax theme form shown
