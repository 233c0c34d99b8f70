-- Documents: texts that are read line by line.
use Rattle.std.specs.Prelude.{◌≡◌, ℕ, ◌<◌, ◌^◌, List, [], Option, Some}
use Rattle.std.specs.Borrow.{Bor}
use Rattle.std.specs.Global.{Vec}
use Rattle.syntect_assets.specs.Assets.{language_named, theme_named}
use Rattle.syntect_assets.specs.declared.assets.Assets.{Assets}
use Rattle.syntect_assets.specs.syntect_grammar.declared.syntax_set.SyntaxSet.{SyntaxSet}
use Rattle.syntect_assets.specs.syntect_grammar_contexts.declared.syntax_reference.SyntaxReference.{SyntaxReference}
use Rattle.syntect_assets.specs.syntect_parsing.States.{standing}
use Rattle.syntect_assets.specs.syntect_parsing.declared.within.LineLimit.{LineLimit}
use Rattle.syntect_assets.specs.syntect_theme.declared.style.Style.{Style}
use Rattle.syntect_assets.specs.syntect_theme.declared.theme.Theme.{Theme}
use Rattle.syntect_easy.specs.Leads.{IsPast, Leads, Past, reader_of, styles_of}
use Rattle.syntect_easy.specs.PlainLines.{ContinuesWithin}
use Rattle.syntect_easy.specs.declared.easy.HighlightLines.{HighlightLines}
use Rattle.syntect_c.specs.Spans.{all_bytes, spans_from}
use Rattle.syntect_c.specs.declared.document.DocContent.{DocContent}
use Rattle.syntect_c.specs.declared.document.States.{States}
use Rattle.syntect_c.specs.declared.set.SetContent.{SetContent}
use Rattle.syntect_c.specs.declared.set.Stage.{Stage}
use Rattle.syntect_c.specs.declared.span.Span.{Span}

-- the document has the language and the theme that it had
abbrev pub SameNames : DocContent → DocContent → Type 0
SameNames old new = (new.language ≡ old.language) × (new.theme ≡ old.theme)

-- these are the states that a highlighter holds
pub record AreStatesOf (h : HighlightLines) (states : States) : Type 0 where
  pub styles : states.styles ≡ styles_of h
  pub reader : states.reader ≡ reader_of h

-- they are those before the first line of a text, in the language of a name and by the theme of a
-- name
pub record Begins (assets : Assets) (language theme : List ℕ) (states : States) : Type 0 where
  pub syntax : SyntaxReference
  pub style : Theme
  pub h : HighlightLines
  pub language_is : language_named assets language ≡ Some syntax
  pub theme_is : theme_named assets theme ≡ Some style
  pub leads : (set : SyntaxSet) → Leads set style syntax [] [] h
  pub holds : AreStatesOf h states

-- a document stands there, of a set whose grammars are linked, and has these names
pub record BeginsIn (set : SetContent) (language theme : List ℕ) (doc : DocContent) : Type 0 where
  pub assets : Assets
  pub linked : set.stage ≡ Stage.Linked assets
  pub states : States
  pub states_is : doc.states ≡ Some states
  pub begins : Begins assets language theme states
  pub language_kept : doc.language ≡ language
  pub theme_kept : doc.theme ≡ theme

-- A document stands after a past: its states are those of a highlighter with that past, whatever is
-- counted, and its theme is the past's.
pub record StandsAfter (past : Past) (assets : Assets) (doc : DocContent) : Type 0 where
  pub states : States
  pub states_is : doc.states ≡ Some states
  pub h : HighlightLines
  pub is_past : IsPast past assets.set h
  pub theme_is : theme_named assets doc.theme ≡ Some past.theme
  pub styles : styles_of h ≡ states.styles
  pub reader : standing (reader_of h) ≡ standing states.reader

-- A line is answered after a past within the limits of a set, as a highlighter answers it: the spans
-- are those of its pieces.
pub record AnswersLine (assets : Assets) (past : Past) (line : Bor (List ℕ))
    (old new : HighlightLines) (spans : List Span) : Type 0 where
  pub pieces : Vec (Style × Bor (List ℕ))
  pub limit : Option LineLimit
  pub continues : ContinuesWithin assets.limits past assets.set line old new pieces limit
  pub spans_are : all_bytes pieces.items < 2 ^ 64 → spans ≡ spans_from 0 pieces.items

-- A document's next line is answered so, and it stands where that highlighter then stands.
pub record ReadsLine (past : Past) (assets : Assets) (line : List ℕ) (doc : DocContent)
    : Type 0 where
  pub text : Bor (List ℕ)
  pub text_is : text.now ≡ line
  pub before : HighlightLines
  pub after : HighlightLines
  pub answers : AnswersLine assets past text before after doc.spans.items
  pub states : States
  pub states_is : doc.states ≡ Some states
  pub holds : AreStatesOf after states
