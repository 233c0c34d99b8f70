-- What calls on the handle of a document answer.
use Rattle.std.specs.Prelude.{◌≡◌, ℕ, List, [], Option, Some, None, string_bytes}
use Rattle.syntect_assets.specs.declared.assets.Assets.{Assets}
use Rattle.syntect_easy.specs.Leads.{Past}
use Rattle.syntect_c.specs.Documents.{BeginsIn, ReadsLine, SameNames, StandsAfter}
use Rattle.syntect_c.specs.declared.document.DocContent.{DocContent}
use Rattle.syntect_c.specs.declared.set.SetContent.{SetContent}
use Rattle.syntect_c.specs.declared.set.Stage.{Stage}
use Rattle.syntect_c.specs.declared.span.Span.{Span}

-- the spans and the fault of what is held; an empty handle has none
abbrev pub spans_in : Option DocContent → List Span
spans_in (Some document) = document.spans.items
spans_in None = []

abbrev pub doc_fault_in : Option DocContent → List ℕ
doc_fault_in (Some document) = string_bytes document.fault
doc_fault_in None = []

-- a handle holds a document after a call exactly where it held one, with the same names
abbrev pub NamesStay : Option DocContent → Option DocContent → Type 0
NamesStay (Some old) (Some new) = SameNames old new
NamesStay None None = Unit {0}
NamesStay old new = ⊥

-- a document that is held stands after a past of the set that is held
pub record StandsHeld (past : Past) (set : Option SetContent) (doc : Option DocContent)
    : Type 0 where
  pub content : SetContent
  pub document : DocContent
  pub assets : Assets
  pub set_is : set ≡ Some content
  pub doc_is : doc ≡ Some document
  pub linked : content.stage ≡ Stage.Linked assets
  pub stands : StandsAfter past assets document

-- it has read a line after that past
pub record ReadsHeld (past : Past) (set : Option SetContent) (line : List ℕ)
    (doc : Option DocContent) : Type 0 where
  pub content : SetContent
  pub document : DocContent
  pub assets : Assets
  pub set_is : set ≡ Some content
  pub doc_is : doc ≡ Some document
  pub linked : content.stage ≡ Stage.Linked assets
  pub reads : ReadsLine past assets line document

-- it stands before its first line, with the language and the theme that it had, of the set that is
-- held
pub record BeginsWith (set : Option SetContent) (old new : DocContent) : Type 0 where
  pub content : SetContent
  pub set_is : set ≡ Some content
  pub begins : BeginsIn content old.language old.theme new

-- so does what is held after what was held before
pub record BeginsHeld (set : Option SetContent) (before after : Option DocContent) : Type 0 where
  pub old : DocContent
  pub new : DocContent
  pub before_is : before ≡ Some old
  pub after_is : after ≡ Some new
  pub begins : BeginsWith set old new

-- a document stands before the first line of a text in the language of a name, by the theme of a
-- name, of the set that is held
pub record BeginsOf (language theme : List ℕ) (set : Option SetContent) (document : DocContent)
    : Type 0 where
  pub content : SetContent
  pub set_is : set ≡ Some content
  pub begins : BeginsIn content language theme document

-- so does one that is held
pub record BeginsNew (language theme : List ℕ) (set : Option SetContent)
    (doc : Option DocContent) : Type 0 where
  pub document : DocContent
  pub doc_is : doc ≡ Some document
  pub begins : BeginsOf language theme set document
