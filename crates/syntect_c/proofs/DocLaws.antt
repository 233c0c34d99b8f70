-- Where a document stands.
use Rattle.std.proofs.Common.{◌≡◌, ◌∙◌, ℕ, IfOk, List, Option, Some, ap, sym, refl, subst}
use Rattle.std.specs.Prelude.{None, Result, Ok, Err, unwrap_or}
use Rattle.std.specs.Borrow.{Bor}
use Rattle.syntect_assets.specs.Assets.{theme_named}
use Rattle.syntect_assets.specs.declared.assets.Assets.{Assets}
use Rattle.syntect_assets.specs.syntect_grammar.declared.syntax_set.SyntaxSet.{SyntaxSet}
use Rattle.syntect_assets.specs.syntect_parsing.States.{standing}
use Rattle.syntect_assets.specs.syntect_theme.declared.theme.Theme.{Theme}
use Rattle.syntect_easy.specs.Leads.{IsPast, Past, reader_of, styles_of}
use Rattle.syntect_easy.specs.declared.easy.HighlightLines.{HighlightLines}
use Rattle.syntect_c.specs.DocCalls.{BeginsHeld, BeginsNew, BeginsOf, BeginsWith, NamesStay, ReadsHeld, StandsHeld}
use Rattle.syntect_c.specs.Documents.{AnswersLine, BeginsIn, ReadsLine, SameNames, StandsAfter}
use Rattle.syntect_c.specs.declared.document.DocContent.{DocContent}
use Rattle.syntect_c.specs.declared.document.States.{States}
use Rattle.syntect_c.specs.declared.set.SetContent.{SetContent}
use Rattle.syntect_c.specs.declared.set.Stage.{Stage}
use Rattle.syntect_c.specs.declared.span.Span.{Span}

-- what is linked there, if something is, is this
abbrev IsIn : Assets → Stage → Type 0
IsIn assets (Stage.Linked linked) = linked ≡ assets
IsIn assets stage = Unit {0}

-- a stage has one set that is linked
pub one_linked : (stage : Stage) (linked assets : Assets) → stage ≡ Stage.Linked linked
    → stage ≡ Stage.Linked assets → linked ≡ assets
one_linked stage linked assets is other =
    subst (IsIn assets) is (subst (IsIn assets) (sym other) refl)

-- a highlighter that goes on from a document's states, by its theme, answers a line after the past
-- of the document
pub answered_after : (past : Past) (stage : Stage) (linked assets : Assets) (theme : Theme)
    (line : Bor (List ℕ)) (doc : DocContent) (states : States) (before after : HighlightLines)
    (spans : List Span)
    → stage ≡ Stage.Linked linked → stage ≡ Stage.Linked assets
    → theme_named linked doc.theme ≡ Some theme → doc.states ≡ Some states
    → StandsAfter past assets doc
    → ((p : Past) (set : SyntaxSet) (h : HighlightLines) → p.theme ≡ theme → IsPast p set h
    → styles_of h ≡ states.styles → standing (reader_of h) ≡ standing states.reader
    → IsPast p set before)
    → ((p : Past) → IsPast p linked.set before → AnswersLine linked p line before after spans)
    → AnswersLine assets past line before after spans
answered_after past stage linked assets theme line doc states before after spans is other
    named held stands leads answers =
    let same : linked ≡ assets = one_linked stage linked assets is other in
    let named_so : theme_named assets doc.theme ≡ Some theme =
    subst (λ (a : Assets). theme_named a doc.theme ≡ Some theme) same named in
    let theme_is : past.theme ≡ theme =
    ap (λ o. unwrap_or o theme) (sym stands.theme_is ∙ named_so) in
    let states_are : stands.states ≡ states =
    ap (λ o. unwrap_or o states) (sym stands.states_is ∙ held) in
    let goes_on : IsPast past assets.set before =
    leads past assets.set stands.h theme_is stands.is_past
    (stands.styles ∙ ap (λ s. s.styles) states_are)
    (stands.reader ∙ ap (λ s. standing s.reader) states_are) in
    subst (λ (a : Assets). AnswersLine a past line before after spans) same
    (answers past (subst (λ (a : Assets). IsPast past a.set before) (sym same) goes_on))

-- what is held, if something is, is one
pub one_held : {X : Type 0} (held : Option X) (x y : X) → held ≡ Some x → held ≡ Some y → x ≡ y
one_held held x y is other = ap (λ o. unwrap_or o y) (sym is ∙ other)

-- a document stands before its first line with what is held
pub begins_with : (held : Option SetContent) (content : SetContent) (old new : DocContent)
    → held ≡ Some content → BeginsIn content old.language old.theme new → BeginsWith held old new
begins_with held content old new is begins =
    record { content = content; set_is = is; begins = begins }

-- the same of what is held after what was held before
pub begins_held : (set : Option SetContent) (before after : Option DocContent)
    (old new : DocContent) → before ≡ Some old → after ≡ Some new → BeginsWith set old new
    → BeginsHeld set before after
begins_held set before after old new before_is after_is begins =
    record { old = old; new = new; before_is = before_is; after_is = after_is; begins = begins }

-- a document that is held reads a line after the past that it stood after
pub reads_held : (past : Past) (set : Option SetContent) (line : List ℕ)
    (before after : Option DocContent) (old new : DocContent) → before ≡ Some old
    → after ≡ Some new → StandsHeld past set before
    → ((content : SetContent) (assets : Assets) → set ≡ Some content
    → content.stage ≡ Stage.Linked assets → StandsAfter past assets old
    → ReadsLine past assets line new)
    → ReadsHeld past set line after
reads_held past set line before after old new before_is after_is stands reads =
    let same : stands.document ≡ old = one_held before stands.document old stands.doc_is before_is in
    record {
      content = stands.content;
      document = new;
      assets = stands.assets;
      set_is = stands.set_is;
      doc_is = after_is;
      linked = stands.linked;
      reads = reads stands.content stands.assets stands.set_is stands.linked
          (subst (λ (d : DocContent). StandsAfter past stands.assets d) same stands.stands);
    }

-- what is made with what is held stands before the first line of a text of it
pub begins_of : (language theme : List ℕ) (held : Option SetContent) (content : SetContent)
    (document : DocContent) → held ≡ Some content → BeginsIn content language theme document
    → BeginsOf language theme held document
begins_of language theme held content document is begins =
    record { content = content; set_is = is; begins = begins }

-- what holds of an answer, if there is one, makes something else hold of it
pub if_made : {X E : Type 0} (P Q : X → Type 0) (answer : Result X E) → ((x : X) → P x → Q x)
    → IfOk answer P → IfOk answer Q
if_made P Q (Ok x) turns holds = turns x holds
if_made P Q (Err e) turns holds = holds

-- what is held keeps its names where a document does
pub names_held : (before after : Option DocContent) (old new : DocContent) → before ≡ Some old
    → after ≡ Some new → SameNames old new → NamesStay before after
names_held before after old new before_is after_is same =
    subst (λ (o : Option DocContent). NamesStay o after) (sym before_is)
    (subst (λ (o : Option DocContent). NamesStay (Some old) o) (sym after_is) same)
