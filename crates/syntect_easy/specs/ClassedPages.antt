-- What a reader of a page with classes sees.
use Rattle.std.specs.Prelude.{◌≡◌, ℕ, List, [], ◌∷◌, ◌++◌, map, Some}
use Rattle.std.specs.List.{concat, flat_map}
use Rattle.syntect_easy.specs.syntect_scope.Stack.{plain}
use Rattle.syntect_easy.specs.syntect_reading_choice.Engine.{dialect}
use Rattle.syntect_parsing.specs.Line.{Accepted, AnswersAll, start_of}
use Rattle.syntect_parsing.specs.declared.parser.Standing.{Standing}
use Rattle.syntect_writers.specs.Classes.{prefix_of}
use Rattle.syntect_writers.specs.declared.class_style.ClassStyle.{ClassStyle}
use Rattle.syntect_writers.specs.Page.{read, under, shown}
use Rattle.syntect_easy.specs.syntect_grammar_contexts.declared.syntax_reference.SyntaxReference.{SyntaxReference}
use Rattle.syntect_easy.specs.syntect_grammar.declared.syntax_set.SyntaxSet.{SyntaxSet}
use Rattle.syntect_easy.specs.Classed.{text_so_far, stack_in, state_in, set_in, repository_in, style_in, AddsLine, CanRestore, StaysAt, closed_text}
use Rattle.syntect_easy.specs.Leads.{BeginsPlain, RunsOrderly}
use Rattle.syntect_easy.specs.declared.classed.ClassedHTMLGenerator.{ClassedHTMLGenerator}

-- ---- lines given to a generator ----

-- A new generator was given lines, of which it accepted these, one after another; those that it
-- refused leave it as it was.
pub data IsGiven (set : SyntaxSet) (syntax : SyntaxReference) (repository : List (List ℕ))
    (style : ClassStyle) : List (List ℕ) → ClassedHTMLGenerator → Type 0 where
  no_lines : {g : ClassedHTMLGenerator} → start_of syntax ≡ Some (state_in g)
      → text_so_far g ≡ [] → stack_in g ≡ plain []
      → set_in g ≡ set → repository_in g ≡ repository → style_in g ≡ style
      → IsGiven set syntax repository style [] g
  accepted : {lines : List (List ℕ)} {line : List ℕ} {g h : ClassedHTMLGenerator}
      → IsGiven set syntax repository style lines g → AddsLine line g h
      → IsGiven set syntax repository style (lines ++ line ∷ []) h
  refused : {lines : List (List ℕ)} {g h : ClassedHTMLGenerator}
      → IsGiven set syntax repository style lines g → StaysAt g h
      → IsGiven set syntax repository style lines h

-- The generator stands after these lines, which it accepted one after another from the start of the
-- syntax; and where the syntax begins plain it can restore what was cleared.
pub record StandsAfter (set : SyntaxSet) (syntax : SyntaxReference) (lines : List (List ℕ))
    (g : ClassedHTMLGenerator) : Type 0 where
  pub start : Standing
  pub scopes : List (List (List (List ℕ)))
  pub begins : start_of syntax ≡ Some start
  pub run : AnswersAll dialect set lines start (map Accepted scopes) (state_in g)
  pub has_set : set_in g ≡ set
  pub restores : BeginsPlain set syntax → CanRestore g

-- so stands one that was given these lines
abbrev pub GivenStands : Type 0
GivenStands =
    (set : SyntaxSet) (syntax : SyntaxReference) (repository : List (List ℕ)) (style : ClassStyle)
    (lines : List (List ℕ)) (g : ClassedHTMLGenerator)
    → IsGiven set syntax repository style lines g → StandsAfter set syntax lines g

-- ---- their page ----

-- The lines were accepted one after another from the start of the syntax, each byte with its
-- scopes. Whoever reads the page byte by byte sees the lines, joined, each byte as HTML writes it,
-- under tags; meets no closing tag where none is open; and has none open in the end. Under a
-- premise the tags of a byte are those of the scopes that it was read with.
pub record IsClassedPage (premise : Type 0) (set : SyntaxSet) (syntax : SyntaxReference)
    (repository : List (List ℕ)) (prefix : List ℕ) (lines : List (List ℕ))
    (page : List ℕ) : Type 0 where
  pub start : Standing
  pub after : Standing
  pub scopes : List (List (List (List ℕ)))
  pub bytes : List (ℕ × List (List ℕ))
  pub begins : start_of syntax ≡ Some start
  pub run : AnswersAll dialect set lines start (map Accepted scopes) after
  pub read_back : read (under prefix repository [] []) page
      ≡ under prefix repository [] (flat_map (shown prefix repository) bytes)
  pub is_text : map (λ b. b.0) bytes ≡ concat lines
  pub has_scopes : premise → map (λ b. b.1) bytes ≡ flat_map (λ line. line) scopes

-- where the syntax begins plain and the lines are orderly
abbrev pub ShowsScopes : SyntaxSet → SyntaxReference → List (List ℕ) → Type 0
ShowsScopes set syntax lines = BeginsPlain set syntax × RunsOrderly set syntax lines

-- The text of a generator, with all spans closed, is the page of the lines that it accepted, with
-- the scopes of each byte where the syntax begins plain and the lines are orderly.
abbrev pub ClosedIsPage : Type 0
ClosedIsPage =
    (set : SyntaxSet) (syntax : SyntaxReference) (repository : List (List ℕ)) (style : ClassStyle)
    (lines : List (List ℕ)) (g : ClassedHTMLGenerator)
    → IsGiven set syntax repository style lines g
    → IsClassedPage (ShowsScopes set syntax lines) set syntax repository (prefix_of style) lines
    (closed_text g)
