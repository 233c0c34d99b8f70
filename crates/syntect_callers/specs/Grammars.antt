-- What a caller of a grammar's text is told.
use Rattle.std.specs.Prelude.{◌≡◌, ℕ, true, List, [], ◌∷◌, Some, None, Ok, slice_get}
use Rattle.std.specs.Borrow.{Bor}
use Rattle.syntect_callers.specs.syntect_theme.declared.style.Style.{Style}
use Rattle.syntect_callers.specs.syntect_grammar.declared.error.Error.{Error}
use Rattle.syntect_callers.specs.syntect_grammar.declared.error.Error.TheVariants as error
use Rattle.syntect_callers.specs.Third.{IsOf, IsThirdLine, IsRefusal}
use Rattle.syntect_callers.specs.syntect_theme.declared.theme.Theme.{Theme}
use Rattle.syntect_callers.specs.syntect_grammar.Link.{syntaxes_in}
use Rattle.syntect_callers.specs.syntect_grammar.declared.syntax_set.SyntaxSet.{SyntaxSet}
use Rattle.syntect_callers.specs.syntect_grammar_loader.Loading.{loaded}
use Rattle.syntect_callers.specs.syntect_grammar_loader.declared.definition.SyntaxDefinition.{SyntaxDefinition}
use Rattle.syntect_callers.specs.syntect_grammar_contexts.declared.syntax_reference.SyntaxReference.{SyntaxReference}
use Rattle.syntect_easy.specs.Pages.{IsPage}

-- ---- For proofs and private functions alone ----

-- The grammar's text has a definition in the repository, and the page shows the text in its syntax,
-- whose set was built of it alone: each line is read from the state that the lines before it leave,
-- and where the lines are orderly, each byte has the theme's style for its scopes.
pub record IsPageOf (repository : List (List ℕ)) (grammar : List ℕ) (theme : Theme)
    (text page : List ℕ) : Type 0 where
  pub definition : SyntaxDefinition
  pub left : List (List ℕ)
  pub loads : loaded grammar true None repository ≡ Ok (definition, left)
  pub set : SyntaxSet
  pub is_of : IsOf (definition ∷ []) set
  pub syntax : SyntaxReference
  pub among : slice_get (syntaxes_in set) 0 ≡ Some syntax
  pub shows : IsPage set theme syntax text page

-- Both grammars' texts have definitions in the repository, one after the other.
pub record Load (repository : List (List ℕ)) (first second : List ℕ) : Type 0 where
  pub one : SyntaxDefinition
  pub two : SyntaxDefinition
  pub between : List (List ℕ)
  pub left : List (List ℕ)
  pub loads_one : loaded first true None repository ≡ Ok (one, between)
  pub loads_two : loaded second true None between ≡ Ok (two, left)

-- The lines were read one after another from the start of the first grammar's syntax, in the set
-- that was built of both; the pieces join to the third, and where the lines are orderly, each of
-- its bytes has the theme's style for its scopes.
abbrev pub IsThirdOf : List (List ℕ) → List ℕ → List ℕ → Theme → List ℕ → List ℕ → List ℕ
    → List (Style × Bor (List ℕ)) → Type 0
IsThirdOf repository first second theme x y z pieces =
    (l : Load repository first second) × IsThirdLine (l.one ∷ l.two ∷ []) theme x y z pieces

-- why there are no pieces: a line's reading picks a match that names a reference without target, or
-- memory ran out
abbrev pub IsRefusalOf : List (List ℕ) → List ℕ → List ℕ → List (List ℕ) → Error → Type 0
IsRefusalOf repository first second lines error.Memory = Unit {0}
IsRefusalOf repository first second lines e =
    (l : Load repository first second) × IsRefusal (l.one ∷ l.two ∷ []) lines e
