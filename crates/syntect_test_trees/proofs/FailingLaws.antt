-- Refusals of pages, by the faults of what gives lines.
use Rattle.std.proofs.Common.{◌≡◌, ℕ, List, Result, Ok, Err, inl, inr}
use Rattle.std.specs.Prelude.{◌⊎◌, Option, IfErr}
use Rattle.std.specs.declared.io.Error.{Error as IoError}
use Rattle.syntect_test_trees.specs.syntect_easy.Files.{FaultsAre}
use Rattle.syntect_test_trees.specs.syntect_easy.Pages.{HasNoPageOfBytes, TellsNoText}
use Rattle.syntect_test_trees.specs.syntect_easy.Rows.{IsTextOf}
use Rattle.syntect_test_trees.specs.syntect_grammar.declared.error.Error.{Error}
use Rattle.syntect_test_trees.specs.syntect_grammar.declared.error.Error.TheVariants as error
use Rattle.syntect_test_trees.specs.syntect_grammar.declared.syntax_set.SyntaxSet.{SyntaxSet}
use Rattle.syntect_test_trees.specs.syntect_grammar_contexts.declared.syntax_reference.SyntaxReference.{SyntaxReference}

module _ (Failed : IoError → Type 0) (set : SyntaxSet) (syntax : SyntaxReference) (text : List ℕ) where
  -- the fault of a page is one that was answered, or one of a line that is not UTF-8
  faults_of_page : (e : Error) → HasNoPageOfBytes Failed set syntax text e → FaultsAre (λ x. Failed x ⊎ TellsNoText x) e
  faults_of_page (error.Io e) (inl l) = absurd l
  faults_of_page (error.Io e) (inr (read, inl f)) = inl f
  faults_of_page (error.Io e) (inr (read, inr f)) = inr f.0
  faults_of_page error.Memory h = tt
  faults_of_page (error.ParsingError e) h = tt
  faults_of_page (error.ScopeError e) h = tt
  faults_of_page (error.LoadingError e) h = tt
  faults_of_page (error.Fmt e) h = tt
  faults_of_page error.NoSyntax h = tt
  faults_of_page (error.ParseSyntax e) h = tt
  faults_of_page (error.ParseScope e) h = tt
  faults_of_page (error.Pattern e) h = tt

pub faults_of : (Failed : IoError → Type 0) (set : SyntaxSet) (syntax : SyntaxReference) (had : Option (List ℕ)) {X : Type 0} (r : Result X Error)
    → IfErr r (λ e. (text : List ℕ) × IsTextOf had text × HasNoPageOfBytes Failed set syntax text e) → IfErr r (FaultsAre (λ x. Failed x ⊎ TellsNoText x))
faults_of Failed set syntax had (Ok x) h = tt
faults_of Failed set syntax had (Err e) h = faults_of_page Failed set syntax h.0 e h.2
