-- Grammars and themes that are added, and texts that are shown.
use Rattle.std.proofs.Common.{◌≡◌, ℕ, true, List, [], ◌∷◌, ◌++◌, Result, Ok, Err, Some, All, refl, string_bytes, subst, sym}
use Rattle.std.specs.Path.{path_file_stem}
use Rattle.syntect_assets.specs.Assets.{ShowsText, theme_named}
use Rattle.syntect_assets.specs.syntect_grammar.Link.{definitions_in}
use Rattle.syntect_assets.specs.syntect_grammar.declared.syntax_set.SyntaxSet.{SyntaxSet}
use Rattle.syntect_assets.specs.syntect_grammar.declared.syntax_set.SyntaxSetBuilder.{SyntaxSetBuilder}
use Rattle.syntect_assets.specs.syntect_grammar_limits.Limited.{Left, LoadsWithin, left_of}
use Rattle.syntect_assets.specs.syntect_grammar_loader.Loading.{loaded}
use Rattle.syntect_assets.specs.syntect_grammar_loader.LoadingSteps.{Refusal}
use Rattle.syntect_assets.specs.syntect_grammar_loader.declared.definition.SyntaxDefinition.{SyntaxDefinition}
use Rattle.syntect_assets.specs.syntect_theme.declared.theme.Theme.{Theme}
use Rattle.syntect_assets.specs.declared.assets.Assets.{Assets}
use Rattle.syntect_assets.specs.declared.assets.Shown.{Shown}
use Rattle.syntect_assets.specs.declared.builder.AssetsBuilder.{AssetsBuilder}
use Rattle.syntect_assets.specs.declared.format.Format.{Format}
use Rattle.syntect_easy.specs.Built.{IsBuilt, IsLoaded, IsPlain}
use Rattle.syntect_easy.specs.Loaded.{BuildersHold, HoldsLoaded, IsOfLoaded}
use Rattle.syntect_c.specs.Sets.{AddsGrammar, IsShown}

-- what is loaded within limits is loaded
pub loads_of : (left : Left) (answer : Result (SyntaxDefinition × List (List ℕ)) Refusal)
    (d : SyntaxDefinition) (repository : List (List ℕ))
    → LoadsWithin left answer (Ok d) repository → answer ≡ Ok (d, repository)
loads_of (Ok left) answer d repository is = is
loads_of (Err r) answer d repository is = absurd is

-- a grammar that is loaded and added
pub adds_grammar : (file text : List ℕ) (old new : AssetsBuilder) (d : SyntaxDefinition)
    → LoadsWithin (left_of old.limits text) (loaded text true (path_file_stem file) old.repository)
    (Ok d) new.repository
    → definitions_in new.grammars ≡ definitions_in old.grammars ++ d ∷ []
    → new.themes ≡ old.themes → new.limits ≡ old.limits → AddsGrammar file text old new
adds_grammar file text old new d loads added themes limits =
    record { definition = d; loads = loads; added = added; themes = themes; limits = limits }

-- what is loaded and added to loaded grammars leaves loaded ones
pub stays_loaded : BuildersHold → (file text : List ℕ) (old new : AssetsBuilder)
    → AddsGrammar file text old new → HoldsLoaded old.grammars → HoldsLoaded new.grammars
stays_loaded laws file text old new adds holds =
    laws.one old.grammars new.grammars text true (path_file_stem file) old.repository new.repository
    adds.definition holds
    (loads_of (left_of old.limits text) (loaded text true (path_file_stem file) old.repository)
    adds.definition new.repository adds.loads)
    adds.added

-- and so do grammars that stay
pub same_loaded : (old new : SyntaxSetBuilder) → new ≡ old → HoldsLoaded old → HoldsLoaded new
same_loaded old new same holds = subst HoldsLoaded (sym same) holds

-- a set of loaded grammars was built of plain ones
built_of : ((definitions : List SyntaxDefinition) → All IsLoaded definitions
    → All IsPlain definitions)
    → (set : SyntaxSet) → IsOfLoaded set
    → (definitions : List SyntaxDefinition) × IsBuilt set definitions
built_of are_plain set of_loaded = (
  of_loaded.0,
  record { links = of_loaded.1; plain = are_plain of_loaded.0 of_loaded.2 },
)

-- a text that is shown of a set that was built of plain grammars is shown of one of loaded grammars
pub shown_of : (assets : Assets) (text language theme : List ℕ) (format : Format) (style : Theme)
    (shown : Shown)
    → ((definitions : List SyntaxDefinition) → All IsLoaded definitions → All IsPlain definitions)
    → ((definitions : List SyntaxDefinition) → IsBuilt assets.set definitions
    → ShowsText assets text language style format shown)
    → theme_named assets theme ≡ Some style → IsOfLoaded assets.set
    → IsShown assets text language theme format (string_bytes shown.text)
shown_of assets text language theme format style shown are_plain shows named of_loaded =
    let built = built_of are_plain assets.set of_loaded in record {
      style = style;
      theme_is = named;
      shown = shown;
      out_is = refl;
      shows = shows built.0 built.1;
    }
