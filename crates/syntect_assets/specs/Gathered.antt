-- What a builder of assets gathers, and the assets that are made of it. `Told` is what calls on the
-- tree told.
use Rattle.std.specs.Prelude.{◌≡◌, ℕ, true, List, [], ◌⊎◌}
use Rattle.syntect_assets.specs.syntect_base.Limiting.{usual}
use Rattle.syntect_assets.specs.syntect_base.Trees.{Answer}
use Rattle.syntect_assets.specs.syntect_base.Walks.{IsWalk}
use Rattle.syntect_assets.specs.syntect_base.declared.loading.LoadingError.{LoadingError}
use Rattle.syntect_assets.specs.syntect_base.declared.utils.Sought.TheVariants.{Themes}
use Rattle.syntect_assets.specs.syntect_grammar.Link.{definitions_in, linked, syntaxes_in}
use Rattle.syntect_assets.specs.syntect_grammar.Metadata.{IsMergedOf, metadata_in}
use Rattle.syntect_assets.specs.syntect_grammar.PlainText.{AddsPlainText}
use Rattle.syntect_assets.specs.syntect_grammar.declared.syntax_set.SyntaxSetBuilder.{SyntaxSetBuilder}
use Rattle.syntect_assets.specs.syntect_grammar_limits.FoldersWithin.{AddsFolderWithin, RefusesFolderWithin}
use Rattle.syntect_assets.specs.syntect_grammar_limits.declared.folder_error.FolderWithinError.{FolderWithinError}
use Rattle.syntect_assets.specs.syntect_theme_files.ThemeFiles.{AddsThemes, RefusesThemes}
use Rattle.syntect_assets.specs.Refusals.{TellsGrammars, TellsLoading}
use Rattle.syntect_assets.specs.WhatLoads.{AddsLoading, StopsLoading}
use Rattle.syntect_assets.specs.declared.assets.Assets.{Assets}
use Rattle.syntect_assets.specs.declared.builder.AssetsBuilder.{AssetsBuilder}
use Rattle.syntect_assets.specs.declared.error.AssetsError.{AssetsError}
use Rattle.syntect_assets.specs.declared.error.AssetsError.TheVariants as refusal

-- the builder has the syntax of plain text, added to one of no definitions, no theme, and the usual
-- limits
pub record HasPlainText (builder : AssetsBuilder) : Type 0 where
  pub nothing : SyntaxSetBuilder
  pub no_definition : definitions_in nothing ≡ []
  pub plain : AddsPlainText nothing builder.grammars [] builder.repository
  pub no_theme : builder.themes.themes ≡ []
  pub limits : builder.limits ≡ usual

-- The grammars and metadata of a folder are added, for lines with newlines and within the limits of
-- the builder, and then its themes. Each of the two walks through the folder.
pub record AddsAll (Told : Answer → Type 0) (folder : List ℕ) (old new : AssetsBuilder)
    : Type 0 where
  pub middle : List (List ℕ)
  pub found : List (List ℕ)
  pub grammars : AddsFolderWithin Told old.limits true folder old.repository old.grammars
      middle new.grammars
  pub walk : IsWalk Told Themes folder found
  pub themes : AddsThemes Told found middle old.themes.themes new.repository new.themes.themes
  pub limits : new.limits ≡ old.limits

-- Why not all of a folder is added, and what is added then: its grammars and metadata up to a fault
-- of these; or all of these, and its themes up to a fault of one. The fault is told; and memory may
-- run out.
pub data StopsAll (Told : Answer → Type 0) (folder : List ℕ) (old new : AssetsBuilder)
    : AssetsError → Type 0 where
  at_grammars : {e : FolderWithinError} {r : AssetsError}
      → RefusesFolderWithin Told old.limits true folder old.repository old.grammars e
      new.repository new.grammars
      → new.themes ≡ old.themes → new.limits ≡ old.limits
      → TellsGrammars e r → StopsAll Told folder old new r
  at_themes : {e : LoadingError} {r : AssetsError} {middle : List (List ℕ)}
      → AddsFolderWithin Told old.limits true folder old.repository old.grammars middle new.grammars
      → RefusesThemes Told folder middle old.themes.themes e new.repository new.themes.themes
      → new.limits ≡ old.limits
      → TellsLoading e r → StopsAll Told folder old new r
  no_memory : StopsAll Told folder old new refusal.Memory

-- the assets have the builder's grammars, linked, with their metadata, its themes and its limits
pub record IsMadeOf (builder : AssetsBuilder) (assets : Assets) : Type 0 where
  pub linked_of : syntaxes_in assets.set ≡ linked (definitions_in builder.grammars)
  pub metadata : IsMergedOf builder.repository builder.grammars assets.repository
      (metadata_in assets.set)
  pub themes : assets.themes.themes ≡ builder.themes.themes
  pub limits : assets.limits ≡ builder.limits

-- the assets are plain text and all of a folder
pub record IsOfFolder (Told : Answer → Type 0) (folder : List ℕ) (assets : Assets) : Type 0 where
  pub plain : AssetsBuilder
  pub all : AssetsBuilder
  pub begins : HasPlainText plain
  pub adds : AddsAll Told folder plain all
  pub made : IsMadeOf all assets

-- why there are none: not all of the folder is added to plain text, or memory ran out
abbrev pub IsOfNoFolder : (Told : Answer → Type 0) → List ℕ → AssetsError → Type 0
IsOfNoFolder Told folder r =
    (r ≡ refusal.Memory)
    ⊎ ((plain all : AssetsBuilder) × HasPlainText plain × StopsAll Told folder plain all r)

-- why there are none of what can be loaded: not all of the folder was looked at, or memory ran out
abbrev pub IsOfNoWalk : (Told : Answer → Type 0) → List ℕ → AssetsError → Type 0
IsOfNoWalk Told folder r =
    (r ≡ refusal.Memory)
    ⊎ ((plain all : AssetsBuilder) × HasPlainText plain × StopsLoading Told folder plain all r)

-- the assets are plain text and what of the folder can be loaded; and so many files can't be
pub record IsOfWhatLoads (Told : Answer → Type 0) (folder : List ℕ) (count : ℕ) (assets : Assets)
    : Type 0 where
  pub plain : AssetsBuilder
  pub all : AssetsBuilder
  pub begins : HasPlainText plain
  pub adds : AddsLoading Told folder plain all count
  pub made : IsMadeOf all assets
