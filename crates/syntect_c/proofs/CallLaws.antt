-- What calls show.
use Rattle.std.proofs.Common.{◌≡◌, ℕ, List, Option, Some, subst}
use Rattle.syntect_assets.specs.declared.format.Format.{Format}
use Rattle.syntect_c.specs.Calls.{ShowsAs, ShowsSet, TurnsHeld, format_numbered}
use Rattle.syntect_c.specs.Finds.{Finds, FindsHeld}
use Rattle.syntect_c.specs.Sets.{HasLoadedAlone, HoldsLoadedAlone, IsLoadedStage, ShowsStage}
use Rattle.syntect_easy.specs.Loaded.{IsOfLoaded}
use Rattle.syntect_c.specs.declared.set.SetContent.{SetContent}
use Rattle.syntect_c.specs.declared.set.Stage.{Stage}
use Rattle.syntect_assets.specs.declared.assets.Assets.{Assets}

-- what is linked of a set of loaded grammars is one
pub linked_holds : (stage : Stage) (assets : Assets) → stage ≡ Stage.Linked assets → IsLoadedStage stage
    → IsOfLoaded assets.set
linked_holds stage assets is loaded = subst IsLoadedStage is loaded

-- a text that is shown in a format is shown in the format of its number
pub shows_in : (text language theme : List ℕ) (number : ℕ) (format : Format) (content : SetContent)
    → format_numbered number ≡ Some format → ShowsStage text language theme format content
    → ShowsAs text language theme number content
shows_in text language theme number format content is shows =
    record { format = format; format_is = is; shows = shows }

-- what a handle holds shows it
pub shows_held : (text language theme : List ℕ) (number : ℕ) (held : Option SetContent)
    (content : SetContent) → held ≡ Some content → ShowsAs text language theme number content
    → ShowsSet text language theme number held
shows_held text language theme number held content is shows =
    record { content = content; held_is = is; shows = shows }

-- what a handle holds finds it
pub finds_held : (file line : List ℕ) (held : Option SetContent) (content : SetContent)
    → held ≡ Some content → Finds file line content → FindsHeld file line held
finds_held file line held content is finds =
    record { content = content; held_is = is; finds = finds }

-- what a handle holds of loaded grammars is a set of them
pub loaded_in : (held : Option SetContent) (content : SetContent) → held ≡ Some content
    → HasLoadedAlone held → HoldsLoadedAlone content
loaded_in held content is loaded = subst HasLoadedAlone is loaded

-- a content that is turned is what is held, before and after
pub turns_held : (P : SetContent → SetContent → Type 0) (before after : Option SetContent)
    (old new : SetContent) → before ≡ Some old → after ≡ Some new → P old new
    → TurnsHeld P before after
turns_held P before after old new before_is after_is turns =
    record { old = old; new = new; before_is = before_is; after_is = after_is; turns = turns }
