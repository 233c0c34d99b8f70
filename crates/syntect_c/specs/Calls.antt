-- What calls on the handle of a set answer.
use Rattle.std.specs.Prelude.{◌≡◌, ℕ, ◌==◌, List, [], Option, Some, None, if◌then◌else◌, string_bytes}
use Rattle.syntect_assets.specs.declared.format.Colors.TheVariants.{Bits24, Palette256}
use Rattle.syntect_assets.specs.declared.format.Format.{Format}
use Rattle.syntect_assets.specs.declared.format.Format.TheVariants.{Html, Terminal, Screen}
use Rattle.syntect_c.specs.Sets.{AddsGrammarTo, AddsThemeTo, ShowsStage}
use Rattle.syntect_c.specs.declared.set.SetContent.{SetContent}

-- the output and the fault of what is held; an empty handle has none
abbrev pub output_in : Option SetContent → List ℕ
output_in (Some content) = string_bytes content.output
output_in None = []

abbrev pub fault_in : Option SetContent → List ℕ
fault_in (Some content) = string_bytes content.fault
fault_in None = []

-- the formats by their numbers
abbrev pub format_numbered : ℕ → Option Format
format_numbered number =
    if number == 0 then Some Html
    else if number == 1 then Some Terminal
    else if number == 2 then Some (Screen Bits24)
    else if number == 3 then Some (Screen Palette256)
    else None

-- the output shows a text in the format of a number
pub record ShowsAs (text language theme : List ℕ) (number : ℕ) (content : SetContent) : Type 0 where
  pub format : Format
  pub format_is : format_numbered number ≡ Some format
  pub shows : ShowsStage text language theme format content

-- so does that of what is held
pub record ShowsSet (text language theme : List ℕ) (number : ℕ) (held : Option SetContent)
    : Type 0 where
  pub content : SetContent
  pub held_is : held ≡ Some content
  pub shows : ShowsAs text language theme number content

-- a call turns what is held into something else that is held, in this way
pub record TurnsHeld (P : SetContent → SetContent → Type 0) (before after : Option SetContent)
    : Type 0 where
  pub old : SetContent
  pub new : SetContent
  pub before_is : before ≡ Some old
  pub after_is : after ≡ Some new
  pub turns : P old new

-- a grammar is added to what is held
abbrev pub AddsGrammarHeld : List ℕ → List ℕ → Option SetContent → Option SetContent → Type 0
AddsGrammarHeld file text =
    TurnsHeld (λ old new. AddsGrammarTo file text old.stage new.stage)

-- a theme is added to what is held
abbrev pub AddsThemeHeld : List ℕ → List ℕ → Option SetContent → Option SetContent → Type 0
AddsThemeHeld name bytes =
    TurnsHeld (λ old new. AddsThemeTo name bytes old.stage new.stage)
