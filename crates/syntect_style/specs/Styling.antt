-- The style of a stack of scopes under a theme.
use Rattle.std.specs.Prelude.{ℕ, List, [], ◌∷◌, unwrap_or}
use Rattle.syntect_style.specs.Candidates.{winner}
use Rattle.syntect_theme.specs.Modifying.{black, white, no_flags, restyled}
use Rattle.syntect_theme.specs.declared.style.Style.{Style}
use Rattle.syntect_theme.specs.declared.style.StyleModifier.{StyleModifier}
use Rattle.syntect_theme.specs.declared.theme.Theme.{Theme}

-- the style of text that no rule styles
abbrev pub default_style : Theme → Style
default_style theme = record {
  foreground = unwrap_or theme.settings.foreground black;
  background = unwrap_or theme.settings.background white;
  font_style = no_flags;
}

-- for each attribute the value that prevails, and none where no rule sets it
unfoldable pub winners : Theme → List (List ℕ) → StyleModifier
winners theme stack = record {
  foreground = winner (λ m. m.foreground) theme stack;
  background = winner (λ m. m.background) theme stack;
  font_style = winner (λ m. m.font_style) theme stack;
}

-- the style by rules: the values that prevail, and the default where there is none
abbrev pub style_of : Theme → List (List ℕ) → Style
style_of theme stack = restyled (winners theme stack) (default_style theme)

-- the style of text with these scopes; text without any has the default
abbrev pub shown_style : Theme → List (List ℕ) → Style
shown_style theme [] = default_style theme
shown_style theme (s ∷ stack) = style_of theme (s ∷ stack)
