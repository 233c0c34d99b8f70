-- Themes without anything in them.
use Rattle.std.specs.Prelude.{None}
use Rattle.syntect_theme.specs.declared.style.StyleModifier.{StyleModifier}
use Rattle.syntect_theme.specs.declared.theme.ThemeSettings.{ThemeSettings}

-- no setting is made
abbrev pub no_settings : ThemeSettings
no_settings = record {
  foreground = None;
  background = None;
  caret = None;
  line_highlight = None;
  misspelling = None;
  minimap_border = None;
  accent = None;
  popup_css = None;
  phantom_css = None;
  bracket_contents_foreground = None;
  bracket_contents_options = None;
  brackets_foreground = None;
  brackets_background = None;
  brackets_options = None;
  tags_foreground = None;
  tags_options = None;
  highlight = None;
  find_highlight = None;
  find_highlight_foreground = None;
  gutter = None;
  gutter_foreground = None;
  selection = None;
  selection_foreground = None;
  selection_border = None;
  inactive_selection = None;
  inactive_selection_foreground = None;
  guide = None;
  active_guide = None;
  stack_guide = None;
  shadow = None;
}

-- no attribute is changed
abbrev pub no_change : StyleModifier
no_change = record { foreground = None; background = None; font_style = None }
