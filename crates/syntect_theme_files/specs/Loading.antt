-- What a value says as a theme, or as a part of one.
use Rattle.std.specs.Prelude.{◌≡◌, ℕ, List, [], ◌∷◌, codes, if◌then◌else◌, Option, Some, None, option_and_then, Result, Ok, Err}
use Rattle.std.specs.Option.{ok_or}
use Rattle.serde_json.specs.Data.{Data, Items, no_items, item}
use Rattle.serde_json.specs.Find.{as_str, as_array, as_object, get}
use Rattle.serde_json.specs.Written.{has_float, compact_text}
use Rattle.syntect_theme_files.specs.syntect_scope.Repository.{with_scopes, first_refusal}
use Rattle.syntect_theme_files.specs.syntect_scope.SelectorText.{selectors_in, union_words}
use Rattle.syntect_theme_files.specs.syntect_scope.declared.repository.ParseScopeError.{ParseScopeError}
use Rattle.syntect_theme_files.specs.syntect_scope.declared.repository.ParseScopeError.TheVariants as scope
use Rattle.syntect_theme_files.specs.syntect_scope.declared.selector.ScopeSelectors.{ScopeSelectors}
use Rattle.syntect_theme_files.specs.syntect_base.declared.theme.ParseThemeError.{ParseThemeError}
use Rattle.syntect_theme_files.specs.syntect_base.declared.theme.ParseThemeError.TheVariants as error
use Rattle.syntect_theme.specs.Modifying.{first_some}
use Rattle.syntect_theme.specs.Texts.{underline_of, color_of, flags_of_text}
use Rattle.syntect_theme.specs.declared.style.Color.{Color}
use Rattle.syntect_theme.specs.declared.style.FontStyle.{FontStyle}
use Rattle.syntect_theme.specs.declared.style.StyleModifier.{StyleModifier}
use Rattle.syntect_theme.specs.declared.theme.Theme.{Theme}
use Rattle.syntect_theme.specs.declared.theme.ThemeItem.{ThemeItem}
use Rattle.syntect_theme.specs.declared.theme.ThemeSettings.{ThemeSettings}
use Rattle.syntect_theme.specs.declared.theme.UnderlineOption.{UnderlineOption}

-- ---- one answer after another ----

-- the next answer, from the value of the first one; its refusal stays
abbrev pub next : {X Y : Type 0} → Result X ParseThemeError → (X → Result Y ParseThemeError)
    → Result Y ParseThemeError
next (Ok x) f = f x
next (Err e) f = Err e

-- nothing where there is no value
abbrev pub optional : {X : Type 0} → (Data → Result X ParseThemeError) → Option Data
    → Result (Option X) ParseThemeError
optional read None = Ok None
optional read (Some d) = next (read d) (λ x. Ok (Some x))

-- ---- texts ----

-- how a refusal shows a value: as compact JSON, and as `float` where it holds one
abbrev pub shown_value : Data → List ℕ
shown_value d = if has_float d then codes "float" else compact_text d

abbrev pub color_in : Data → Option Color
color_in d = option_and_then color_of (as_str d)

abbrev pub underline_in : Data → Option UnderlineOption
underline_in d = option_and_then underline_of (as_str d)

abbrev pub color_at : Data → Result Color ParseThemeError
color_at d = ok_or (color_in d) error.IncorrectColor

abbrev pub underline_at : Data → Result UnderlineOption ParseThemeError
underline_at d = ok_or (underline_in d) error.IncorrectUnderlineOption

-- the flags of a text
abbrev pub flags_at : Data → Result FontStyle ParseThemeError
flags_at d = of_text (as_str d)
  where
    of_text : Option (List ℕ) → Result FontStyle ParseThemeError
    of_text (Some text) = flags_of_text text
    of_text None = Err (error.IncorrectFontStyle (shown_value d))

-- the selectors of a text, of which the repository takes up the scopes
abbrev pub selectors_of_text : List (List ℕ) → List ℕ → Result ScopeSelectors ParseThemeError
selectors_of_text repo text = unless_refused (first_refusal repo (union_words text))
  where
    unless_refused : Option ParseScopeError → Result ScopeSelectors ParseThemeError
    unless_refused None =
        Ok (record { selectors = selectors_in (with_scopes repo (union_words text)) text })
    unless_refused (Some e) = Err (error.ScopeParse e)

-- the texts of the scopes of a union of selectors
abbrev pub text_words : Option (List ℕ) → List (List ℕ)
text_words (Some text) = union_words text
text_words None = []

-- the selectors of a value
abbrev pub selectors_at : List (List ℕ) → Data → Result ScopeSelectors ParseThemeError
selectors_at repo d = of_text (as_str d)
  where
    of_text : Option (List ℕ) → Result ScopeSelectors ParseThemeError
    of_text (Some text) = selectors_of_text repo text
    of_text None = Err (error.ScopeSelectorIsNotString (shown_value d))

-- ---- rules ----

-- the changes that an object makes
abbrev pub changes_in : Data → Result StyleModifier ParseThemeError
changes_in d =
    next (optional flags_at (get (codes "fontStyle") d)) (λ f.
    next (optional color_at (get (codes "foreground") d)) (λ c.
    next (optional color_at (get (codes "background") d)) (λ b.
    Ok (record { foreground = c; background = b; font_style = f }))))

abbrev pub style_at : Data → Result StyleModifier ParseThemeError
style_at d = next (ok_or (as_object d) error.ColorShemeScopeIsNotObject) (λ ms. changes_in d)

-- the selectors of a rule
abbrev pub rule_selectors : List (List ℕ) → Option Data → Result ScopeSelectors ParseThemeError
rule_selectors repo None = Err (error.ScopeSelectorIsNotString [])
rule_selectors repo (Some d) = selectors_at repo d

-- the changes that a rule makes
abbrev pub rule_changes : Option Data → Result StyleModifier ParseThemeError
rule_changes None = Err error.IncorrectSettings
rule_changes (Some d) = style_at d

-- the rule that an object makes
abbrev pub rule_in : List (List ℕ) → Data → Result ThemeItem ParseThemeError
rule_in repo d =
    next (rule_selectors repo (get (codes "scope") d)) (λ selectors.
    next (rule_changes (get (codes "settings") d)) (λ style.
    Ok (record { scope = selectors; style = style })))

abbrev pub item_at : List (List ℕ) → Data → Result ThemeItem ParseThemeError
item_at repo d = next (ok_or (as_object d) error.ColorShemeScopeIsNotObject) (λ ms. rule_in repo d)

-- ---- settings ----

-- the colour of a key
abbrev pub color_field : Data → List ℕ → Option Color
color_field d key = option_and_then color_in (get key d)

abbrev pub underline_field : Data → List ℕ → Option UnderlineOption
underline_field d key = option_and_then underline_in (get key d)

abbrev pub text_field : Data → List ℕ → Option (List ℕ)
text_field d key = option_and_then as_str (get key d)

-- each setting stands under its name, written as one word whose later parts begin with capitals
abbrev pub settings_in : Data → ThemeSettings
settings_in d = record {
  foreground = color_field d (codes "foreground");
  background = color_field d (codes "background");
  caret = color_field d (codes "caret");
  line_highlight = color_field d (codes "lineHighlight");
  misspelling = color_field d (codes "misspelling");
  minimap_border = color_field d (codes "minimapBorder");
  accent = color_field d (codes "accent");
  popup_css = text_field d (codes "popupCss");
  phantom_css = text_field d (codes "phantomCss");
  bracket_contents_foreground = color_field d (codes "bracketContentsForeground");
  bracket_contents_options = underline_field d (codes "bracketContentsOptions");
  brackets_foreground = color_field d (codes "bracketsForeground");
  brackets_background = color_field d (codes "bracketsBackground");
  brackets_options = underline_field d (codes "bracketsOptions");
  tags_foreground = color_field d (codes "tagsForeground");
  tags_options = underline_field d (codes "tagsOptions");
  highlight = color_field d (codes "highlight");
  find_highlight = color_field d (codes "findHighlight");
  find_highlight_foreground = color_field d (codes "findHighlightForeground");
  gutter = color_field d (codes "gutter");
  gutter_foreground = color_field d (codes "gutterForeground");
  selection = color_field d (codes "selection");
  selection_foreground = color_field d (codes "selectionForeground");
  selection_border = color_field d (codes "selectionBorder");
  inactive_selection = color_field d (codes "inactiveSelection");
  inactive_selection_foreground = color_field d (codes "inactiveSelectionForeground");
  guide = color_field d (codes "guide");
  active_guide = color_field d (codes "activeGuide");
  stack_guide = color_field d (codes "stackGuide");
  shadow = color_field d (codes "shadow");
}

-- ---- the same settings, some at a time ----

abbrev pub settings_at : Data → Result ThemeSettings ParseThemeError
settings_at d =
    next (ok_or (as_object d) error.ColorShemeSettingsIsNotObject) (λ ms. Ok (settings_in d))

-- ---- themes ----

-- the settings of a gutter, where they stand apart, fill what is left open
abbrev pub with_gutter : Option Data → ThemeSettings → ThemeSettings
with_gutter None s = s
with_gutter (Some d) s = record s {
  gutter = first_some s.gutter (color_field d (codes "background"));
  gutter_foreground = first_some s.gutter_foreground (color_field d (codes "foreground"));
}

-- a text, or nothing where there is no value
abbrev pub own_text : Option Data → Result (Option (List ℕ)) ParseThemeError
own_text d = optional (λ v. ok_or (as_str v) error.IncorrectSyntax) d

-- the settings of a theme: those of the first of its items
abbrev pub first_settings : Items → Result ThemeSettings ParseThemeError
first_settings no_items = Err error.UndefinedSettings
first_settings (item d ds) =
    next (ok_or (get (codes "settings") d) error.UndefinedSettings) settings_at

-- the items after the first
abbrev pub later_items : Items → Items
later_items no_items = no_items
later_items (item d ds) = ds

-- the items of a theme
abbrev pub items_at : Data → Result Items ParseThemeError
items_at d = ok_or (option_and_then as_array (get (codes "settings") d)) error.IncorrectSyntax

-- the items after the first, where there are items
abbrev pub all_later : Result Items ParseThemeError → Items
all_later (Ok ds) = later_items ds
all_later (Err e) = no_items

-- a theme of this name, by this author, with these settings and those of an object's gutter
abbrev pub bare_theme : Data → Option (List ℕ) → Option (List ℕ) → ThemeSettings → Theme
bare_theme d name author settings = record {
  name = name;
  author = author;
  settings = with_gutter (get (codes "gutterSettings") d) settings;
  scopes = [];
}

-- what stands round the rules in an object
abbrev pub head_in : Data → Result Theme ParseThemeError
head_in d =
    next (own_text (get (codes "name") d)) (λ name.
    next (own_text (get (codes "author") d)) (λ author.
    next (items_at d) (λ ds.
    next (first_settings ds) (λ settings. Ok (bare_theme d name author settings)))))

-- a theme without its rules
abbrev pub head_at : Data → Result Theme ParseThemeError
head_at d = next (ok_or (as_object d) error.IncorrectSyntax) (λ ms. head_in d)

-- the texts of the scopes of a rule
abbrev pub rule_words : Data → List (List ℕ)
rule_words d = text_words (option_and_then as_str (get (codes "scope") d))

-- one more rule, unless it is refused
abbrev pub with_rule : Result ThemeItem ParseThemeError → List ThemeItem → List ThemeItem
with_rule (Ok rule) rules = rule ∷ rules
with_rule (Err e) rules = rules

-- of two repositories the first, unless the rule is refused
abbrev pub unless_refused : Result ThemeItem ParseThemeError → List (List ℕ) → List (List ℕ)
    → List (List ℕ)
unless_refused (Ok rule) grown repo = grown
unless_refused (Err e) grown repo = repo

-- the repository after a rule was read: with the rule's scopes, and as it was where
-- the rule is refused
abbrev pub after_rule : List (List ℕ) → Data → List (List ℕ)
after_rule repo d = unless_refused (item_at repo d) (with_scopes repo (rule_words d)) repo

-- the rules of values, one after another, but for those that are refused
abbrev pub rules_in : List (List ℕ) → Items → List ThemeItem
rules_in repo no_items = []
rules_in repo (item d ds) = with_rule (item_at repo d) (rules_in (after_rule repo d) ds)

-- the repository after them
abbrev pub after_rules : List (List ℕ) → Items → List (List ℕ)
after_rules repo no_items = repo
after_rules repo (item d ds) = after_rules (after_rule repo d) ds

-- The theme of a value, read with a repository that becomes another one: what stands round the
-- rules is the value's, and the rules are those of its later items. The other repository has the
-- scopes of these rules more, and no others.
pub record IsTheme (old : List (List ℕ)) (d : Data) (new : List (List ℕ))
    (theme : Theme) : Type 0 where
  pub head : head_at d ≡ Ok (record theme { scopes = [] })
  pub rules : theme.scopes ≡ rules_in old (all_later (items_at d))
  pub atoms : new ≡ after_rules old (all_later (items_at d))

-- ---- For proofs and private functions alone ----

-- a refusal of scopes, passed on
abbrev pub scope_refusal : ParseScopeError → ParseThemeError
scope_refusal scope.Memory = error.Memory
scope_refusal scope.TooLong = error.ScopeParse scope.TooLong
scope_refusal scope.TooManyAtoms = error.ScopeParse scope.TooManyAtoms

abbrev pub first_fields : Data → ThemeSettings → ThemeSettings
first_fields d s = record s {
  foreground = color_field d (codes "foreground");
  background = color_field d (codes "background");
  caret = color_field d (codes "caret");
  line_highlight = color_field d (codes "lineHighlight");
  misspelling = color_field d (codes "misspelling");
  minimap_border = color_field d (codes "minimapBorder");
  accent = color_field d (codes "accent");
}

abbrev pub second_fields : Data → ThemeSettings → ThemeSettings
second_fields d s = record s {
  popup_css = text_field d (codes "popupCss");
  phantom_css = text_field d (codes "phantomCss");
  bracket_contents_foreground = color_field d (codes "bracketContentsForeground");
  bracket_contents_options = underline_field d (codes "bracketContentsOptions");
  brackets_foreground = color_field d (codes "bracketsForeground");
  brackets_background = color_field d (codes "bracketsBackground");
  brackets_options = underline_field d (codes "bracketsOptions");
}

abbrev pub third_fields : Data → ThemeSettings → ThemeSettings
third_fields d s = record s {
  tags_foreground = color_field d (codes "tagsForeground");
  tags_options = underline_field d (codes "tagsOptions");
  highlight = color_field d (codes "highlight");
  find_highlight = color_field d (codes "findHighlight");
  find_highlight_foreground = color_field d (codes "findHighlightForeground");
  gutter = color_field d (codes "gutter");
  gutter_foreground = color_field d (codes "gutterForeground");
  selection = color_field d (codes "selection");
}

abbrev pub fourth_fields : Data → ThemeSettings → ThemeSettings
fourth_fields d s = record s {
  selection_foreground = color_field d (codes "selectionForeground");
  selection_border = color_field d (codes "selectionBorder");
  inactive_selection = color_field d (codes "inactiveSelection");
  inactive_selection_foreground = color_field d (codes "inactiveSelectionForeground");
  guide = color_field d (codes "guide");
  active_guide = color_field d (codes "activeGuide");
  stack_guide = color_field d (codes "stackGuide");
  shadow = color_field d (codes "shadow");
}
