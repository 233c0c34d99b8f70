-- A style sheet has no `<`, and its comment ends before its rules.
use Rattle.std.proofs.Common.{◌≡◌, ℕ, suc, zero, ◌+◌, ◌/◌, ◌%◌, ◌==◌, nat_lt, Bool, true, false, not, List, [], ◌∷◌, ◌++◌, map, codes, bit_and, refl, ◌∙◌, ap, inl, inr, arith, append_assoc}
use Rattle.std.specs.Prelude.{Option, Some, None, chars}
use Rattle.std.specs.Fmt.{digits, digits_onto, digit_glyph}
use Rattle.std.specs.List.{list_all, flat_map, filter}
use Rattle.std.proofs.lemmas.Bool.{cases_Bool}
use Rattle.std.proofs.lemmas.Bool.Decides.{nat_tests}
use Rattle.std.proofs.lemmas.List.Folds.{list_all-append}
use Rattle.syntect_writers.specs.Comment.{told_chars, told_name, after_comment, stays_inside}
use Rattle.syntect_writers.specs.Identifier.{needs_no_escape, identifier_char, identifier_chars, identifier}
use Rattle.syntect_writers.specs.Sheet.{joined_by, class_selector, scope_selector, path_selector, has_path, color_line, flag_lines, declarations, block, rule_body, rule_under, rule_text, theme_name, heading, sheet_start, sheet_rules, sheet_text}
use Rattle.syntect_writers.proofs.CommentLaws.{whole_told}
use Rattle.syntect_writers.proofs.InsideLaws.{past_name, name_inside, quote_passed}
use Rattle.syntect_writers.specs.syntect_scope.Repository.{atom_text}
use Rattle.syntect_writers.specs.syntect_scope.declared.selector.ScopeSelector.{ScopeSelector}
use Rattle.syntect_theme.specs.Modifying.{bits_of}
use Rattle.syntect_theme.specs.declared.style.Color.{Color}
use Rattle.syntect_theme.specs.declared.style.FontStyle.{FontStyle}
use Rattle.syntect_theme.specs.declared.theme.Theme.{Theme}
use Rattle.syntect_theme.specs.declared.theme.ThemeItem.{ThemeItem}
use Rattle.syntect_writers.specs.Spans.{asked_for, hex_digit, rgb_text}

-- ---- texts put together ----

abbrev inside : List ℕ → Type 0
inside bs = list_all stays_inside bs ≡ true

joined : (xs ys : List ℕ) → inside xs → inside ys → inside (xs ++ ys)
joined xs ys e f = list_all-append stays_inside xs ys ∙ rw (e) f

flat : {X : Type 0} (f : X → List ℕ) → ((x : X) → inside (f x)) → (xs : List X) → inside (flat_map f xs)
flat f h [] = refl
flat f h (x ∷ xs) = joined (f x) (flat_map f xs) (h x) (flat f h xs)

after_first : {X : Type 0} (f : X → List ℕ) (mark : List ℕ) → inside mark → ((x : X) → inside (f x)) → (xs : List X) → inside (flat_map (λ u. mark ++ u) (map f xs))
after_first f mark m h [] = refl
after_first f mark m h (x ∷ xs) = joined (mark ++ f x) (flat_map (λ u. mark ++ u) (map f xs)) (joined mark (f x) m (h x)) (after_first f mark m h xs)

-- texts with another one between them
between : {X : Type 0} (f : X → List ℕ) (mark : List ℕ) → inside mark → ((x : X) → inside (f x)) → (xs : List X) → inside (joined_by mark (map f xs))
between f mark m h [] = refl
between f mark m h (x ∷ xs) = joined (f x) (flat_map (λ u. mark ++ u) (map f xs)) (h x) (after_first f mark m h xs)

-- ---- identifiers ----

glyph : (d : ℕ) → stays_inside (digit_glyph false d) ≡ true
glyph d = elim (cases_Bool (nat_lt d 10)) [ inl e ↦ rw e (low d e) | inr e ↦ rw e (high d) ]
  where
    low : (d : ℕ) → nat_lt d 10 ≡ true → not ((48 + d) == 60) ≡ true
    low d e = grind (arith, nat_tests)

    high : (d : ℕ) → not ((87 + d) == 60) ≡ true
    high d = grind (arith, nat_tests)

digits_inside : (k n : ℕ) (acc : List ℕ) → inside acc → inside (digits_onto k 16 false n acc)
digits_inside zero n acc e = e
digits_inside (suc k) n acc e =
    elim (cases_Bool (n / 16 == 0)) [
      | inl z ↦ rw (z, glyph (n % 16)) e
      | inr z ↦ rw z (digits_inside k (n / 16) (digit_glyph false (n % 16) ∷ acc) (rw (glyph (n % 16)) e))
    ]

char_inside : (first : Bool) (c : ℕ) → inside (identifier_char first c)
unfolding digits
char_inside first c =
    elim (cases_Bool (needs_no_escape first c)) [
      | inl e ↦ rw e (let o : not (c == 60) ≡ true = of_stands first c e in rw o refl)
      | inr e ↦ rw e (joined (digits_onto 64 16 false c []) (32 ∷ []) (digits_inside 64 c [] refl) refl)
    ]
  where
    of_stands : (first : Bool) (c : ℕ) → needs_no_escape first c ≡ true → not (c == 60) ≡ true
    of_stands true c e = grind (arith, nat_tests)
    of_stands false c e = grind (arith, nat_tests)

identifier_inside : (text : List ℕ) → inside (identifier text)
identifier_inside text = of_chars (chars text)
  where
    of_chars : (cs : List ℕ) → inside (identifier_chars cs)
    of_chars [] = refl
    of_chars (c ∷ cs) = joined (identifier_char true c) (flat_map (identifier_char false) cs) (char_inside true c) (flat (identifier_char false) (char_inside false) cs)

-- ---- selectors ----

class_inside : (prefix name : List ℕ) → inside (class_selector prefix name)
class_inside prefix name = identifier_inside (prefix ++ name)

scope_inside : (prefix : List ℕ) (repo : List (List ℕ)) (scope : List ℕ) → inside (scope_selector prefix repo scope)
scope_inside prefix repo scope = flat (λ atom. class_selector prefix (atom_text repo atom)) (λ atom. class_inside prefix (atom_text repo atom)) scope

path_inside : (prefix : List ℕ) (repo : List (List ℕ)) (scopes : List (List ℕ)) → inside (path_selector prefix repo scopes)
path_inside prefix repo scopes = between (scope_selector prefix repo) (32 ∷ []) refl (scope_inside prefix repo) scopes

-- ---- declarations ----

hex_inside : (d : ℕ) → stays_inside (hex_digit d) ≡ true
hex_inside d = glyph d

rgb_inside : (color : Color) → inside (rgb_text color)
rgb_inside color =
    rw (hex_inside (color.r / 16), hex_inside (color.r % 16), hex_inside (color.g / 16), hex_inside (color.g % 16), hex_inside (color.b / 16), hex_inside (color.b % 16)) refl

line_inside : (name : List ℕ) (color : Option Color) → inside name → inside (color_line name color)
line_inside name None e = refl
line_inside name (Some color) e = joined name (rgb_text color ++ codes ";\n") e (joined (rgb_text color) (codes ";\n") (rgb_inside color) refl)

asked_inside : (b : Bool) (text : List ℕ) → inside text → inside (asked_for b text)
unfolding asked_for
asked_inside true text e = e
asked_inside false text e = refl

flags_inside : (font : Option FontStyle) → inside (flag_lines font)
flags_inside None = refl
flags_inside (Some font) =
    joined (asked_for (bit_and (bits_of font) 2 == 2) (codes "text-decoration: underline;\n"))
    (asked_for (bit_and (bits_of font) 1 == 1) (codes "font-weight: bold;\n") ++ asked_for (bit_and (bits_of font) 4 == 4) (codes "font-style: italic;\n"))
    (asked_inside (bit_and (bits_of font) 2 == 2) (codes "text-decoration: underline;\n") refl)
    (joined (asked_for (bit_and (bits_of font) 1 == 1) (codes "font-weight: bold;\n")) (asked_for (bit_and (bits_of font) 4 == 4) (codes "font-style: italic;\n"))
    (asked_inside (bit_and (bits_of font) 1 == 1) (codes "font-weight: bold;\n") refl)
    (asked_inside (bit_and (bits_of font) 4 == 4) (codes "font-style: italic;\n") refl))

declarations_inside : (foreground background : Option Color) (font : Option FontStyle) → inside (declarations foreground background font)
declarations_inside foreground background font =
    joined (color_line (codes " color: ") foreground) (color_line (codes " background-color: ") background ++ flag_lines font)
    (line_inside (codes " color: ") foreground refl)
    (joined (color_line (codes " background-color: ") background) (flag_lines font) (line_inside (codes " background-color: ") background refl) (flags_inside font))

block_inside : (foreground background : Option Color) (font : Option FontStyle) → inside (block foreground background font)
block_inside foreground background font =
    joined (codes " {\n") (declarations foreground background font ++ codes "}\n") refl
    (joined (declarations foreground background font) (codes "}\n") (declarations_inside foreground background font) refl)

-- ---- the sheet ----

rule_inside : (prefix : List ℕ) (repo : List (List ℕ)) (item : ThemeItem) → inside (rule_text prefix repo item)
rule_inside prefix repo item = under (filter has_path item.scope.selectors)
  where
    f : ScopeSelector → List ℕ
    f selector = path_selector prefix repo selector.path.scopes

    under : (selectors : List ScopeSelector) → inside (rule_under (map f selectors) item.style)
    under [] = refl
    under (s ∷ ss) =
        joined (joined_by (codes ", ") (map f (s ∷ ss))) (rule_body item.style) (between f (codes ", ") refl (λ x. path_inside prefix repo x.path.scopes) (s ∷ ss))
        (block_inside item.style.foreground item.style.background item.style.font_style)

name_told : (theme : Theme) → inside (theme_name theme)
name_told theme = of_name theme.name
  where
    of_name : (name : Option (List ℕ)) → inside (theme_name (record theme { name = name }))
    of_name None = refl
    of_name (Some name) = name_inside (told_chars (chars name)) (whole_told (chars name))

heading_inside : (theme : Theme) → inside (heading theme)
heading_inside theme = joined (codes "/*\n * theme \"") (theme_name theme ++ codes "\" generated by syntect\n */\n\n") refl (joined (theme_name theme) (codes "\" generated by syntect\n */\n\n") (name_told theme) refl)

-- a sheet has no `<`
pub sheet_inside : (prefix : List ℕ) (repo : List (List ℕ)) (theme : Theme) → inside (sheet_text prefix repo theme)
sheet_inside prefix repo theme =
    joined (sheet_start prefix theme) (flat_map (rule_text prefix repo) theme.scopes)
    (joined (heading theme) (class_selector prefix (codes "code") ++ (block theme.settings.foreground theme.settings.background None ++ codes "\n")) (heading_inside theme)
    (joined (class_selector prefix (codes "code")) (block theme.settings.foreground theme.settings.background None ++ codes "\n") (class_inside prefix (codes "code"))
    (joined (block theme.settings.foreground theme.settings.background None) (codes "\n") (block_inside theme.settings.foreground theme.settings.background None) refl)))
    (flat (rule_text prefix repo) (rule_inside prefix repo) theme.scopes)

heading_passed : (theme : Theme) (rest : List ℕ) → after_comment (heading theme ++ rest) ≡ codes "\n\n" ++ rest
heading_passed theme rest =
    ap (λ (l : List ℕ). after_comment (codes "/*\n * theme \"" ++ l)) (append_assoc (theme_name theme) (codes "\" generated by syntect\n */\n\n") rest)
    ∙ of_name theme.name
  where
    more : List ℕ
    more = codes " generated by syntect\n */\n\n" ++ rest

    of_name : (name : Option (List ℕ)) → after_comment (codes "/*\n * theme \"" ++ (theme_name (record theme { name = name }) ++ (34 ∷ more))) ≡ codes "\n\n" ++ rest
    of_name None = refl
    of_name (Some name) = quote_passed (told_name name ++ (34 ∷ more)) ∙ past_name (told_chars (chars name)) more (whole_told (chars name))

-- the comment of a sheet ends before its rules
pub comment_passed : (prefix : List ℕ) (repo : List (List ℕ)) (theme : Theme) → after_comment (sheet_text prefix repo theme) ≡ codes "\n\n" ++ sheet_rules prefix repo theme
comment_passed prefix repo theme =
    ap after_comment (append_assoc (heading theme) (class_selector prefix (codes "code") ++ (block theme.settings.foreground theme.settings.background None ++ codes "\n")) (flat_map (rule_text prefix repo) theme.scopes))
    ∙ heading_passed theme (sheet_rules prefix repo theme)
