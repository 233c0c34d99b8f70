-- What patterns find: each row is a pattern, a text and the place that the search begins at.
use Rattle.std.proofs.Common.{◌≡◌, ℕ, List, [], ◌∷◌, map, Option, Some, None, refl}
use Rattle.std.specs.Prelude.{codes}
use Rattle.std.specs.Str.{chars}
use Prim.Native.String.{String}
use Rattle.unicode.specs.GeneralCategory.{general_category}
use Rattle.ucd_category.specs.GeneralCategoryRows.{general_category_rows}
use Rattle.ucd_case.specs.CaseFolding.{simple_folding}
use Rattle.ucd_case.specs.SimpleFoldingRows.{simple_folding_rows}
use Rattle.ucd_table.specs.Rows.{value_in}
use Rattle.syntect_laws.specs.syntect_pattern.Text.{char_at, char_before, is_boundary}
use Rattle.syntect_laws.specs.syntect_pattern.Sets.{is_word, is_alike, same_fold}
use Rattle.syntect_laws.specs.syntect_pattern.Matches.{Groups, found, found_at, is_word_edge}
use Rattle.syntect_laws.specs.syntect_pattern.Reading.{run, first, char_of, name_in, pass}
use Rattle.syntect_laws.specs.syntect_pattern.Escapes.{escape, one_letter, hex_escape, hex_fixed, category_escape, named_set}
use Rattle.syntect_laws.specs.syntect_pattern.Classes.{class, class_rest, next_in, posix_form, class_escape, member, range_end, start_of, plain_item, posix_item}
use Rattle.syntect_laws.specs.syntect_pattern.Grammar.{tree_of, whole, body, passed, quantified, quantifier, count, loop, off_letters, flags_at, named_group, flag_group, opening, next_char, found_in}

abbrev results : List (String × List ℕ × ℕ) → List (Option Groups)
results = map (λ (pattern, s, from). found_in (codes pattern) s from)

-- the first alternative that lets the rest match
pub priority : results
    (("(a|ab)(c|bcd)(d*)", codes "abcd", 0)
    ∷ ("b", codes "ab", 0)
    ∷ ("(a|b)*", codes "aaaaaaaa", 0)
    ∷ [])
    ≡ Some (Some (0, 4) ∷ Some (0, 1) ∷ Some (1, 4) ∷ Some (4, 4) ∷ [])
    ∷ Some (Some (1, 2) ∷ [])
    ∷ Some (Some (0, 8) ∷ Some (7, 8) ∷ [])
    ∷ []
unfolding tree_of whole body passed pass quantified quantifier count loop off_letters flags_at named_group flag_group opening next_char escape one_letter hex_escape hex_fixed category_escape named_set name_in run first char_of class class_rest next_in posix_form class_escape member range_end start_of plain_item posix_item found found_at char_at char_before is_boundary is_word_edge is_word is_alike same_fold chars general_category general_category_rows value_in simple_folding simple_folding_rows
priority = refl

-- turns that read nothing, and groups that stay
pub loops : results
    (("(a*)*", codes "b", 0)
    ∷ ("((a)|b)+", codes "ab", 0)
    ∷ ("(?:a?){3}b", codes "ab", 0)
    ∷ ("(?:(a)|b)*", codes "ab", 0)
    ∷ [])
    ≡ Some (Some (0, 0) ∷ Some (0, 0) ∷ [])
    ∷ Some (Some (0, 2) ∷ Some (1, 2) ∷ Some (0, 1) ∷ [])
    ∷ Some (Some (0, 2) ∷ [])
    ∷ Some (Some (0, 2) ∷ Some (0, 1) ∷ [])
    ∷ []
unfolding tree_of whole body passed pass quantified quantifier count loop off_letters flags_at named_group flag_group opening next_char escape one_letter hex_escape hex_fixed category_escape named_set name_in run first char_of class class_rest next_in posix_form class_escape member range_end start_of plain_item posix_item found found_at char_at char_before is_boundary is_word_edge is_word is_alike same_fold chars general_category general_category_rows value_in simple_folding simple_folding_rows
loops = refl

-- counted and lazy loops
pub counts : results
    (("a{,2}", codes "aaa", 0)
    ∷ ("x{", codes "x{", 0)
    ∷ ("a{1}?", codes "aaa", 0)
    ∷ ("a{2,3}?", codes "aaa", 0)
    ∷ [])
    ≡ Some (Some (0, 2) ∷ [])
    ∷ Some (Some (0, 2) ∷ [])
    ∷ Some (Some (0, 1) ∷ [])
    ∷ Some (Some (0, 2) ∷ [])
    ∷ []
unfolding tree_of whole body passed pass quantified quantifier count loop off_letters flags_at named_group flag_group opening next_char escape one_letter hex_escape hex_fixed category_escape named_set name_in run first char_of class class_rest next_in posix_form class_escape member range_end start_of plain_item posix_item found found_at char_at char_before is_boundary is_word_edge is_word is_alike same_fold chars general_category general_category_rows value_in simple_folding simple_folding_rows
counts = refl

-- what stands before the search
pub behind : results
    (("(?<=a)b", codes "ab", 1)
    ∷ ("(?<=(ab)|(b))c", codes "abc", 0)
    ∷ ("(?<=.)x", (195 ∷ 164 ∷ 120 ∷ []), 0)
    ∷ [])
    ≡ Some (Some (1, 2) ∷ [])
    ∷ Some (Some (2, 3) ∷ None ∷ Some (1, 2) ∷ [])
    ∷ Some (Some (2, 3) ∷ [])
    ∷ []
unfolding tree_of whole body passed pass quantified quantifier count loop off_letters flags_at named_group flag_group opening next_char escape one_letter hex_escape hex_fixed category_escape named_set name_in run first char_of class class_rest next_in posix_form class_escape member range_end start_of plain_item posix_item found found_at char_at char_before is_boundary is_word_edge is_word is_alike same_fold chars general_category general_category_rows value_in simple_folding simple_folding_rows
behind = refl

-- atomic groups and lookaheads
pub first_alone : results
    (("(?>a|ab)c", codes "abc", 0)
    ∷ ("a++a", codes "aaa", 0)
    ∷ ("(?!(a))b", codes "b", 0)
    ∷ ("(?=a)*", codes "b", 0)
    ∷ ("(?=(a))(a)", codes "a", 0)
    ∷ [])
    ≡ None
    ∷ None
    ∷ Some (Some (0, 1) ∷ None ∷ [])
    ∷ Some (Some (0, 0) ∷ [])
    ∷ Some (Some (0, 1) ∷ Some (0, 1) ∷ Some (0, 1) ∷ [])
    ∷ []
unfolding tree_of whole body passed pass quantified quantifier count loop off_letters flags_at named_group flag_group opening next_char escape one_letter hex_escape hex_fixed category_escape named_set name_in run first char_of class class_rest next_in posix_form class_escape member range_end start_of plain_item posix_item found found_at char_at char_before is_boundary is_word_edge is_word is_alike same_fold chars general_category general_category_rows value_in simple_folding simple_folding_rows
first_alone = refl

-- the flag i
pub folding : results
    (("(?i)k", (226 ∷ 132 ∷ 170 ∷ []), 0)
    ∷ ("(?i)\\p{Lu}", codes "a", 0)
    ∷ ("(?i)(k)\\1", (107 ∷ 226 ∷ 132 ∷ 170 ∷ []), 0)
    ∷ ("(?i)[^k]", codes "K", 0)
    ∷ ("(?i)\\x4b", codes "k", 0)
    ∷ ("(?i)[a-c]", codes "B", 0)
    ∷ ("(?i)[[:upper:]]", codes "a", 0)
    ∷ [])
    ≡ Some (Some (0, 3) ∷ [])
    ∷ None
    ∷ Some (Some (0, 4) ∷ Some (0, 1) ∷ [])
    ∷ None
    ∷ Some (Some (0, 1) ∷ [])
    ∷ Some (Some (0, 1) ∷ [])
    ∷ None
    ∷ []
unfolding tree_of whole body passed pass quantified quantifier count loop off_letters flags_at named_group flag_group opening next_char escape one_letter hex_escape hex_fixed category_escape named_set name_in run first char_of class class_rest next_in posix_form class_escape member range_end start_of plain_item posix_item found found_at char_at char_before is_boundary is_word_edge is_word is_alike same_fold chars general_category general_category_rows value_in simple_folding simple_folding_rows
folding = refl

-- where flags end
pub flags : results
    (("(?:a(?i)b|c)d", codes "aBD", 0)
    ∷ ("(?:a(?i)b|c)d", codes "Cd", 0)
    ∷ ("a(?i)b|c", codes "C", 0)
    ∷ ("(?x)a b # c", codes "ab", 0)
    ∷ [])
    ≡ None
    ∷ Some (Some (0, 2) ∷ [])
    ∷ Some (Some (0, 1) ∷ [])
    ∷ Some (Some (0, 2) ∷ [])
    ∷ []
unfolding tree_of whole body passed pass quantified quantifier count loop off_letters flags_at named_group flag_group opening next_char escape one_letter hex_escape hex_fixed category_escape named_set name_in run first char_of class class_rest next_in posix_form class_escape member range_end start_of plain_item posix_item found found_at char_at char_before is_boundary is_word_edge is_word is_alike same_fold chars general_category general_category_rows value_in simple_folding simple_folding_rows
flags = refl

-- anchors and `.`
pub anchors : results
    (("$", codes "a\n", 0)
    ∷ ("^", codes "a\n", 1)
    ∷ ("(?m).", codes "\n", 0)
    ∷ (".", codes "\n", 0)
    ∷ ("\\bb", codes "a b", 0)
    ∷ ("\\Bb", codes "bb", 0)
    ∷ ("\\Z", codes "a\n", 0)
    ∷ [])
    ≡ Some (Some (1, 1) ∷ [])
    ∷ None
    ∷ Some (Some (0, 1) ∷ [])
    ∷ None
    ∷ Some (Some (2, 3) ∷ [])
    ∷ Some (Some (1, 2) ∷ [])
    ∷ Some (Some (1, 1) ∷ [])
    ∷ []
unfolding tree_of whole body passed pass quantified quantifier count loop off_letters flags_at named_group flag_group opening next_char escape one_letter hex_escape hex_fixed category_escape named_set name_in run first char_of class class_rest next_in posix_form class_escape member range_end start_of plain_item posix_item found found_at char_at char_before is_boundary is_word_edge is_word is_alike same_fold chars general_category general_category_rows value_in simple_folding simple_folding_rows
anchors = refl

-- classes
pub classes : results
    (("[]a]+", codes "a]b", 0)
    ∷ ("[a-c&&[^b]]+", codes "acb", 0)
    ∷ ("[--a]", codes "A", 0)
    ∷ ("[a-c-e]+", codes "a-ed", 0)
    ∷ ("[a-\\d]+", codes "a-5b", 0)
    ∷ ("[a&&]", codes "a", 0)
    ∷ ("[a-d&&b-e&&[c]]", codes "bc", 0)
    ∷ ("[\\b]", (8 ∷ []), 0)
    ∷ ("\\w+", (195 ∷ 164 ∷ 228 ∷ 184 ∷ 173 ∷ []), 0)
    ∷ [])
    ≡ Some (Some (0, 2) ∷ [])
    ∷ Some (Some (0, 2) ∷ [])
    ∷ Some (Some (0, 1) ∷ [])
    ∷ Some (Some (0, 3) ∷ [])
    ∷ Some (Some (0, 3) ∷ [])
    ∷ None
    ∷ Some (Some (1, 2) ∷ [])
    ∷ Some (Some (0, 1) ∷ [])
    ∷ Some (Some (0, 5) ∷ [])
    ∷ []
unfolding tree_of whole body passed pass quantified quantifier count loop off_letters flags_at named_group flag_group opening next_char escape one_letter hex_escape hex_fixed category_escape named_set name_in run first char_of class class_rest next_in posix_form class_escape member range_end start_of plain_item posix_item found found_at char_at char_before is_boundary is_word_edge is_word is_alike same_fold chars general_category general_category_rows value_in simple_folding simple_folding_rows
classes = refl

-- back references
pub references : results
    (("\\1(a)", codes "aa", 0)
    ∷ ("(?<n>a)\\k<n>", codes "aa", 0)
    ∷ [])
    ≡ None
    ∷ Some (Some (0, 2) ∷ Some (0, 1) ∷ [])
    ∷ []
unfolding tree_of whole body passed pass quantified quantifier count loop off_letters flags_at named_group flag_group opening next_char escape one_letter hex_escape hex_fixed category_escape named_set name_in run first char_of class class_rest next_in posix_form class_escape member range_end start_of plain_item posix_item found found_at char_at char_before is_boundary is_word_edge is_word is_alike same_fold chars general_category general_category_rows value_in simple_folding simple_folding_rows
references = refl

-- where a search may begin and a match start
pub starts : results
    (("a*", codes "b", 1)
    ∷ ("a*", codes "b", 2)
    ∷ ("", (195 ∷ 164 ∷ []), 1)
    ∷ [])
    ≡ Some (Some (1, 1) ∷ [])
    ∷ None
    ∷ Some (Some (2, 2) ∷ [])
    ∷ []
unfolding tree_of whole body passed pass quantified quantifier count loop off_letters flags_at named_group flag_group opening next_char escape one_letter hex_escape hex_fixed category_escape named_set name_in run first char_of class class_rest next_in posix_form class_escape member range_end start_of plain_item posix_item found found_at char_at char_before is_boundary is_word_edge is_word is_alike same_fold chars general_category general_category_rows value_in simple_folding simple_folding_rows
starts = refl
