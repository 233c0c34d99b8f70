-- Texts that are patterns and texts that are none.
use Rattle.std.proofs.Common.{◌≡◌, List, [], ◌∷◌, Option, Some, None, Bool, true, false, refl}
use Rattle.std.specs.Prelude.{codes, is_some, is_none}
use Rattle.std.specs.List.{list_all}
use Rattle.syntect_laws.specs.syntect_pattern.Trees.{group_in_look}
use Rattle.syntect_laws.specs.syntect_pattern.Reading.{run, first, char_of, name_in, pass}
use Rattle.syntect_laws.specs.syntect_pattern.Escapes.{escape, one_letter, hex_escape, hex_fixed, category_escape, named_set}
use Rattle.syntect_laws.specs.syntect_pattern.Classes.{class, class_rest, next_in, posix_form, class_escape, member, range_end, start_of, plain_item, posix_item}
use Rattle.syntect_laws.specs.syntect_pattern.Grammar.{tree_of, whole, body, passed, quantified, quantifier, count, loop, off_letters, flags_at, named_group, flag_group, opening, next_char}
use Rattle.unicode.specs.GeneralCategory.{general_category}
use Rattle.ucd_category.specs.GeneralCategoryRows.{general_category_rows}
use Rattle.ucd_table.specs.Rows.{value_in}

-- texts that are no pattern
pub refused : list_all (λ s. is_none (tree_of (codes s)))
    ("*a" ∷ "a**" ∷ "a{2}+" ∷ "^*" ∷ "(a" ∷ "a)" ∷ "[a" ∷ "[b-a]" ∷ "a{1001}" ∷ "a{2,1}" ∷ "\\q" ∷ "\\G" ∷ "\\2(a)" ∷ "\\é" ∷ "\\๓" ∷ "[\\é]" ∷ "(?<n>a)(?<n>b)" ∷ "\\" ∷ []) ≡ true
unfolding tree_of whole body passed pass quantified quantifier count loop off_letters flags_at named_group flag_group opening next_char escape one_letter hex_escape hex_fixed category_escape named_set name_in run first char_of class class_rest next_in posix_form class_escape member range_end start_of plain_item posix_item general_category general_category_rows value_in
refused = refl

-- 201 groups are too deep
pub refused_depth : list_all (λ s. is_none (tree_of (codes s)))
    ("(((((((((((((((((((((((((((((((((((((((((((((((((((((((((((((((((((((((((((((((((((((((((((((((((((((((((((((((((((((((((((((((((((((((((((((((((((((((((((((((((((((((((((((((((((((((((((((((((((((((((a)))))))))))))))))))))))))))))))))))))))))))))))))))))))))))))))))))))))))))))))))))))))))))))))))))))))))))))))))))))))))))))))))))))))))))))))))))))))))))))))))))))))))))))))))))))))))))))))))))))))))" ∷ []) ≡ true
unfolding tree_of whole body passed pass quantified quantifier count loop off_letters flags_at named_group flag_group opening next_char escape one_letter hex_escape hex_fixed category_escape named_set name_in run first char_of class class_rest next_in posix_form class_escape member range_end start_of plain_item posix_item general_category general_category_rows value_in
refused_depth = refl

-- 200 are not
pub read_depth : list_all (λ s. is_some (tree_of (codes s)))
    ("((((((((((((((((((((((((((((((((((((((((((((((((((((((((((((((((((((((((((((((((((((((((((((((((((((((((((((((((((((((((((((((((((((((((((((((((((((((((((((((((((((((((((((((((((((((((((((((((((((((((a))))))))))))))))))))))))))))))))))))))))))))))))))))))))))))))))))))))))))))))))))))))))))))))))))))))))))))))))))))))))))))))))))))))))))))))))))))))))))))))))))))))))))))))))))))))))))))))))))))))))" ∷ []) ≡ true
unfolding tree_of whole body passed pass quantified quantifier count loop off_letters flags_at named_group flag_group opening next_char escape one_letter hex_escape hex_fixed category_escape named_set name_in run first char_of class class_rest next_in posix_form class_escape member range_end start_of plain_item posix_item general_category general_category_rows value_in
read_depth = refl

-- more texts that are no pattern: quantifiers
pub refused_quantifiers : list_all (λ s. is_none (tree_of (codes s)))
    ("a|*b" ∷ "(*a)" ∷ "(?i)*" ∷ "a(?i)*" ∷ "a***" ∷ "a+?+" ∷ "a++?" ∷ "a*??" ∷ "a{1,2}{3}" ∷ "a{2}{3}" ∷ "{2}" ∷ "{,2}" ∷ "a{2000}" ∷ "a{,1001}" ∷ "a{1001,}" ∷ "a{3,}+" ∷ "\\b*" ∷ "$+" ∷ "\\Z?" ∷ "\\A{2}" ∷ "(?x)a* ?" ∷ "a*(?#c)?" ∷ "(?x)a+ +" ∷ "a?{2}" ∷ []) ≡ true
unfolding tree_of whole body passed pass quantified quantifier count loop off_letters flags_at named_group flag_group opening next_char escape one_letter hex_escape hex_fixed category_escape named_set name_in run first char_of class class_rest next_in posix_form class_escape member range_end start_of plain_item posix_item general_category general_category_rows value_in
refused_quantifiers = refl

-- groups
pub refused_groups : list_all (λ s. is_none (tree_of (codes s)))
    ("(?" ∷ "(?)" ∷ "(?-)" ∷ "(?i-)" ∷ "(?-:a)" ∷ "(?y)" ∷ "(?i" ∷ "(?i-x" ∷ "(?a:b)" ∷ "(?x)( ?:a)" ∷ "(?<1>a)" ∷ "(?<>a)" ∷ "(?<na)" ∷ "(?P=n)" ∷ "(?P>n)" ∷ "(?'n'a)" ∷ "(?<n-1>a)" ∷ "(?#a" ∷ "a(?#" ∷ "(?|a)" ∷ "(?>a" ∷ "(?(1)a)" ∷ "(?i:a" ∷ []) ≡ true
unfolding tree_of whole body passed pass quantified quantifier count loop off_letters flags_at named_group flag_group opening next_char escape one_letter hex_escape hex_fixed category_escape named_set name_in run first char_of class class_rest next_in posix_form class_escape member range_end start_of plain_item posix_item general_category general_category_rows value_in
refused_groups = refl

-- escapes
pub refused_escapes : list_all (λ s. is_none (tree_of (codes s)))
    ("\\K" ∷ "\\R" ∷ "\\X" ∷ "\\N" ∷ "\\0" ∷ "\\c" ∷ "\\i" ∷ "\\l" ∷ "\\y" ∷ "\\x" ∷ "\\x4" ∷ "\\x4g" ∷ "\\x{}" ∷ "\\x{123456789}" ∷ "\\x{110000}" ∷ "\\x{D800}" ∷ "\\uD800" ∷ "\\u004" ∷ "\\U00000041" ∷ "\\p" ∷ "\\pL" ∷ "\\p{L" ∷ "\\p{l}" ∷ "\\p{Letter}" ∷ "\\p{}" ∷ "\\p{^}" ∷ "\\P{^L}" ∷ "\\p{LC}" ∷ "\\k" ∷ "\\k<n>" ∷ "\\k<1>" ∷ "\\k{n}" ∷ "(?<n>a)\\k<m>" ∷ "\\g<1>" ∷ "\\1" ∷ "(a)\\2" ∷ "\\C" ∷ []) ≡ true
unfolding tree_of whole body passed pass quantified quantifier count loop off_letters flags_at named_group flag_group opening next_char escape one_letter hex_escape hex_fixed category_escape named_set name_in run first char_of class class_rest next_in posix_form class_escape member range_end start_of plain_item posix_item general_category general_category_rows value_in
refused_escapes = refl

-- classes
pub refused_classes : list_all (λ s. is_none (tree_of (codes s)))
    ("[]" ∷ "[^]" ∷ "[^" ∷ "[a-" ∷ "[[a]" ∷ "[\\" ∷ "[z-a]" ∷ "[\\A]" ∷ "[\\B]" ∷ "[\\z]" ∷ "[\\Z]" ∷ "[(a)\\1]" ∷ "[\\k<n>]" ∷ "[[:foo:]]" ∷ "[[:^foo:]]" ∷ "[[:ALPHA:]]" ∷ "[a--]" ∷ "[\\G]" ∷ "[a&&" ∷ "[\\x{41}-\\x{40}]" ∷ []) ≡ true
unfolding tree_of whole body passed pass quantified quantifier count loop off_letters flags_at named_group flag_group opening next_char escape one_letter hex_escape hex_fixed category_escape named_set name_in run first char_of class class_rest next_in posix_form class_escape member range_end start_of plain_item posix_item general_category general_category_rows value_in
refused_classes = refl

-- texts that are patterns
pub read_quantifiers : list_all (λ s. is_some (tree_of (codes s)))
    ("" ∷ "|" ∷ "a|" ∷ "()" ∷ "a{2}?" ∷ "a{,2}" ∷ "a{2,}?" ∷ "a{0}" ∷ "a{0,0}" ∷ "a{1000}" ∷ "a{0002}" ∷ "x{" ∷ "{" ∷ "{{" ∷ "x{a}" ∷ "x{,}" ∷ "x{}" ∷ "x{1,2,3}" ∷ "x{ 1}" ∷ "{*" ∷ "a{" ∷ "a{1" ∷ "a}" ∷ "a]" ∷ "]" ∷ "}" ∷ "(?=a)*" ∷ "(?<!a)?" ∷ "a(?#c)*" ∷ "(?x)a *" ∷ "(?x)a{1, 2}" ∷ "(?#c)" ∷ "(?x) # )" ∷ "(?x)a # c\n*" ∷ []) ≡ true
unfolding tree_of whole body passed pass quantified quantifier count loop off_letters flags_at named_group flag_group opening next_char escape one_letter hex_escape hex_fixed category_escape named_set name_in run first char_of class class_rest next_in posix_form class_escape member range_end start_of plain_item posix_item general_category general_category_rows value_in
read_quantifiers = refl

-- groups
pub read_groups : list_all (λ s. is_some (tree_of (codes s)))
    ("(?i)" ∷ "(?i:a)" ∷ "(?i-x:a)" ∷ "(?imx-imx:a)" ∷ "(?-i)" ∷ "(?-i:a)" ∷ "(?ii)" ∷ "(?P<n>a)" ∷ "(?<_>a)" ∷ "(?<n1>a)\\k<n1>" ∷ "\\k<n>(?<n>a)" ∷ "\\1(a)" ∷ "(a)\\1*" ∷ "(?<=a*)b" ∷ "(?<=(?i)a)b" ∷ "(?#()a" ∷ "(?:a)" ∷ "(?>a)" ∷ []) ≡ true
unfolding tree_of whole body passed pass quantified quantifier count loop off_letters flags_at named_group flag_group opening next_char escape one_letter hex_escape hex_fixed category_escape named_set name_in run first char_of class class_rest next_in posix_form class_escape member range_end start_of plain_item posix_item general_category general_category_rows value_in
read_groups = refl

-- escapes
pub read_escapes : list_all (λ s. is_some (tree_of (codes s)))
    ("\\." ∷ "\\ " ∷ "\\-" ∷ "\\_" ∷ "\\\"" ∷ "\\/" ∷ "\\x41" ∷ "\\x{1F600}" ∷ "\\x{00000041}" ∷ "\\u0041" ∷ "\\p{L}" ∷ "\\p{^L}" ∷ "\\P{L}" ∷ "\\p{Cn}" ∷ "\\w\\W\\d\\D\\s\\S\\h\\H\\A\\z\\Z\\b\\B\\n\\t\\r\\f\\v\\a\\e" ∷ []) ≡ true
unfolding tree_of whole body passed pass quantified quantifier count loop off_letters flags_at named_group flag_group opening next_char escape one_letter hex_escape hex_fixed category_escape named_set name_in run first char_of class class_rest next_in posix_form class_escape member range_end start_of plain_item posix_item general_category general_category_rows value_in
read_escapes = refl

-- classes
pub read_classes : list_all (λ s. is_some (tree_of (codes s)))
    ("[]]" ∷ "[^]]" ∷ "[]a]" ∷ "[^]a]" ∷ "[]-a]" ∷ "[a-]" ∷ "[-a]" ∷ "[-]" ∷ "[--]" ∷ "[---]" ∷ "[--a]" ∷ "[a-\\d]" ∷ "[\\d-a]" ∷ "[a-[b]]" ∷ "[a-c-e]" ∷ "[a-&&b]" ∷ "[&&]" ∷ "[&&a]" ∷ "[a&&]" ∷ "[a&&b&&c]" ∷ "[&]" ∷ "[a&b]" ∷ "[[a]]" ∷ "[[^a]b]" ∷ "[[:alpha:]]" ∷ "[[:^alpha:]]" ∷ "[:alpha:]" ∷ "[[:a]]" ∷ "[a^]" ∷ "[$.*+?(){}|]" ∷ "[\\b]" ∷ "[(?x) #]" ∷ "[\\]]" ∷ "[[]]]" ∷ "[\\x{40}-\\x{41}]" ∷ "[a[:digit:]&&[^5]]" ∷ []) ≡ true
unfolding tree_of whole body passed pass quantified quantifier count loop off_letters flags_at named_group flag_group opening next_char escape one_letter hex_escape hex_fixed category_escape named_set name_in run first char_of class class_rest next_in posix_form class_escape member range_end start_of plain_item posix_item general_category general_category_rows value_in
read_classes = refl

-- a class counts as a level
pub read_depth_classes : list_all (λ s. is_some (tree_of (codes s)))
    ("((((((((((((((((((((((((((((((((((((((((((((((((((((((((((((((((((((((((((((((((((((((((((((((((((((((((((((((((((((((((((((((((((((((((((((((((((((((((((((((((((((((((((((((((((((((((((((((((((((((([a])))))))))))))))))))))))))))))))))))))))))))))))))))))))))))))))))))))))))))))))))))))))))))))))))))))))))))))))))))))))))))))))))))))))))))))))))))))))))))))))))))))))))))))))))))))))))))))))))))))))" ∷ "[[[[[[[[[[[[[[[[[[[[[[[[[[[[[[[[[[[[[[[[[[[[[[[[[[[[[[[[[[[[[[[[[[[[[[[[[[[[[[[[[[[[[[[[[[[[[[[[[[[[[[[[[[[[[[[[[[[[[[[[[[[[[[[[[[[[[[[[[[[[[[[[[[[[[[[[[[[[[[[[[[[[[[[[[[[[[[[[[[[[[[[[[[[[[[[[[[[[[[[[a]]]]]]]]]]]]]]]]]]]]]]]]]]]]]]]]]]]]]]]]]]]]]]]]]]]]]]]]]]]]]]]]]]]]]]]]]]]]]]]]]]]]]]]]]]]]]]]]]]]]]]]]]]]]]]]]]]]]]]]]]]]]]]]]]]]]]]]]]]]]]]]]]]]]]]]]]]]]]]]]]]]]]]]]]]]]]]]]]]]]]]]]]]]]]]]]]]]]]]]]" ∷ []) ≡ true
unfolding tree_of whole body passed pass quantified quantifier count loop off_letters flags_at named_group flag_group opening next_char escape one_letter hex_escape hex_fixed category_escape named_set name_in run first char_of class class_rest next_in posix_form class_escape member range_end start_of plain_item posix_item general_category general_category_rows value_in
read_depth_classes = refl

-- of groups and classes together
pub refused_depth_classes : list_all (λ s. is_none (tree_of (codes s)))
    ("(((((((((((((((((((((((((((((((((((((((((((((((((((((((((((((((((((((((((((((((((((((((((((((((((((((((((((((((((((((((((((((((((((((((((((((((((((((((((((((((((((((((((((((((((((((((((((((((((((((((([a]))))))))))))))))))))))))))))))))))))))))))))))))))))))))))))))))))))))))))))))))))))))))))))))))))))))))))))))))))))))))))))))))))))))))))))))))))))))))))))))))))))))))))))))))))))))))))))))))))))))))" ∷ "[[[[[[[[[[[[[[[[[[[[[[[[[[[[[[[[[[[[[[[[[[[[[[[[[[[[[[[[[[[[[[[[[[[[[[[[[[[[[[[[[[[[[[[[[[[[[[[[[[[[[[[[[[[[[[[[[[[[[[[[[[[[[[[[[[[[[[[[[[[[[[[[[[[[[[[[[[[[[[[[[[[[[[[[[[[[[[[[[[[[[[[[[[[[[[[[[[[[[[[[[a]]]]]]]]]]]]]]]]]]]]]]]]]]]]]]]]]]]]]]]]]]]]]]]]]]]]]]]]]]]]]]]]]]]]]]]]]]]]]]]]]]]]]]]]]]]]]]]]]]]]]]]]]]]]]]]]]]]]]]]]]]]]]]]]]]]]]]]]]]]]]]]]]]]]]]]]]]]]]]]]]]]]]]]]]]]]]]]]]]]]]]]]]]]]]]]]]]]]]]]]]" ∷ []) ≡ true
unfolding tree_of whole body passed pass quantified quantifier count loop off_letters flags_at named_group flag_group opening next_char escape one_letter hex_escape hex_fixed category_escape named_set name_in run first char_of class class_rest next_in posix_form class_escape member range_end start_of plain_item posix_item general_category general_category_rows value_in
refused_depth_classes = refl

-- whether a group stands in a lookaround: of `(?=(a))(b)` the first does, the second doesn't, and
-- there is no third
pub looks : (elim (tree_of (codes "(?=(a))(b)")) as (λ _. List (Option Bool)) [
  | Some tree ↦ group_in_look tree 0 ∷ group_in_look tree 1 ∷ group_in_look tree 2 ∷ group_in_look tree 3 ∷ []
  | None ↦ []
]) ≡ Some false ∷ Some true ∷ Some false ∷ None ∷ []
unfolding tree_of whole body passed pass quantified quantifier count loop off_letters flags_at named_group flag_group opening next_char escape one_letter hex_escape hex_fixed category_escape named_set name_in run first char_of class class_rest next_in posix_form class_escape member range_end start_of plain_item posix_item general_category general_category_rows value_in
looks = refl
