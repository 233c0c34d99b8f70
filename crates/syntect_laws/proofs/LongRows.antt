-- Readings of many turns, computed.
use Rattle.std.specs.Prelude.{◌+◌, [], ◌∷◌, ◌++◌, map, replicate, codes}
use Rattle.std.specs.List.{range_with_len}
use Rattle.unicode.specs.GeneralCategory.{general_category}
use Rattle.ucd_category.specs.GeneralCategoryRows.{general_category_rows}
use Rattle.ucd_case.specs.CaseFolding.{simple_folding}
use Rattle.ucd_case.specs.SimpleFoldingRows.{simple_folding_rows}
use Rattle.ucd_table.specs.Rows.{value_in}
use Rattle.syntect_laws.specs.syntect_pattern.Text.{char_at, char_before, is_boundary}
use Rattle.syntect_laws.specs.syntect_pattern.Sets.{is_word, is_alike, same_fold}
use Rattle.syntect_laws.specs.syntect_pattern.Matches.{found, found_at, is_word_edge}
use Rattle.syntect_laws.specs.syntect_pattern.Reading.{run, first, char_of, name_in, pass}
use Rattle.syntect_laws.specs.syntect_pattern.Escapes.{escape, one_letter, hex_escape, hex_fixed, category_escape, named_set}
use Rattle.syntect_laws.specs.syntect_pattern.Classes.{class, class_rest, next_in, posix_form, class_escape, member, range_end, start_of, plain_item, posix_item}
use Rattle.syntect_laws.specs.syntect_pattern.Grammar.{tree_of, whole, body, passed, quantified, quantifier, count, loop, off_letters, flags_at, named_group, flag_group, opening, next_char}
use Rattle.std.specs.Str.{chars}
use Rattle.syntect_parsing.specs.Line.{turn, Reads, at_start}
use Rattle.syntect_laws.proofs.Run.{sound}
use Rattle.syntect_laws.specs.syntect_reading_choice.Engine.{dialect}
use Rattle.syntect_laws.proofs.LineRows.{grammar, context, pattern, to, t, tops, level, on, at_first}
use Rattle.syntect_laws.specs.syntect_grammar_contexts.declared.context.MatchOperation.TheVariants as op
use Rattle.syntect_laws.specs.syntect_grammar.declared.syntax_set.SyntaxSet.{SyntaxSet}

-- ---- idle sets: a thousand idle turns, then a character is passed over ----

abbrev pub idle : SyntaxSet
idle = grammar (pattern (codes "(?=x)") [] (op.Set (to 3)) ∷ []) (context [] [] (pattern (codes "(?=x)") [] (op.Set (to 2)) ∷ []) ∷ [])

reads_idle : Reads dialect idle (codes "xa") (at_start at_first) (tops (replicate 2 [])) (on (level 0 ∷ level 3 ∷ [])) 1002
unfolding turn tree_of whole body passed pass quantified quantifier count loop off_letters flags_at named_group flag_group opening next_char escape one_letter hex_escape hex_fixed category_escape named_set name_in run first char_of class class_rest next_in posix_form class_escape member range_end start_of plain_item posix_item found found_at char_at char_before is_boundary is_word_edge is_word is_alike same_fold chars general_category general_category_rows value_in simple_folding simple_folding_rows
reads_idle = sound dialect idle (codes "xa") 1002 (at_start at_first)

-- ---- no push at a hundred levels ----

abbrev pub deep : SyntaxSet
deep = grammar (pattern (codes "x") [] (op.Push (to 2)) ∷ []) []

reads_deep : Reads dialect deep (replicate 150 120) (at_start at_first) (map (λ k. replicate (k + 1) t) (range_with_len 0 98) ++ replicate 52 (replicate 99 t)) (on (level 0 ∷ level 1 ∷ replicate 98 (level 2))) 100
unfolding turn tree_of whole body passed pass quantified quantifier count loop off_letters flags_at named_group flag_group opening next_char escape one_letter hex_escape hex_fixed category_escape named_set name_in run first char_of class class_rest next_in posix_form class_escape member range_end start_of plain_item posix_item found found_at char_at char_before is_boundary is_word_edge is_word is_alike same_fold chars general_category general_category_rows value_in simple_folding simple_folding_rows
reads_deep = sound dialect deep (replicate 150 120) 100 (at_start at_first)
