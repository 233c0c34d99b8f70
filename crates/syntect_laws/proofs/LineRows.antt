-- Readings of small grammars, computed.
use Rattle.std.proofs.Common.{ap, ◌≡◌, ℕ, ◌≤◌, true, false, List, [], ◌∷◌, ◌++◌, length, map, take, replicate, Some, None, refl, arith}
use Rattle.std.specs.Prelude.{codes}
use Rattle.unicode.specs.GeneralCategory.{general_category}
use Rattle.ucd_category.specs.GeneralCategoryRows.{general_category_rows}
use Rattle.ucd_case.specs.CaseFolding.{simple_folding}
use Rattle.ucd_case.specs.SimpleFoldingRows.{simple_folding_rows}
use Rattle.ucd_table.specs.Rows.{value_in}
use Rattle.syntect_laws.specs.syntect_pattern.Text.{char_at, char_before, is_boundary}
use Rattle.syntect_laws.specs.syntect_pattern.Sets.{is_word, is_alike, same_fold}
use Rattle.syntect_laws.specs.syntect_pattern.Matches.{found, found_at, is_word_edge}
use Rattle.syntect_laws.specs.syntect_pattern.Reading.{run, first, char_of, name_in, pass}
use Rattle.syntect_laws.specs.syntect_pattern.Escapes.{escape, one_letter, hex_escape, hex_fixed, category_escape, named_set}
use Rattle.syntect_laws.specs.syntect_pattern.Classes.{class, class_rest, next_in, posix_form, class_escape, member, range_end, start_of, plain_item, posix_item}
use Rattle.syntect_laws.specs.syntect_pattern.Grammar.{tree_of, whole, body, passed, quantified, quantifier, count, loop, off_letters, flags_at, named_group, flag_group, opening, next_char}
use Rattle.std.specs.Str.{chars}
use Rattle.syntect_laws.specs.syntect_regex.Escape.{is_special}
use Rattle.syntect_laws.specs.syntect_grammar.Contexts.{context_at}
use Rattle.syntect_laws.specs.syntect_reading_choice.Chain.{patterns_in, patterns_of}
use Rattle.syntect_parsing.specs.Scopes.{Scopes}
use Rattle.syntect_parsing.specs.Line.{turn, Reads, Refuses, at_start, start, Accepted, RefusedBy, accepts, refuses, no_level, in_turn, AnswersAll, none, one_more, stack_before, first_push, HasPlainStart}
use Rattle.syntect_parsing.specs.Visible.{visible, visible_base}
use Rattle.syntect_laws.specs.syntect_scope.declared.stack.ClearAmount.TheVariants.{TopN}
use Rattle.syntect_laws.specs.syntect_scope.declared.stack.ScopeStackOp.TheVariants.{Push, Pop}
use Rattle.syntect_laws.specs.syntect_scope.Stack.{plain as plain_stack}
use Rattle.syntect_laws.specs.syntect_scope.Replay.{replay, before_text, bytes_to}
use Rattle.syntect_laws.proofs.Run.{sound}
use Rattle.syntect_laws.specs.syntect_reading_choice.Engine.{dialect}
use Rattle.syntect_laws.specs.syntect_grammar_contexts.declared.context.ContextId.{ContextId}
use Rattle.syntect_laws.specs.syntect_grammar_contexts.declared.context.ContextReference.{ContextReference}
use Rattle.syntect_laws.specs.syntect_grammar_contexts.declared.context.ContextReference.TheVariants.{Direct, ByScope}
use Rattle.syntect_laws.specs.syntect_grammar_contexts.declared.context.MatchOperation.{MatchOperation}
use Rattle.syntect_laws.specs.syntect_grammar_contexts.declared.context.MatchOperation.TheVariants as op
use Rattle.syntect_laws.specs.syntect_grammar_contexts.declared.context.MatchPattern.{MatchPattern}
use Rattle.syntect_laws.specs.syntect_grammar_contexts.declared.context.Pattern.{Pattern}
use Rattle.syntect_laws.specs.syntect_grammar_contexts.declared.context.Pattern.TheVariants.{Match, Include}
use Rattle.syntect_laws.specs.syntect_grammar_contexts.declared.context.Context.{Context}
use Rattle.syntect_laws.specs.syntect_grammar.declared.syntax_set.SyntaxSet.{SyntaxSet}
use Rattle.syntect_parsing.specs.Stacks.{onto}
use Rattle.syntect_laws.specs.syntect_scope.Stack.{plain as bare}
use Rattle.syntect_laws.specs.syntect_reading_choice.declared.level.Level.{Level}
use Rattle.syntect_parsing.specs.declared.parser.Standing.{Standing}
use Rattle.syntect_laws.specs.syntect_grammar_contexts.declared.error.ParsingError.TheVariants as error

-- patterns by their texts
abbrev pub word : List ℕ
word = 92 ∷ codes "w+"

abbrev pub heredoc : List ℕ
heredoc = codes "<<(" ++ 92 ∷ codes "w+)"

abbrev pub same_word : List ℕ
same_word = codes "^" ++ 92 ∷ codes "1$"

-- ---- making grammars ----

abbrev pub id : ℕ → ContextId
id n = record { syntax_index = 0; context_index = n }

abbrev pub to : ℕ → List ContextReference
to n = Direct (id n) ∷ []

-- a pattern that pushes, pops or does nothing
abbrev pub plain : List ℕ → Scopes → MatchOperation → MatchPattern
plain text scope operation = record { has_captures = false; regex = text; scope = scope; captures = None; operation = operation; with_prototype = None }

abbrev pub pattern : List ℕ → Scopes → MatchOperation → Pattern
pattern text scope operation = Match (plain text scope operation)

abbrev pub captured : List ℕ → List (ℕ × Scopes) → Pattern
captured text captures = Match (record { has_captures = false; regex = text; scope = []; captures = Some captures; operation = op.None; with_prototype = None })

abbrev pub context : Scopes → Scopes → List Pattern → Context
context meta content patterns =
    record { meta_scope = meta; meta_content_scope = content; meta_include_prototype = true; clear_scopes = None; prototype = None; uses_backrefs = false; patterns = patterns }

-- a scope of one atom
abbrev pub s : ℕ → List ℕ
s n = n ∷ []

-- the top scope
abbrev pub t : List ℕ
t = s 1

-- the set of one syntax that has these contexts
abbrev pub set_of : List Context → SyntaxSet
set_of contexts = record {
  syntaxes = record {
    name = [];
    file_extensions = [];
    scope = t;
    first_line_match = None;
    hidden = false;
    variables = [];
    index = 0;
    names = [];
    first_line = None;
    contexts = contexts;
  } ∷ [];
  path_syntaxes = [];
  metadata = record { scoped_metadata = [] };
}

-- `__start` is 0, `__main` is 1, `main` is 2, and then the others
abbrev pub grammar : List Pattern → List Context → SyntaxSet
grammar main others = set_of (
    context [] (t ∷ []) (pattern [] [] (op.Push (to 1)) ∷ [])
    ∷ context [] [] (Include (Direct (id 2)) ∷ [])
    ∷ context [] (t ∷ []) main
    ∷ others)

abbrev pub level : ℕ → Level
level n = record { context = id n; prototypes = []; opening = None }

abbrev pub on : List Level → Standing
on levels = record { levels = levels; cuts = []; first_line = false }

-- bytes that all have the top scope, and these
abbrev pub tops : List Scopes → List Scopes
tops bytes = map (λ b. t ∷ b) bytes

abbrev pub at_first : Standing
at_first = start (id 0)

-- ---- a push, a pop, and words ----

abbrev pub words : SyntaxSet
words = grammar
    (pattern (codes "A") (s 2 ∷ []) (op.Push (to 3)) ∷ pattern (codes "b") (s 3 ∷ []) op.None ∷ pattern word (s 4 ∷ []) op.None ∷ [])
    (context [] [] (pattern (codes "a+") (s 5 ∷ []) op.None ∷ pattern (codes "(?=.)") [] op.Pop ∷ []) ∷ [])

abbrev pub word_bytes : List Scopes
word_bytes = tops ([] ∷ (s 2 ∷ []) ∷ (s 5 ∷ []) ∷ (s 5 ∷ []) ∷ (s 5 ∷ []) ∷ (s 3 ∷ []) ∷ (s 4 ∷ []) ∷ (s 4 ∷ []) ∷ (s 4 ∷ []) ∷ [])

reads_words : Reads dialect words (codes " Aaaabxxx") (at_start at_first) word_bytes (on (level 0 ∷ level 1 ∷ [])) 7
unfolding turn tree_of whole body passed pass quantified quantifier count loop off_letters flags_at named_group flag_group opening next_char escape one_letter hex_escape hex_fixed category_escape named_set name_in run first char_of class class_rest next_in posix_form class_escape member range_end start_of plain_item posix_item found found_at char_at char_before is_boundary is_word_edge is_word is_alike same_fold chars general_category general_category_rows value_in simple_folding simple_folding_rows
reads_words = sound dialect words (codes " Aaaabxxx") 20 (at_start at_first)

reads_words_again : Reads dialect words (codes " Aaaabxxx") (at_start (on (level 0 ∷ level 1 ∷ []))) word_bytes (on (level 0 ∷ level 1 ∷ [])) 6
unfolding turn tree_of whole body passed pass quantified quantifier count loop off_letters flags_at named_group flag_group opening next_char escape one_letter hex_escape hex_fixed category_escape named_set name_in run first char_of class class_rest next_in posix_form class_escape member range_end start_of plain_item posix_item found found_at char_at char_before is_boundary is_word_edge is_word is_alike same_fold chars general_category general_category_rows value_in simple_folding simple_folding_rows
reads_words_again = sound dialect words (codes " Aaaabxxx") 20 (at_start (on (level 0 ∷ level 1 ∷ [])))

-- ---- an empty pop that would undo an empty push ----

abbrev pub hello : SyntaxSet
hello = grammar (pattern (codes "(?=.)") [] (op.Push (to 3)) ∷ [])
    (context [] [] (pattern word (s 2 ∷ []) op.None ∷ pattern (codes "(?=.)") [] op.Pop ∷ []) ∷ [])

reads_hello : Reads dialect hello (codes " hello") (at_start at_first) (tops ([] ∷ replicate 5 (s 2 ∷ []))) (on (level 0 ∷ level 1 ∷ level 3 ∷ [])) 5
unfolding turn tree_of whole body passed pass quantified quantifier count loop off_letters flags_at named_group flag_group opening next_char escape one_letter hex_escape hex_fixed category_escape named_set name_in run first char_of class class_rest next_in posix_form class_escape member range_end start_of plain_item posix_item found found_at char_at char_before is_boundary is_word_edge is_word is_alike same_fold chars general_category general_category_rows value_in simple_folding simple_folding_rows
reads_hello = sound dialect hello (codes " hello") 20 (at_start at_first)

-- ---- captures ----

abbrev pub one_pattern : Pattern → SyntaxSet
one_pattern p = grammar (p ∷ []) []

abbrev pub bob : SyntaxSet
bob = one_pattern (captured (codes "((bob)|(hi))*") ((1, s 2 ∷ []) ∷ (2, s 3 ∷ []) ∷ (3, s 4 ∷ []) ∷ []))

reads_bob : Reads dialect bob (codes "hibob") (at_start at_first) (tops (replicate 2 (s 4 ∷ []) ++ replicate 3 (s 2 ∷ s 3 ∷ []))) (on (level 0 ∷ level 1 ∷ [])) 3
unfolding turn tree_of whole body passed pass quantified quantifier count loop off_letters flags_at named_group flag_group opening next_char escape one_letter hex_escape hex_fixed category_escape named_set name_in run first char_of class class_rest next_in posix_form class_escape member range_end start_of plain_item posix_item found found_at char_at char_before is_boundary is_word_edge is_word is_alike same_fold chars general_category general_category_rows value_in simple_folding simple_folding_rows
reads_bob = sound dialect bob (codes "hibob") 20 (at_start at_first)

-- longer ones first
abbrev pub nested : SyntaxSet
nested = one_pattern (captured (codes "((a)(b))") ((2, s 3 ∷ []) ∷ (1, s 2 ∷ []) ∷ (3, s 4 ∷ []) ∷ []))

reads_nested : Reads dialect nested (codes "ab") (at_start at_first) (tops ((s 2 ∷ s 3 ∷ []) ∷ (s 2 ∷ s 4 ∷ []) ∷ [])) (on (level 0 ∷ level 1 ∷ [])) 3
unfolding turn tree_of whole body passed pass quantified quantifier count loop off_letters flags_at named_group flag_group opening next_char escape one_letter hex_escape hex_fixed category_escape named_set name_in run first char_of class class_rest next_in posix_form class_escape member range_end start_of plain_item posix_item found found_at char_at char_before is_boundary is_word_edge is_word is_alike same_fold chars general_category general_category_rows value_in simple_folding simple_folding_rows
reads_nested = sound dialect nested (codes "ab") 20 (at_start at_first)

-- equal spans in the order of the list
abbrev pub equal_spans : SyntaxSet
equal_spans = one_pattern (captured (codes "((a))") ((2, s 3 ∷ []) ∷ (1, s 2 ∷ []) ∷ []))

reads_equal_spans : Reads dialect equal_spans (codes "a") (at_start at_first) (tops ((s 3 ∷ s 2 ∷ []) ∷ [])) (on (level 0 ∷ level 1 ∷ [])) 3
unfolding turn tree_of whole body passed pass quantified quantifier count loop off_letters flags_at named_group flag_group opening next_char escape one_letter hex_escape hex_fixed category_escape named_set name_in run first char_of class class_rest next_in posix_form class_escape member range_end start_of plain_item posix_item found found_at char_at char_before is_boundary is_word_edge is_word is_alike same_fold chars general_category general_category_rows value_in simple_folding simple_folding_rows
reads_equal_spans = sound dialect equal_spans (codes "a") 20 (at_start at_first)

-- a lookaround's group has no effect
abbrev pub ahead : SyntaxSet
ahead = one_pattern (captured (codes "(?=(a))a(b)") ((1, s 2 ∷ []) ∷ (2, s 3 ∷ []) ∷ []))

reads_ahead : Reads dialect ahead (codes "ab") (at_start at_first) (tops ([] ∷ (s 3 ∷ []) ∷ [])) (on (level 0 ∷ level 1 ∷ [])) 3
unfolding turn tree_of whole body passed pass quantified quantifier count loop off_letters flags_at named_group flag_group opening next_char escape one_letter hex_escape hex_fixed category_escape named_set name_in run first char_of class class_rest next_in posix_form class_escape member range_end start_of plain_item posix_item found found_at char_at char_before is_boundary is_word_edge is_word is_alike same_fold chars general_category general_category_rows value_in simple_folding simple_folding_rows
reads_ahead = sound dialect ahead (codes "ab") 20 (at_start at_first)

-- ---- back references into the opening match ----

abbrev pub doc : SyntaxSet
doc = grammar (pattern heredoc [] (op.Push (to 3)) ∷ [])
    (record (context (s 2 ∷ []) [] (Match (record (plain same_word [] op.Pop) { has_captures = true }) ∷ [])) { uses_backrefs = true } ∷ [])

abbrev pub newline : List ℕ
newline = 10 ∷ []

abbrev pub in_doc : Standing
in_doc = on (level 0 ∷ level 1 ∷ record (level 3) { opening = Some (record { region = Some (0, 5) ∷ Some (2, 5) ∷ []; line = codes "<<EOT" ++ newline }) } ∷ [])

reads_open : Reads dialect doc (codes "<<EOT" ++ newline) (at_start at_first) (tops (replicate 6 (s 2 ∷ []))) in_doc 3
unfolding turn tree_of whole body passed pass quantified quantifier count loop off_letters flags_at named_group flag_group opening next_char escape one_letter hex_escape hex_fixed category_escape named_set name_in run first char_of class class_rest next_in posix_form class_escape member range_end start_of plain_item posix_item found found_at char_at char_before is_boundary is_word_edge is_word is_alike same_fold chars general_category general_category_rows value_in simple_folding simple_folding_rows lib.Utf8.encode is_special
reads_open = sound dialect doc (codes "<<EOT" ++ newline) 20 (at_start at_first)

reads_inside : Reads dialect doc (codes "x" ++ newline) (at_start in_doc) (tops (replicate 2 (s 2 ∷ []))) in_doc 1
unfolding turn tree_of whole body passed pass quantified quantifier count loop off_letters flags_at named_group flag_group opening next_char escape one_letter hex_escape hex_fixed category_escape named_set name_in run first char_of class class_rest next_in posix_form class_escape member range_end start_of plain_item posix_item found found_at char_at char_before is_boundary is_word_edge is_word is_alike same_fold chars general_category general_category_rows value_in simple_folding simple_folding_rows lib.Utf8.encode is_special
reads_inside = sound dialect doc (codes "x" ++ newline) 20 (at_start in_doc)

reads_close : Reads dialect doc (codes "EOT" ++ newline) (at_start in_doc) (tops (replicate 3 (s 2 ∷ []) ++ replicate 1 [])) (on (level 0 ∷ level 1 ∷ [])) 2
unfolding turn tree_of whole body passed pass quantified quantifier count loop off_letters flags_at named_group flag_group opening next_char escape one_letter hex_escape hex_fixed category_escape named_set name_in run first char_of class class_rest next_in posix_form class_escape member range_end start_of plain_item posix_item found found_at char_at char_before is_boundary is_word_edge is_word is_alike same_fold chars general_category general_category_rows value_in simple_folding simple_folding_rows lib.Utf8.encode is_special
reads_close = sound dialect doc (codes "EOT" ++ newline) 20 (at_start in_doc)

-- ---- references that have no target ----

abbrev pub nowhere : ContextReference
nowhere = ByScope (s 9) None false

abbrev pub unlinked : SyntaxSet
unlinked = grammar (pattern (codes "x") [] (op.Push (nowhere ∷ [])) ∷ []) []

refuses_unlinked : Refuses dialect unlinked (codes "ax") (at_start at_first) (error.UnresolvedContextReference nowhere) 2
unfolding turn tree_of whole body passed pass quantified quantifier count loop off_letters flags_at named_group flag_group opening next_char escape one_letter hex_escape hex_fixed category_escape named_set name_in run first char_of class class_rest next_in posix_form class_escape member range_end start_of plain_item posix_item found found_at char_at char_before is_boundary is_word_edge is_word is_alike same_fold chars general_category general_category_rows value_in simple_folding simple_folding_rows
refuses_unlinked = sound dialect unlinked (codes "ax") 20 (at_start at_first)

reads_unlinked : Reads dialect unlinked (codes "ay") (at_start at_first) (tops (replicate 2 [])) (on (level 0 ∷ level 1 ∷ [])) 2
unfolding turn tree_of whole body passed pass quantified quantifier count loop off_letters flags_at named_group flag_group opening next_char escape one_letter hex_escape hex_fixed category_escape named_set name_in run first char_of class class_rest next_in posix_form class_escape member range_end start_of plain_item posix_item found found_at char_at char_before is_boundary is_word_edge is_word is_alike same_fold chars general_category general_category_rows value_in simple_folding simple_folding_rows
reads_unlinked = sound dialect unlinked (codes "ay") 20 (at_start at_first)

-- all references are looked at before a context that the set lacks
abbrev pub lacking : SyntaxSet
lacking = grammar (pattern (codes "x") [] (op.Push (Direct (id 9) ∷ nowhere ∷ [])) ∷ pattern (codes "y") [] (op.Push (to 2 ++ to 9)) ∷ []) []

refuses_unresolved : Refuses dialect lacking (codes "x") (at_start at_first) (error.UnresolvedContextReference nowhere) 2
unfolding turn tree_of whole body passed pass quantified quantifier count loop off_letters flags_at named_group flag_group opening next_char escape one_letter hex_escape hex_fixed category_escape named_set name_in run first char_of class class_rest next_in posix_form class_escape member range_end start_of plain_item posix_item found found_at char_at char_before is_boundary is_word_edge is_word is_alike same_fold chars general_category general_category_rows value_in simple_folding simple_folding_rows
refuses_unresolved = sound dialect lacking (codes "x") 20 (at_start at_first)

refuses_lacking : Refuses dialect lacking (codes "y") (at_start at_first) (error.MissingContext (id 9)) 2
unfolding turn tree_of whole body passed pass quantified quantifier count loop off_letters flags_at named_group flag_group opening next_char escape one_letter hex_escape hex_fixed category_escape named_set name_in run first char_of class class_rest next_in posix_form class_escape member range_end start_of plain_item posix_item found found_at char_at char_before is_boundary is_word_edge is_word is_alike same_fold chars general_category general_category_rows value_in simple_folding simple_folding_rows
refuses_lacking = sound dialect lacking (codes "y") 20 (at_start at_first)

-- ---- cuts ----

-- a pattern that pushes with a `with_prototype`
abbrev pub with_prototype : List ℕ → List ContextReference → ContextReference → Pattern
with_prototype text refs p = Match (record (plain text [] (op.Push refs)) { with_prototype = Some p })

abbrev pub cuts : SyntaxSet
cuts = grammar (with_prototype (codes "x") (to 3) (Direct (id 5)) ∷ [])
    (context [] [] (pattern (codes "y") [] (op.Push (to 4)) ∷ []) ∷ context [] [] [] ∷ context [] [] (pattern (codes "p") (s 2 ∷ []) op.None ∷ []) ∷ [])

abbrev pub in_p : ℕ → Level
in_p n = record (level n) { prototypes = id 5 ∷ [] }

-- a cut that was dropped has no effect at a greater height
reads_cuts : Reads dialect cuts (codes "xpyp") (at_start at_first) (tops ([] ∷ (s 2 ∷ []) ∷ [] ∷ (s 2 ∷ []) ∷ [])) (on (level 0 ∷ level 1 ∷ in_p 3 ∷ level 4 ∷ [])) 6
unfolding turn tree_of whole body passed pass quantified quantifier count loop off_letters flags_at named_group flag_group opening next_char escape one_letter hex_escape hex_fixed category_escape named_set name_in run first char_of class class_rest next_in posix_form class_escape member range_end start_of plain_item posix_item found found_at char_at char_before is_boundary is_word_edge is_word is_alike same_fold chars general_category general_category_rows value_in simple_folding simple_folding_rows
reads_cuts = sound dialect cuts (codes "xpyp") 20 (at_start at_first)

-- a context that a `with_prototype`'s match pushes doesn't see the prototypes below it
abbrev pub hides : SyntaxSet
hides = grammar (with_prototype (codes "x") (to 3) (Direct (id 4)) ∷ [])
    (context [] [] [] ∷ context [] [] (pattern (codes "p") (s 2 ∷ []) (op.Push (to 3)) ∷ []) ∷ [])

reads_hides : Reads dialect hides (codes "xpp") (at_start at_first) (tops ([] ∷ (s 2 ∷ []) ∷ [] ∷ []))
    (record (on (level 0 ∷ level 1 ∷ record (level 3) { prototypes = id 4 ∷ [] } ∷ level 3 ∷ [])) { cuts = 3 ∷ [] }) 4
unfolding turn tree_of whole body passed pass quantified quantifier count loop off_letters flags_at named_group flag_group opening next_char escape one_letter hex_escape hex_fixed category_escape named_set name_in run first char_of class class_rest next_in posix_form class_escape member range_end start_of plain_item posix_item found found_at char_at char_before is_boundary is_word_edge is_word is_alike same_fold chars general_category general_category_rows value_in simple_folding simple_folding_rows
reads_hides = sound dialect hides (codes "xpp") 20 (at_start at_first)

-- a set keeps the left level's prototypes on the first new level, its own `with_prototype` is for
-- the last
abbrev pub sets : SyntaxSet
sets = grammar (with_prototype (codes "x") (to 3) (Direct (id 5)) ∷ [])
    (context [] [] (Match (record (plain (codes "y") [] (op.Set (to 4 ++ to 4))) { with_prototype = Some (Direct (id 6)) }) ∷ [])
    ∷ context [] [] [] ∷ context [] [] (pattern (codes "p") (s 2 ∷ []) op.None ∷ []) ∷ context [] [] (pattern (codes "q") (s 3 ∷ []) op.None ∷ []) ∷ [])

reads_sets : Reads dialect sets (codes "xypq") (at_start at_first) (tops ([] ∷ [] ∷ (s 2 ∷ []) ∷ (s 3 ∷ []) ∷ []))
    (on (level 0 ∷ level 1 ∷ in_p 4 ∷ record (level 4) { prototypes = id 6 ∷ [] } ∷ [])) 6
unfolding turn tree_of whole body passed pass quantified quantifier count loop off_letters flags_at named_group flag_group opening next_char escape one_letter hex_escape hex_fixed category_escape named_set name_in run first char_of class class_rest next_in posix_form class_escape member range_end start_of plain_item posix_item found found_at char_at char_before is_boundary is_word_edge is_word is_alike same_fold chars general_category general_category_rows value_in simple_folding simple_folding_rows
reads_sets = sound dialect sets (codes "xypq") 20 (at_start at_first)

-- ---- an embedded grammar with its escape ----

-- 3 is the escape context, 4 the prototype that ends the embedded one, 5 what is embedded
abbrev pub embeds : ContextReference → SyntaxSet
embeds r = grammar (with_prototype (codes "x") (to 3 ++ r ∷ []) (Direct (id 4)) ∷ [])
    (context [] [] (pattern (codes "y") [] op.Pop ∷ []) ∷ context [] [] (pattern (codes "(?=y)") [] op.Pop ∷ []) ∷ context [] (s 2 ∷ []) [] ∷ [])

reads_embed : Reads dialect (embeds (Direct (id 5))) (codes "xay") (at_start at_first) (tops ([] ∷ (s 2 ∷ []) ∷ [] ∷ [])) (on (level 0 ∷ level 1 ∷ [])) 5
unfolding turn tree_of whole body passed pass quantified quantifier count loop off_letters flags_at named_group flag_group opening next_char escape one_letter hex_escape hex_fixed category_escape named_set name_in run first char_of class class_rest next_in posix_form class_escape member range_end start_of plain_item posix_item found found_at char_at char_before is_boundary is_word_edge is_word is_alike same_fold chars general_category general_category_rows value_in simple_folding simple_folding_rows
reads_embed = sound dialect (embeds (Direct (id 5))) (codes "xay") 20 (at_start at_first)

refuses_embed : Refuses dialect (embeds (ByScope (s 9) None true)) (codes "xay") (at_start at_first) (error.UnresolvedContextReference (ByScope (s 9) None true)) 2
unfolding turn tree_of whole body passed pass quantified quantifier count loop off_letters flags_at named_group flag_group opening next_char escape one_letter hex_escape hex_fixed category_escape named_set name_in run first char_of class class_rest next_in posix_form class_escape member range_end start_of plain_item posix_item found found_at char_at char_before is_boundary is_word_edge is_word is_alike same_fold chars general_category general_category_rows value_in simple_folding simple_folding_rows
refuses_embed = sound dialect (embeds (ByScope (s 9) None true)) (codes "xay") 20 (at_start at_first)

-- ---- meta scopes on the matched text ----

-- `(` pushes 3, `)` pops it, `;` sets 4 in its place
abbrev pub metas : SyntaxSet
metas = grammar (pattern (92 ∷ codes "(") (s 6 ∷ []) (op.Push (to 3)) ∷ [])
    (context (s 2 ∷ []) (s 3 ∷ []) (pattern (92 ∷ codes ")") (s 7 ∷ []) op.Pop ∷ pattern (codes ";") (s 8 ∷ []) (op.Set (to 4)) ∷ [])
    ∷ context (s 4 ∷ []) (s 5 ∷ []) [] ∷ [])

reads_metas : Reads dialect metas (codes "(a)") (at_start at_first) (tops ((s 2 ∷ s 6 ∷ []) ∷ (s 2 ∷ s 3 ∷ []) ∷ (s 2 ∷ s 7 ∷ []) ∷ [])) (on (level 0 ∷ level 1 ∷ [])) 4
unfolding turn tree_of whole body passed pass quantified quantifier count loop off_letters flags_at named_group flag_group opening next_char escape one_letter hex_escape hex_fixed category_escape named_set name_in run first char_of class class_rest next_in posix_form class_escape member range_end start_of plain_item posix_item found found_at char_at char_before is_boundary is_word_edge is_word is_alike same_fold chars general_category general_category_rows value_in simple_folding simple_folding_rows
reads_metas = sound dialect metas (codes "(a)") 20 (at_start at_first)

reads_set_metas : Reads dialect metas (codes "(;a") (at_start at_first) (tops ((s 2 ∷ s 6 ∷ []) ∷ (s 2 ∷ s 3 ∷ s 4 ∷ s 8 ∷ []) ∷ (s 4 ∷ s 5 ∷ []) ∷ [])) (on (level 0 ∷ level 1 ∷ level 4 ∷ [])) 4
unfolding turn tree_of whole body passed pass quantified quantifier count loop off_letters flags_at named_group flag_group opening next_char escape one_letter hex_escape hex_fixed category_escape named_set name_in run first char_of class class_rest next_in posix_form class_escape member range_end start_of plain_item posix_item found found_at char_at char_before is_boundary is_word_edge is_word is_alike same_fold chars general_category general_category_rows value_in simple_folding simple_folding_rows
reads_set_metas = sound dialect metas (codes "(;a") 20 (at_start at_first)

-- ---- a syntax whose `__start` holds its own patterns ----

abbrev pub own : SyntaxSet
own = set_of (
    context [] (t ∷ []) (pattern (codes "A") (s 2 ∷ []) (op.Push (to 1)) ∷ pattern (codes "[a-z]+") (s 4 ∷ []) op.None ∷ [])
    ∷ context [] [] (pattern (codes "a+") (s 5 ∷ []) op.None ∷ pattern (codes "b") (s 3 ∷ []) op.Pop ∷ []) ∷ [])

reads_own : Reads dialect own (codes " Aaaabxxx") (at_start at_first) word_bytes (on (level 0 ∷ [])) 5
unfolding turn tree_of whole body passed pass quantified quantifier count loop off_letters flags_at named_group flag_group opening next_char escape one_letter hex_escape hex_fixed category_escape named_set name_in run first char_of class class_rest next_in posix_form class_escape member range_end start_of plain_item posix_item found found_at char_at char_before is_boundary is_word_edge is_word is_alike same_fold chars general_category general_category_rows value_in simple_folding simple_folding_rows
reads_own = sound dialect own (codes " Aaaabxxx") 20 (at_start at_first)

-- ---- no levels ----

abbrev pub leaves : SyntaxSet
leaves = set_of (context (s 2 ∷ []) (t ∷ []) (pattern (codes "x") (s 3 ∷ []) op.Pop ∷ []) ∷ [])

-- a turn on no levels ends the line
reads_emptied : Reads dialect leaves (codes "axa") (at_start at_first) ((s 2 ∷ t ∷ []) ∷ (s 2 ∷ s 3 ∷ []) ∷ [] ∷ []) (on []) 2
unfolding turn tree_of whole body passed pass quantified quantifier count loop off_letters flags_at named_group flag_group opening next_char escape one_letter hex_escape hex_fixed category_escape named_set name_in run first char_of class class_rest next_in posix_form class_escape member range_end start_of plain_item posix_item found found_at char_at char_before is_boundary is_word_edge is_word is_alike same_fold chars general_category general_category_rows value_in simple_folding simple_folding_rows
reads_emptied = sound dialect leaves (codes "axa") 20 (at_start at_first)

-- and the next line is refused
answers_emptied : AnswersAll dialect leaves (codes "axa" ∷ codes "a" ∷ []) at_first (Accepted ((s 2 ∷ t ∷ []) ∷ (s 2 ∷ s 3 ∷ []) ∷ [] ∷ []) ∷ RefusedBy error.MissingMainContext ∷ []) (on [])
answers_emptied = one_more (accepts (record { on_levels = λ e. some_level e; reads = reads_emptied })) (one_more (refuses (no_level refl)) none)
  where
    some_level : at_first.levels ≡ [] → ⊥
    some_level e = cc

-- ---- lines one after the other ----

answers_unlinked : AnswersAll dialect unlinked (codes "ax" ∷ codes "ay" ∷ []) at_first (RefusedBy (error.UnresolvedContextReference nowhere) ∷ Accepted (tops (replicate 2 [])) ∷ []) (on (level 0 ∷ level 1 ∷ []))
answers_unlinked = one_more (refuses (in_turn some_level refuses_unlinked)) (one_more (accepts (record { on_levels = some_level; reads = reads_unlinked })) none)
  where
    some_level : at_first.levels ≡ [] → ⊥
    some_level e = cc

answers_doc : AnswersAll dialect doc ((codes "<<EOT" ++ newline) ∷ (codes "x" ++ newline) ∷ (codes "EOT" ++ newline) ∷ []) at_first
    (Accepted (tops (replicate 6 (s 2 ∷ []))) ∷ Accepted (tops (replicate 2 (s 2 ∷ []))) ∷ Accepted (tops (replicate 3 (s 2 ∷ []) ++ replicate 1 [])) ∷ []) (on (level 0 ∷ level 1 ∷ []))
answers_doc =
    one_more (accepts (record { on_levels = some_level; reads = reads_open }))
    (one_more (accepts (record { on_levels = in_level; reads = reads_inside }))
    (one_more (accepts (record { on_levels = in_level; reads = reads_close })) none))
  where
    some_level : at_first.levels ≡ [] → ⊥
    some_level e = cc

    in_level : in_doc.levels ≡ [] → ⊥
    in_level e = cc

-- ---- the stack before a first line ----

-- A `__start` with two content scopes: only the first is pushed, but both are open.
abbrev pub two : SyntaxSet
two = set_of (context [] (t ∷ s 2 ∷ []) [] ∷ [])

pushed_of_two : onto (stack_before two at_first) (first_push two at_first) ≡ bare (t ∷ [])
pushed_of_two = refl

visible_of_two : visible two at_first.levels ≡ t ∷ s 2 ∷ []
visible_of_two = refl

-- with at most one content scope, no `meta_scope` and nothing cleared the open scopes are pushed
plain_start : (set : SyntaxSet) (id : ContextId) (c : Context) → context_at set id ≡ Some c → c.meta_scope ≡ [] → length c.meta_content_scope ≤ 1 → c.clear_scopes ≡ None → HasPlainStart set (start id)
plain_start set id c e m l k = rw e (rw (m, k) (ap (λ (xs : Scopes). bare xs) (all_of_it c.meta_content_scope l)))
  where
    all_of_it : (xs : Scopes) → length xs ≤ 1 → take 1 xs ≡ xs
    all_of_it [] l = refl
    all_of_it (x ∷ []) l = refl
    all_of_it (x ∷ y ∷ xs) l = absurd (omega arith)

-- ---- includes ----

-- A context that includes itself: one that the set doesn't hold is followed once, and is then on
-- its own include path,
abbrev pub around : Context
around = context [] [] (pattern (codes "x") [] op.None ∷ Include (Direct (id 0)) ∷ Include (Direct (id 9)) ∷ Include nowhere ∷ [])

walked_around : patterns_in (set_of (around ∷ [])) around.patterns ≡ plain (codes "x") [] op.None ∷ plain (codes "x") [] op.None ∷ []
walked_around = refl

-- where the set holds it, it stands on its include path from the first on
walked_at : patterns_of (set_of (around ∷ [])) (id 0) ≡ plain (codes "x") [] op.None ∷ []
walked_at = refl

-- ---- the order of the chain ----

-- the prototypes of levels come first, then the top context's own, then its patterns
abbrev pub order : SyntaxSet
order = grammar (with_prototype (codes "a") (to 3) (Direct (id 4)) ∷ [])
    (record (context [] [] (pattern (codes "x") (s 4 ∷ []) op.None ∷ pattern (codes "y") (s 4 ∷ []) op.None ∷ pattern (codes "z") (s 4 ∷ []) op.None ∷ [])) { prototype = Some (id 5) }
    ∷ context [] [] (pattern (codes "x") (s 2 ∷ []) op.None ∷ [])
    ∷ context [] [] (pattern (codes "x") (s 3 ∷ []) op.None ∷ pattern (codes "y") (s 3 ∷ []) op.None ∷ []) ∷ [])

reads_order : Reads dialect order (codes "axyz") (at_start at_first) (tops ([] ∷ (s 2 ∷ []) ∷ (s 3 ∷ []) ∷ (s 4 ∷ []) ∷ []))
    (on (level 0 ∷ level 1 ∷ record (level 3) { prototypes = id 4 ∷ [] } ∷ [])) 6
unfolding turn tree_of whole body passed pass quantified quantifier count loop off_letters flags_at named_group flag_group opening next_char escape one_letter hex_escape hex_fixed category_escape named_set name_in run first char_of class class_rest next_in posix_form class_escape member range_end start_of plain_item posix_item found found_at char_at char_before is_boundary is_word_edge is_word is_alike same_fold chars general_category general_category_rows value_in simple_folding simple_folding_rows
reads_order = sound dialect order (codes "axyz") 20 (at_start at_first)

-- ---- edges ----

-- at most one character is left where all loop
reads_last : Reads dialect hello (codes " ") (at_start at_first) (tops ([] ∷ [])) (on (level 0 ∷ level 1 ∷ level 3 ∷ [])) 3
unfolding turn tree_of whole body passed pass quantified quantifier count loop off_letters flags_at named_group flag_group opening next_char escape one_letter hex_escape hex_fixed category_escape named_set name_in run first char_of class class_rest next_in posix_form class_escape member range_end start_of plain_item posix_item found found_at char_at char_before is_boundary is_word_edge is_word is_alike same_fold chars general_category general_category_rows value_in simple_folding simple_folding_rows
reads_last = sound dialect hello (codes " ") 20 (at_start at_first)

-- a character of two bytes is passed over
abbrev pub hello_small : SyntaxSet
hello_small = grammar (pattern (codes "(?=.)") [] (op.Push (to 3)) ∷ [])
    (context [] [] (pattern (codes "[a-z]+") (s 2 ∷ []) op.None ∷ pattern (codes "(?=.)") [] op.Pop ∷ []) ∷ [])

reads_wide : Reads dialect hello_small (195 ∷ 169 ∷ codes "a") (at_start at_first) (tops ([] ∷ [] ∷ (s 2 ∷ []) ∷ [])) (on (level 0 ∷ level 1 ∷ level 3 ∷ [])) 5
unfolding turn tree_of whole body passed pass quantified quantifier count loop off_letters flags_at named_group flag_group opening next_char escape one_letter hex_escape hex_fixed category_escape named_set name_in run first char_of class class_rest next_in posix_form class_escape member range_end start_of plain_item posix_item found found_at char_at char_before is_boundary is_word_edge is_word is_alike same_fold chars general_category general_category_rows value_in simple_folding simple_folding_rows
reads_wide = sound dialect hello_small (195 ∷ 169 ∷ codes "a") 20 (at_start at_first)

-- a prototype that the set lacks refuses the line, though nothing would match
abbrev pub no_prototype : SyntaxSet
no_prototype = set_of (record (context [] (t ∷ []) []) { prototype = Some (id 9) } ∷ [])

refuses_no_prototype : Refuses dialect no_prototype (codes "a") (at_start at_first) (error.MissingContext (id 9)) 1
unfolding turn tree_of whole body passed pass quantified quantifier count loop off_letters flags_at named_group flag_group opening next_char escape one_letter hex_escape hex_fixed category_escape named_set name_in run first char_of class class_rest next_in posix_form class_escape member range_end start_of plain_item posix_item found found_at char_at char_before is_boundary is_word_edge is_word is_alike same_fold chars general_category general_category_rows value_in simple_folding simple_folding_rows
refuses_no_prototype = sound dialect no_prototype (codes "a") 20 (at_start at_first)

-- a match that names no contexts is not refused for its `with_prototype`,
-- a push of an empty list is
abbrev pub empty_list : MatchOperation → SyntaxSet
empty_list operation = one_pattern (Match (record (plain (codes "x") [] operation) { with_prototype = Some nowhere }))

refuses_empty_list : Refuses dialect (empty_list (op.Push [])) (codes "x") (at_start at_first) (error.UnresolvedContextReference nowhere) 2
unfolding turn tree_of whole body passed pass quantified quantifier count loop off_letters flags_at named_group flag_group opening next_char escape one_letter hex_escape hex_fixed category_escape named_set name_in run first char_of class class_rest next_in posix_form class_escape member range_end start_of plain_item posix_item found found_at char_at char_before is_boundary is_word_edge is_word is_alike same_fold chars general_category general_category_rows value_in simple_folding simple_folding_rows
refuses_empty_list = sound dialect (empty_list (op.Push [])) (codes "x") 20 (at_start at_first)

reads_popped : Reads dialect (empty_list op.Pop) (codes "x") (at_start at_first) (tops ([] ∷ [])) (on (level 0 ∷ level 1 ∷ [])) 4
unfolding turn tree_of whole body passed pass quantified quantifier count loop off_letters flags_at named_group flag_group opening next_char escape one_letter hex_escape hex_fixed category_escape named_set name_in run first char_of class class_rest next_in posix_form class_escape member range_end start_of plain_item posix_item found found_at char_at char_before is_boundary is_word_edge is_word is_alike same_fold chars general_category general_category_rows value_in simple_folding simple_folding_rows
reads_popped = sound dialect (empty_list op.Pop) (codes "x") 20 (at_start at_first)

-- ---- contexts that clear ----

-- 3 clears the scope below it
abbrev pub clears : SyntaxSet
clears = grammar [] (record (context (s 2 ∷ []) (s 3 ∷ []) []) { clear_scopes = Some (TopN 1) } ∷ [])

visible_inside : visible clears (level 0 ∷ level 1 ∷ level 3 ∷ []) ≡ s 2 ∷ s 3 ∷ []
visible_inside = refl

-- on the text of a push it has cleared, on that of a set it hasn't, on that of a pop it still has
visible_on_matches : (visible_base clears (level 0 ∷ level 1 ∷ []) (op.Push (to 3)) ≡ s 2 ∷ [])
    × (visible_base clears (level 0 ∷ level 1 ∷ []) (op.Set (to 3)) ≡ t ∷ s 2 ∷ [])
    × (visible_base clears (level 0 ∷ level 1 ∷ level 3 ∷ []) op.Pop ≡ s 2 ∷ [])
visible_on_matches = (refl, refl, refl)

-- ---- operations on a text ----

-- two scopes, one of which covers nothing
shown_by_operations : bytes_to (replay ((0, Push (s 2)) ∷ (1, Push (s 3)) ∷ (1, Pop 1) ∷ (2, Pop 1) ∷ []) (before_text (plain_stack []))) 2 ≡ (s 2 ∷ []) ∷ (s 2 ∷ []) ∷ []
shown_by_operations = refl
