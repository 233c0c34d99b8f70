-- What the three edits make.
use Rattle.std.proofs.Common.{◌≡◌, ℕ, ◌+◌, ◌<◌, ◌≤◌, List, [], ◌∷◌, ◌++◌, length, map, take, drop, refl, ap, ◌∙◌, arith, length-drop, String, Global}
use Rattle.std.specs.Prelude.{string_bytes, slice_set}
use Rattle.std.proofs.lemmas.List.{length-map}
use Rattle.std.specs.List.{insert, remove}
use Rattle.std.proofs.lemmas.List.Edits.{sets}
use Rattle.syntect_buffer.specs.syntect_theme.declared.theme.Theme.{Theme}
use Rattle.syntect_buffer.specs.syntect_grammar.declared.syntax_set.SyntaxSet.{SyntaxSet}
use Rattle.syntect_buffer.specs.Answers.{TellsOf}
use Rattle.syntect_buffer.specs.Kept.{IsReadFrom, AreReadAgain, IsEdited, ending, lines_in}
use Rattle.syntect_buffer.specs.declared.reading.Reading.{Reading}
use Rattle.syntect_buffer.specs.declared.reading.Kept.{Kept}
use Rattle.syntect_buffer.proofs.EditLaws.{own_sets, rest_sets, set_parts, remove_parts, map_own, map_rest}

-- as many lines as readings come after a place
behind_count : (old : Kept) (behind : ℕ) → length old.lines ≡ length old.readings → length (drop behind (lines_in old)) ≡ length (drop behind old.readings)
behind_count old behind n = omega (arith, n, length-drop behind (lines_in old), length-drop behind old.readings, length-map old.lines string_bytes)

-- a line of its own and those read again after it
own_edited : (set : SyntaxSet) (theme : Theme) (old new : Kept) (place behind : ℕ) (line : String Global) (r : Reading) (again : List Reading)
    → length old.lines ≡ length old.readings → place ≤ length old.readings
    → IsReadFrom set theme (ending old.start (take place old.readings)) (string_bytes line) r → TellsOf old.limits r.answer
    → AreReadAgain set theme old.limits r.after (ending old.start (take behind old.readings)) (drop behind (lines_in old)) (drop behind old.readings) again
    → new.limits ≡ old.limits → new.start ≡ old.start → new.lines ≡ take place old.lines ++ line ∷ drop behind old.lines
    → new.readings ≡ sets (take place old.readings ++ r ∷ drop behind old.readings) (place + 1) again
    → IsEdited set theme old new place behind (string_bytes line ∷ []) (1 + length again)
own_edited syntaxes theme old new place behind line r again n l read told more c s ls rs = record {
  readings = r ∷ [];
  again = again;
  limits_is = c;
  start_is = s;
  lines_are = ap (λ (xs : List (String Global)). map string_bytes xs) ls ∙ map_own string_bytes old.lines place behind line;
  readings_are = rs ∙ own_sets old.readings place behind r again l (omega (arith, more.within, behind_count old behind n));
  own_read = (read, tt);
  own_told = (told, tt);
  read_again = more;
  number_is = refl;
}

pub inserted : (set : SyntaxSet) (theme : Theme) (old new : Kept) (place : ℕ) (line : String Global) (r : Reading) (again : List Reading)
    → length old.lines ≡ length old.readings → place ≤ length old.readings
    → IsReadFrom set theme (ending old.start (take place old.readings)) (string_bytes line) r → TellsOf old.limits r.answer
    → AreReadAgain set theme old.limits r.after (ending old.start (take place old.readings)) (drop place (lines_in old)) (drop place old.readings) again
    → new.limits ≡ old.limits → new.start ≡ old.start → new.lines ≡ insert old.lines place line → new.readings ≡ sets (insert old.readings place r) (place + 1) again
    → IsEdited set theme old new place place (string_bytes line ∷ []) (1 + length again)
inserted syntaxes theme old new place line r again n l read told more c s ls rs = own_edited syntaxes theme old new place place line r again n l read told more c s ls rs

pub replaced : (set : SyntaxSet) (theme : Theme) (old new : Kept) (place : ℕ) (line : String Global) (r : Reading) (again : List Reading)
    → length old.lines ≡ length old.readings → place < length old.readings
    → IsReadFrom set theme (ending old.start (take place old.readings)) (string_bytes line) r → TellsOf old.limits r.answer
    → AreReadAgain set theme old.limits r.after (ending old.start (take (place + 1) old.readings)) (drop (place + 1) (lines_in old)) (drop (place + 1) old.readings) again
    → new.limits ≡ old.limits → new.start ≡ old.start → new.lines ≡ slice_set old.lines place line → new.readings ≡ sets (slice_set old.readings place r) (place + 1) again
    → IsEdited set theme old new place (place + 1) (string_bytes line ∷ []) (1 + length again)
replaced syntaxes theme old new place line r again n l read told more c s ls rs =
    own_edited syntaxes theme old new place (place + 1) line r again n (omega arith) read told more c s
    (ls ∙ set_parts old.lines place line (omega arith))
    (rs ∙ ap (λ (xs : List Reading). sets xs (place + 1) again) (set_parts old.readings place r l))

pub removed : (set : SyntaxSet) (theme : Theme) (old new : Kept) (place : ℕ) (again : List Reading)
    → length old.lines ≡ length old.readings → place < length old.readings
    → AreReadAgain set theme old.limits (ending old.start (take place old.readings)) (ending old.start (take (place + 1) old.readings)) (drop (place + 1) (lines_in old)) (drop (place + 1) old.readings) again
    → new.limits ≡ old.limits → new.start ≡ old.start → new.lines ≡ remove old.lines place → new.readings ≡ sets (remove old.readings place) place again
    → IsEdited set theme old new place (place + 1) [] (length again)
removed syntaxes theme old new place again n l more c s ls rs = record {
  readings = [];
  again = again;
  limits_is = c;
  start_is = s;
  lines_are = ap (λ (xs : List (String Global)). map string_bytes xs) (ls ∙ remove_parts old.lines place) ∙ map_rest string_bytes old.lines place (place + 1);
  readings_are =
      rs ∙ ap (λ (xs : List Reading). sets xs place again) (remove_parts old.readings place)
      ∙ rest_sets old.readings place (place + 1) again (omega arith) (omega (arith, more.within, behind_count old (place + 1) n));
  own_read = tt;
  own_told = tt;
  read_again = more;
  number_is = omega arith;
}
