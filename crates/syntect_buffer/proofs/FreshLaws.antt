-- What a buffer shows against a fresh run.
use Rattle.std.proofs.Common.{◌≡◌, ℕ, ◌+◌, ◌≤◌, zero, suc, List, [], ◌∷◌, ◌++◌, length, take, drop, Some, Result, Ok, Err, IfOk, OnOk, OnErr, refl, sym, ap, subst, ◌∙◌, arith, append_assoc, length-append, length-drop}
use Rattle.std.specs.List.{slice_get}
use Rattle.std.proofs.lemmas.List.{take-append-le, take_all, length-take-le}
use Rattle.syntect_buffer.specs.syntect_theme.declared.theme.Theme.{Theme}
use Rattle.syntect_buffer.specs.syntect_reading_choice.Engine.{dialect}
use Rattle.syntect_buffer.specs.syntect_parsing.Line.{Answer, AnswersAll}
use Rattle.syntect_buffer.specs.syntect_parsing.States.{standing}
use Rattle.syntect_buffer.specs.syntect_parsing.declared.parser.Standing.{Standing}
use Rattle.syntect_buffer.specs.syntect_grammar_loader.declared.definition.SyntaxDefinition.{SyntaxDefinition}
use Rattle.syntect_buffer.specs.syntect_grammar_contexts.declared.syntax_reference.SyntaxReference.{SyntaxReference}
use Rattle.syntect_buffer.specs.syntect_grammar.declared.syntax_set.SyntaxSet.{SyntaxSet}
use Rattle.syntect_buffer.specs.syntect_easy.Built.{IsSyntaxOfBuilt}
use Rattle.syntect_buffer.specs.syntect_easy.Leads.{Past, RunsOrderly, reader_of}
use Rattle.syntect_buffer.specs.Answers.{HasNoLimit, TellsOf, UnlessLimit, given_lines}
use Rattle.syntect_buffer.specs.Fresh.{IsAnswerAt, IsWhole, LeadTo, SettlesAfter, ReadsAgain, given_in}
use Rattle.syntect_buffer.specs.States.{Holds, StandSame, no_lines, and_all}
use Rattle.syntect_buffer.specs.Kept.{IsReadingAfter, IsAnsweredUnlessLimited, IsAnswered, AllTell, AreMarked, IsReadFrom, AreReadFrom, IsKept, IsEdited, answers_of, ending, lines_in, buffer_view}
use Rattle.syntect_buffer.specs.declared.answer.LineAnswer.{LineAnswer}
use Rattle.syntect_buffer.specs.declared.answer.LineAnswer.TheVariants as answer
use Rattle.syntect_buffer.specs.declared.states.LineStates.{LineStates}
use Rattle.syntect_buffer.specs.declared.reading.Reading.{Reading}
use Rattle.syntect_buffer.specs.declared.reading.Kept.{Kept}
use Rattle.syntect_buffer.proofs.EditLaws.{take_behind, take_map, length-renewed}
use Rattle.syntect_buffer.proofs.HeldLaws.{Led, some_same, none_is_some, led, stand_same, read_front, read_rest, read_joined, read_count, read_again, reads_apart, marked_read, marked_front, marked_rest, marked_joined, marked_again, ending-append, ending-add}
use Rattle.syntect_buffer.proofs.ToldLaws.{no_limit, told_front, told_rest, told_joined, told_at, lines_whole, given_all, given_parted}

-- lines before an orderly run's end are one
orderly_front : (set : SyntaxSet) (syntax : SyntaxReference) (xs ys : List (List ℕ)) → RunsOrderly set syntax (xs ++ ys) → RunsOrderly set syntax xs
orderly_front set syntax xs ys o = λ start b before behind at answers next after bytes turns same run reads.
    o start b before (behind ++ ys) at answers next after bytes turns (ap (λ (zs : List (List ℕ)). zs ++ ys) same ∙ append_assoc before (at ∷ behind) ys) run reads

orderly_take : (set : SyntaxSet) (syntax : SyntaxReference) (lines : List (List ℕ)) (answers : List LineAnswer) (n : ℕ)
    → RunsOrderly set syntax (given_lines (take (length lines) lines) (take (length lines) answers)) → RunsOrderly set syntax (given_lines (take n lines) (take n answers))
orderly_take set syntax lines answers n o =
    orderly_front set syntax (given_lines (take n lines) (take n answers)) (given_lines (drop n lines) (drop n answers))
    (subst (λ (ls : List (List ℕ)). RunsOrderly set syntax ls) (given_all lines answers ∙ sym (given_parted n lines answers)) o)

-- ---- one buffer ----

module _ (set : SyntaxSet) (theme : Theme) (syntax : SyntaxReference) where
  -- a limit that it tells is one of the buffer's
  pub told_of : (kept : Kept) (place : ℕ) (r : Reading) → IsKept set theme syntax kept → slice_get kept.readings place ≡ Some r → TellsOf kept.limits r.answer
  told_of kept place r k e = told_at kept.limits kept.readings place r k.told e

  -- without limits no line is left out
  pub whole : (kept : Kept) → IsKept set theme syntax kept → HasNoLimit kept.limits → IsWhole (buffer_view syntax set theme kept)
  whole kept k h = λ n. lines_whole kept.limits (lines_in kept) kept.readings n h k.count k.told

module _ (definitions : List SyntaxDefinition) (set : SyntaxSet) (theme : Theme) (syntax : SyntaxReference) where
  -- the past after the first lines of a buffer
  led_to : (kept : Kept) (n : ℕ) → IsKept set theme syntax kept → IsSyntaxOfBuilt set syntax definitions
      → Led (no_lines definitions theme syntax) set (given_in (buffer_view syntax set theme kept) n) (ending kept.start (take n kept.readings))
  led_to kept n k b =
      subst (λ (bs : List LineAnswer). Led (no_lines definitions theme syntax) set (given_lines (take n (lines_in kept)) bs) (ending kept.start (take n kept.readings)))
      (take_map (λ (r : Reading). r.answer) n kept.readings)
      (led theme set (no_lines definitions theme syntax) kept.start refl (k.starts definitions b) (take n (lines_in kept)) (take n kept.readings)
      (read_front theme set n kept.start (lines_in kept) kept.readings (k.read definitions b)))

  -- and where these lines lead
  lead_to : (kept : Kept) (n : ℕ) → IsKept set theme syntax kept → IsSyntaxOfBuilt set syntax definitions
      → LeadTo (buffer_view syntax set theme kept) n (standing (ending kept.start (take n kept.readings)).reader)
  lead_to kept n k b =
      let d = led_to kept n k b in
      let l = d.holds.is_past.leads in
      record {
        start = l.start;
        answers = d.answers;
        begins = l.begins;
        run = subst (λ (s : Standing). AnswersAll dialect set (given_in (buffer_view syntax set theme kept) n) l.start d.answers s) d.holds.reader l.run;
      }

  -- the reading at a place
  record At (s : LineStates) (ls : List (List ℕ)) (rs : List Reading) (place : ℕ) (r : Reading) : Type 0 where
    line : List ℕ
    line_is : slice_get ls place ≡ Some line
    read : IsReadFrom set theme (ending s (take place rs)) line r

  read_at : (s : LineStates) (ls : List (List ℕ)) (rs : List Reading) (place : ℕ) (r : Reading) → AreReadFrom set theme s ls rs → slice_get rs place ≡ Some r → At s ls rs place r
  read_at s [] [] place r h e = absurd (none_is_some e)
  read_at s [] (x ∷ rs) place r h e = absurd h
  read_at s (l ∷ ls) [] place r h e = absurd h
  read_at s (l ∷ ls) (x ∷ rs) zero r h e = record { line = l; line_is = refl; read = subst (λ (y : Reading). IsReadFrom set theme s l y) (some_same e) h.0 }
  read_at s (l ∷ ls) (x ∷ rs) (suc place) r h e = let a = read_at x.after ls rs place r h.1 e in record { line = a.line; line_is = a.line_is; read = a.read }

  -- the answer to a line after those that are given
  answered_at : (kept : Kept) (place : ℕ) (answers : List Answer) (line : List ℕ) (a : LineAnswer) (after : LineStates) → slice_get (lines_in kept) place ≡ Some line
      → IsAnswered (and_all (no_lines definitions theme syntax) (given_in (buffer_view syntax set theme kept) place) answers) set line a after
      → IsAnswerAt (buffer_view syntax set theme kept) (given_in (buffer_view syntax set theme kept) place) place a
  answered_at kept place answers line a after e c =
      let l = c.holds.is_past.leads in
      record {
        start = l.start;
        before = answers;
        line = line;
        given = c.given;
        after = standing (reader_of c.holds.holder);
        begins = l.begins;
        line_is = e;
        run = l.run;
        is_answer = c.answer;
      }

  goes_on_at : (kept : Kept) (place : ℕ) (answers : List Answer) (line : List ℕ) (a : LineAnswer) (after : LineStates) → slice_get (lines_in kept) place ≡ Some line
      → IsAnsweredUnlessLimited (and_all (no_lines definitions theme syntax) (given_in (buffer_view syntax set theme kept) place) answers) set line a after
      → UnlessLimit a (IsAnswerAt (buffer_view syntax set theme kept) (given_in (buffer_view syntax set theme kept) place) place a)
  goes_on_at kept place answers line (answer.Pieces ps) after e c = answered_at kept place answers line (answer.Pieces ps) after e c
  goes_on_at kept place answers line (answer.Refused x) after e c = answered_at kept place answers line (answer.Refused x) after e c
  goes_on_at kept place answers line (answer.LimitReached l) after e c = tt

  pub answer_at : (kept : Kept) (place : ℕ) (r : Reading) → IsKept set theme syntax kept → IsSyntaxOfBuilt set syntax definitions → slice_get kept.readings place ≡ Some r
      → UnlessLimit r.answer (IsAnswerAt (buffer_view syntax set theme kept) (given_in (buffer_view syntax set theme kept) place) place r.answer)
  answer_at kept place r k b e =
      let a = read_at kept.start (lines_in kept) kept.readings place r (k.read definitions b) e in
      let d = led_to kept place k b in
      let past : Past = and_all (no_lines definitions theme syntax) (given_in (buffer_view syntax set theme kept) place) d.answers in
      let c : IsReadingAfter past set a.line r = a.read.continues past refl d.holds in
      goes_on_at kept place d.answers a.line r.answer r.after a.line_is c

  all_given : (kept : Kept) (place : ℕ) (a : LineAnswer) → HasNoLimit kept.limits → TellsOf kept.limits a → IsWhole (buffer_view syntax set theme kept)
      → UnlessLimit a (IsAnswerAt (buffer_view syntax set theme kept) (given_in (buffer_view syntax set theme kept) place) place a)
      → IsAnswerAt (buffer_view syntax set theme kept) (take place (lines_in kept)) place a
  all_given kept place (answer.Pieces ps) h t w e = subst (λ (ls : List (List ℕ)). IsAnswerAt (buffer_view syntax set theme kept) ls place (answer.Pieces ps)) (w place) e
  all_given kept place (answer.Refused x) h t w e = subst (λ (ls : List (List ℕ)). IsAnswerAt (buffer_view syntax set theme kept) ls place (answer.Refused x)) (w place) e
  all_given kept place (answer.LimitReached l) h t w e = absurd (no_limit kept.limits l h t)

  pub answer_of_all : (kept : Kept) (place : ℕ) (r : Reading) → IsKept set theme syntax kept → IsSyntaxOfBuilt set syntax definitions → HasNoLimit kept.limits
      → slice_get kept.readings place ≡ Some r → IsAnswerAt (buffer_view syntax set theme kept) (take place (lines_in kept)) place r.answer
  answer_of_all kept place r k b h e = all_given kept place r.answer h (told_of set theme syntax kept place r k e) (whole set theme syntax kept k h) (answer_at kept place r k b e)

-- ---- before and after an edit ----

module _ (set : SyntaxSet) (theme : Theme) (syntax : SyntaxReference) (old new : Kept) (place behind : ℕ) (own : List (List ℕ)) (number : ℕ) where
  -- what the edit leaves was read one after another
  read_on : (definitions : List SyntaxDefinition) → IsSyntaxOfBuilt set syntax definitions → IsKept set theme syntax old → (e : IsEdited set theme old new place behind own number)
      → AreReadFrom set theme old.start (take place (lines_in old) ++ (own ++ drop behind (lines_in old)))
      (take place old.readings ++ (e.readings ++ (e.again ++ drop (length e.again) (drop behind old.readings))))
  read_on definitions b k e =
      let ls = lines_in old in
      let rs = old.readings in
      let s : LineStates = ending old.start (take place rs) in
      let o : LineStates = ending old.start (take behind rs) in
      let n : LineStates = ending s e.readings in
      let all : AreReadFrom set theme old.start ls rs = k.read definitions b in
      let front : AreReadFrom set theme old.start (take place ls) (take place rs) = read_front theme set place old.start ls rs all in
      let first : AreReadFrom set theme old.start (take place ls ++ own) (take place rs ++ e.readings) =
      read_joined theme set old.start (take place ls) own (take place rs) e.readings front e.own_read in
      let was = led theme set (no_lines definitions theme syntax) old.start refl (k.starts definitions b) (take behind ls) (take behind rs)
      (read_front theme set behind old.start ls rs all) in
      let now = led theme set (no_lines definitions theme syntax) old.start refl (k.starts definitions b) (take place ls ++ own) (take place rs ++ e.readings) first in
      let before : List (List ℕ) = given_lines (take behind ls) (answers_of (take behind rs)) in
      let given : List (List ℕ) = given_lines (take place ls ++ own) (answers_of (take place rs ++ e.readings)) in
      let held : Holds (and_all (no_lines definitions theme syntax) given now.answers) set n =
      subst (λ (x : LineStates). Holds (and_all (no_lines definitions theme syntax) given now.answers) set x)
      (ending-append old.start (take place rs) e.readings) now.holds in
      let rest : AreReadFrom set theme n (drop behind ls) (e.again ++ drop (length e.again) (drop behind rs)) =
      read_again theme set (and_all (no_lines definitions theme syntax) before was.answers) (and_all (no_lines definitions theme syntax) given now.answers)
      o n refl refl was.holds held (drop behind ls) (drop behind rs) e.again (read_rest theme set behind old.start ls rs all) e.read_again.on e.read_again.stops in
      read_joined theme set old.start (take place ls) (own ++ drop behind ls) (take place rs) (e.readings ++ (e.again ++ drop (length e.again) (drop behind rs))) front
      (read_joined theme set s own (drop behind ls) e.readings (e.again ++ drop (length e.again) (drop behind rs)) e.own_read rest)

  -- the marks of what the edit leaves
  marks_on : IsKept set theme syntax old → (e : IsEdited set theme old new place behind own number)
      → AreMarked old.start (take place old.readings ++ (e.readings ++ (e.again ++ drop (length e.again) (drop behind old.readings))))
  marks_on k e =
      let ls = lines_in old in
      let rs = old.readings in
      let s : LineStates = ending old.start (take place rs) in
      let o : LineStates = ending old.start (take behind rs) in
      let n : LineStates = ending s e.readings in
      let rest : List Reading = e.again ++ drop (length e.again) (drop behind rs) in
      let count : length (drop behind ls) ≡ length (drop behind rs) = omega (arith, k.count, length-drop behind ls, length-drop behind rs) in
      let last : AreMarked n rest =
      marked_again theme set o n (drop behind ls) (drop behind rs) e.again count (marked_rest behind old.start rs k.marked) e.read_again.on e.read_again.stops in
      marked_joined old.start (take place rs) (e.readings ++ rest) (marked_front place old.start rs k.marked)
      (marked_joined s e.readings rest (marked_read theme set s own e.readings e.own_read) last)

  -- the limits that it tells
  tells_on : IsKept set theme syntax old → (e : IsEdited set theme old new place behind own number)
      → AllTell old.limits (take place old.readings ++ (e.readings ++ (e.again ++ drop (length e.again) (drop behind old.readings))))
  tells_on k e =
      let rs = old.readings in
      let rest : List Reading = e.again ++ drop (length e.again) (drop behind rs) in
      told_joined old.limits (take place rs) (e.readings ++ rest) (told_front old.limits place rs k.told)
      (told_joined old.limits e.readings rest e.own_told
      (told_joined old.limits e.again (drop (length e.again) (drop behind rs)) e.read_again.told
      (told_rest old.limits (length e.again) (drop behind rs) (told_rest old.limits behind rs k.told))))

  -- the buffer keeps after an edit what it has to
  pub kept_edited : place ≤ length old.readings → behind ≤ length old.readings → IsKept set theme syntax old → IsEdited set theme old new place behind own number → IsKept set theme syntax new
  kept_edited l m k e = record {
    count = ap length e.lines_are ∙ counts ∙ sym (ap length e.readings_are);
    marked = rw (e.start_is, e.readings_are) (marks_on k e);
    told = rw (e.limits_is, e.readings_are) (tells_on k e);
    starts = λ definitions b. subst (λ (s : LineStates). Holds (no_lines definitions theme syntax) set s) (sym e.start_is) (k.starts definitions b);
    read = λ definitions b.
        rw (e.start_is, e.lines_are, e.readings_are) (read_on definitions b k e);
  }
    where
      counts : length (take place (lines_in old) ++ (own ++ drop behind (lines_in old))) ≡ length (take place old.readings ++ (e.readings ++ (e.again ++ drop (length e.again) (drop behind old.readings))))
      counts =
          let ls = lines_in old in
          let rs = old.readings in
          let rest = e.again ++ drop (length e.again) (drop behind rs) in
          let d : length (drop behind ls) ≡ length (drop behind rs) = omega (arith, k.count, length-drop behind ls, length-drop behind rs) in
          let q : length own ≡ length e.readings = read_count theme set (ending old.start (take place rs)) own e.readings e.own_read in
          let n : length rest ≡ length (drop behind rs) = length-renewed e.again (drop behind rs) (omega (arith, e.read_again.within)) in
          let a : length (take place ls) ≡ place = length-take-le place ls (omega (arith, k.count)) in
          let b : length (take place rs) ≡ place = length-take-le place rs l in
          omega (arith, length-append (take place ls) (own ++ drop behind ls), length-append own (drop behind ls), length-append (take place rs) (e.readings ++ rest), length-append e.readings rest)

  -- the states at a line after the edit, before it
  old_state : (k : ℕ) → ending old.start (take (behind + k) old.readings) ≡ ending (ending old.start (take behind old.readings)) (take k (drop behind old.readings))
  old_state k = ending-add behind k old.start old.readings

  -- and after it
  new_state : (e : IsEdited set theme old new place behind own number) (at k : ℕ) → at ≡ place + length own → place ≤ length old.readings → k ≤ length e.again
      → ending new.start (take (at + k) new.readings) ≡ ending (ending (ending old.start (take place old.readings)) e.readings) (take k e.again)
  new_state e at k a l le =
      let rs = old.readings in
      let xs = take place rs ++ e.readings in
      let ys = e.again ++ drop (length e.again) (drop behind rs) in
      let m : length xs ≡ at =
      omega (arith, a, length-append (take place rs) e.readings, length-take-le place rs l, read_count theme set (ending old.start (take place rs)) own e.readings e.own_read) in
      ap (λ (s : LineStates). ending s (take (at + k) new.readings)) e.start_is
      ∙ ap (λ (zs : List Reading). ending old.start (take (at + k) zs)) (e.readings_are ∙ sym (append_assoc (take place rs) e.readings ys))
      ∙ ap (λ (j : ℕ). ending old.start (take (j + k) (xs ++ ys))) (sym m)
      ∙ ap (λ (zs : List Reading). ending old.start zs) (take_behind xs ys k)
      ∙ ending-append old.start xs (take k ys)
      ∙ ap (λ (s : LineStates). ending s (take k ys)) (ending-append old.start (take place rs) e.readings)
      ∙ ap (λ (zs : List Reading). ending (ending (ending old.start (take place rs)) e.readings) zs) (take-append-le k e.again (drop (length e.again) (drop behind rs)) le)

  -- the lines that are read again are those that start from another state,
  -- up to the first that doesn't
  pub starts_apart : (definitions : List SyntaxDefinition) (at : ℕ) → IsSyntaxOfBuilt set syntax definitions → IsKept set theme syntax old → (e : IsEdited set theme old new place behind own number)
      → place ≤ length old.readings → behind ≤ length old.readings → at ≡ place + length own
      → SettlesAfter (buffer_view syntax set theme old) (buffer_view syntax set theme new) behind at (length e.again)
  starts_apart definitions at b k e l m a = record {
    within = omega (arith, count_new, e.read_again.within);
    first = λ oo on j lt. record {
      old_state = standing (ending old.start (take (behind + j) old.readings)).reader;
      new_state = standing (ending new.start (take (at + j) new.readings)).reader;
      leads_old = lead_to definitions set theme syntax old (behind + j) k b;
      leads_new = lead_to definitions set theme syntax new (at + j) kn b;
      apart = λ same. reads_apart theme set (ending old.start (take behind old.readings)) (ending (ending old.start (take place old.readings)) e.readings)
          (drop behind (lines_in old)) (drop behind old.readings) e.again e.read_again.on j lt
          (subst (λ (s : LineStates). StandSame s (ending (ending (ending old.start (take place old.readings)) e.readings) (take j e.again))) (old_state j)
          (subst (λ (s : LineStates). StandSame (ending old.start (take (behind + j) old.readings)) s) (new_state e at j a l (omega arith))
          (stand_same theme set (and_all (no_lines definitions theme syntax) (given_in (buffer_view syntax set theme old) (behind + j)) (was j).answers)
          (and_all (no_lines definitions theme syntax) (given_in (buffer_view syntax set theme new) (at + j)) (now j).answers)
          (ending old.start (take (behind + j) old.readings)) (ending new.start (take (at + j) new.readings)) refl (was j).holds (now j).holds
          (orderly_take set syntax (lines_in old) (answers_of old.readings) (behind + j) oo) (orderly_take set syntax (lines_in new) (answers_of new.readings) (at + j) on) same)));
    };
    stops = λ lt.
        let count = length e.again in
        let same : StandSame (ending (ending old.start (take behind old.readings)) (take count (drop behind old.readings))) (ending (ending (ending old.start (take place old.readings)) e.readings) e.again) =
        e.read_again.stops (omega (arith, count_new)) in
        let q : ending new.start (take (at + count) new.readings) ≡ ending (ending (ending old.start (take place old.readings)) e.readings) e.again =
        new_state e at count a l (omega arith) ∙ ap (λ (zs : List Reading). ending (ending (ending old.start (take place old.readings)) e.readings) zs) (take_all count e.again (omega arith)) in
        record {
          state = standing (ending old.start (take (behind + count) old.readings)).reader;
          leads_old = lead_to definitions set theme syntax old (behind + count) k b;
          leads_new = subst (λ (s : Standing). LeadTo (buffer_view syntax set theme new) (at + count) s)
              (ap (λ (s : LineStates). standing s.reader) q ∙ sym same.reader ∙ sym (ap (λ (s : LineStates). standing s.reader) (old_state count)))
              (lead_to definitions set theme syntax new (at + count) kn b);
        };
  }
    where
      kn : IsKept set theme syntax new
      kn = kept_edited l m k e

      was : (j : ℕ) → Led (no_lines definitions theme syntax) set (given_in (buffer_view syntax set theme old) (behind + j)) (ending old.start (take (behind + j) old.readings))
      was j = led_to definitions set theme syntax old (behind + j) k b

      now : (j : ℕ) → Led (no_lines definitions theme syntax) set (given_in (buffer_view syntax set theme new) (at + j)) (ending new.start (take (at + j) new.readings))
      now j = led_to definitions set theme syntax new (at + j) kn b

      count_new : length (lines_in new) ≡ at + length (drop behind (lines_in old))
      count_new =
          omega (
            arith,
            a,
            ap length e.lines_are,
            length-append (take place (lines_in old)) (own ++ drop behind (lines_in old)),
            length-append own (drop behind (lines_in old)),
            length-take-le place (lines_in old) (omega (arith, k.count)),
          )

-- ---- an edit that may be refused ----

module _ {E : Type 0} (set : SyntaxSet) (theme : Theme) (syntax : SyntaxReference) (old new : Kept) (place behind : ℕ) (own : List (List ℕ)) where
  pub kept_after : (r : Result ℕ E) → place ≤ length old.readings → behind ≤ length old.readings → IsKept set theme syntax old
      → IfOk r (λ number. IsEdited set theme old new place behind own number) → OnErr r (new ≡ old) → IsKept set theme syntax new
  kept_after (Ok number) l m k e same = kept_edited set theme syntax old new place behind own number l m k e
  kept_after (Err x) l m k e same = subst (λ (kept : Kept). IsKept set theme syntax kept) (sym same) k

  pub number_after : (r : Result ℕ E) (at : ℕ) → place ≤ length old.readings → behind ≤ length old.readings → at ≡ place + length own → IsKept set theme syntax old
      → IfOk r (λ number. IsEdited set theme old new place behind own number)
      → IfOk r (λ number. (definitions : List SyntaxDefinition) → IsSyntaxOfBuilt set syntax definitions
      → ReadsAgain (buffer_view syntax set theme old) (buffer_view syntax set theme new) (length own) behind at number)
  number_after (Ok number) at l m a k e = λ definitions b.
      (length e.again, e.number_is, starts_apart set theme syntax old new place behind own number definitions at b k e l m a)
  number_after (Err x) at l m a k e = tt

  pub limits_after : (r : Result ℕ E) → IfOk r (λ number. IsEdited set theme old new place behind own number) → OnErr r (new ≡ old) → new.limits ≡ old.limits
  limits_after (Ok number) e same = e.limits_is
  limits_after (Err x) e same = ap (λ (kept : Kept). kept.limits) same

  -- without limits nothing is left out
  pub whole_after : (r : Result ℕ E) → place ≤ length old.readings → behind ≤ length old.readings → IsKept set theme syntax old
      → IfOk r (λ number. IsEdited set theme old new place behind own number) → OnErr r (new ≡ old)
      → HasNoLimit old.limits → IsWhole (buffer_view syntax set theme old) × IsWhole (buffer_view syntax set theme new)
  whole_after r l m k e same h =
      (whole set theme syntax old k h, whole set theme syntax new (kept_after r l m k e same) (subst HasNoLimit (sym (limits_after r e same)) h))

  pub lines_after : (r : Result ℕ E) → IfOk r (λ number. IsEdited set theme old new place behind own number)
      → OnOk r (lines_in new ≡ take place (lines_in old) ++ (own ++ drop behind (lines_in old)))
  lines_after (Ok number) e = e.lines_are
  lines_after (Err x) e = tt

  pub seen_after : (r : Result ℕ E) → OnErr r (new ≡ old) → OnErr r (buffer_view syntax set theme new ≡ buffer_view syntax set theme old)
  seen_after (Ok number) same = tt
  seen_after (Err x) same = ap (buffer_view syntax set theme) same
