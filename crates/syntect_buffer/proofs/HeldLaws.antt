-- States that are held, and lines that were read from them.
use Rattle.std.proofs.Common.{◌≡◌, ℕ, ◌+◌, ◌-◌, ◌<◌, zero, suc, zero-add, suc-add, Some, None, Bool, true, false, IsTrue, ◌↔◌, map, List, [], ◌∷◌, ◌++◌, length, take, drop, refl, sym, ap, subst, ◌∙◌, arith, append-nil, append_assoc}
use Rattle.std.specs.List.{slice_get}
use Rattle.std.specs.Option.{option_map}
use Rattle.std.proofs.lemmas.Bool.{false≢true}
use Rattle.std.proofs.lemmas.Option.{slice_get-map}
use Rattle.std.proofs.lemmas.List.{take_all}
use Rattle.syntect_buffer.specs.syntect_scope.declared.stack.ScopeStack.{ScopeStack}
use Rattle.syntect_buffer.specs.syntect_style.Pieces.{KeepsTrueStyles, path_of}
use Rattle.syntect_buffer.specs.syntect_theme.declared.theme.Theme.{Theme}
use Rattle.syntect_buffer.specs.syntect_reading_choice.Engine.{dialect}
use Rattle.syntect_buffer.specs.syntect_parsing.Line.{Answer, AnswersAll, stack_before}
use Rattle.syntect_buffer.specs.syntect_parsing.Stacks.{Remembers}
use Rattle.syntect_buffer.specs.syntect_parsing.States.{standing}
use Rattle.syntect_buffer.specs.syntect_parsing.declared.parser.Standing.{Standing}
use Rattle.syntect_buffer.specs.syntect_grammar.declared.syntax_set.SyntaxSet.{SyntaxSet}
use Rattle.syntect_buffer.specs.syntect_easy.Leads.{Past, RunsOrderly, and_then, styles_of, reader_of}
use Rattle.syntect_buffer.specs.Answers.{given_line, given_lines}
use Rattle.syntect_buffer.specs.States.{Holds, StandSame, and_all}
use Rattle.syntect_buffer.specs.Kept.{IsAnsweredUnlessLimited, IsMarked, AreMarked, IsReadFrom, AreReadFrom, ReadsOn, answers_of, ending}
use Rattle.syntect_buffer.specs.declared.answer.LineAnswer.{LineAnswer}
use Rattle.syntect_buffer.specs.declared.answer.LineAnswer.TheVariants as answer
use Rattle.syntect_buffer.specs.declared.states.LineStates.{LineStates}
use Rattle.syntect_buffer.specs.declared.reading.Reading.{Reading}

pub some_same : {X : Type 0} {x y : X} → Some x ≡ Some y → x ≡ y
some_same e = cc

pub none_is_some : {X : Type 0} {x : X} → None ≡ Some x → ⊥
none_is_some e = cc

-- ---- the same states ----

pub alike_here : (a : LineStates) → StandSame a a
alike_here a = record { reader = refl; styles = refl }

pub alike_back : (a b : LineStates) → StandSame a b → StandSame b a
alike_back a b s = record { reader = sym s.reader; styles = sym s.styles }

pub alike_on : (a b c : LineStates) → StandSame a b → StandSame b c → StandSame a c
alike_on a b c s t = record { reader = s.reader ∙ t.reader; styles = s.styles ∙ t.styles }

-- states that stand where those of a past stand are held after that past too, if they are held
-- after some past of the theme
pub holds_same : (theme : Theme) (set : SyntaxSet) (was past : Past) (o n : LineStates) → was.theme ≡ theme → past.theme ≡ theme
    → Holds was set o → Holds past set n → StandSame o n → Holds past set o
holds_same theme set was past o n t u ho hn same =
    let h = ho.holder in
    let l = hn.is_past.leads in
    let e : standing (reader_of hn.holder) ≡ standing (reader_of h) = hn.reader ∙ sym same.reader ∙ sym ho.reader in
    let p : path_of (styles_of hn.holder) ≡ path_of (styles_of h) = ap path_of hn.styles ∙ sym same.styles ∙ sym (ap path_of ho.styles) in
    let k : was.theme ≡ past.theme = t ∙ sym u in
    record {
      holder = h;
      is_past = record {
        built = hn.is_past.built;
        leads = record {
          start = l.start;
          begins = l.begins;
          run = subst (λ (s : Standing). AnswersAll dialect set past.lines l.start past.answers s) e l.run;
          path = λ r. sym p ∙ l.path r ∙ ap (stack_before set) e;
          remembers = λ b.
              subst (λ (s : Standing). Remembers set s.levels (path_of (styles_of h))) e
              (subst (λ (stack : ScopeStack). Remembers set (standing (reader_of hn.holder)).levels stack) p (l.remembers b));
          theme_is = ho.is_past.leads.theme_is ∙ k;
          keeps = subst (λ (x : Theme). KeepsTrueStyles x (styles_of h)) k ho.is_past.leads.keeps;
        };
      };
      styles = ho.styles;
      reader = ho.reader;
    }

-- lines that were read from states are as if read from each that stand where they stand
pub read_from_same : (theme : Theme) (set : SyntaxSet) (was : Past) (o n : LineStates) → was.theme ≡ theme → Holds was set o → StandSame o n
    → (ls : List (List ℕ)) (rs : List Reading) → AreReadFrom set theme o ls rs → AreReadFrom set theme n ls rs
read_from_same theme set was o n t ho same [] [] h = tt
read_from_same theme set was o n t ho same [] (r ∷ rs) h = absurd h
read_from_same theme set was o n t ho same (l ∷ ls) [] h = absurd h
read_from_same theme set was o n t ho same (l ∷ ls) (r ∷ rs) h =
    let first : IsReadFrom set theme n l r = record {
      marked = λ m. alike_on n o r.after (alike_back o n same) (h.0.marked m);
      continues = λ past u k. h.0.continues past u (holds_same theme set was past o n t u ho k same);
    } in
    (first, h.1)

-- a line's answer goes on to the states before it where those after it stand alike
pub goes_on_same : (theme : Theme) (set : SyntaxSet) (past : Past) (before after : LineStates) (line : List ℕ) (a : LineAnswer) → past.theme ≡ theme → Holds past set before
    → StandSame before after → IsAnsweredUnlessLimited past set line a after → IsAnsweredUnlessLimited past set line a before
goes_on_same theme set past before after line (answer.LimitReached l) t k same c = k
goes_on_same theme set past before after line (answer.Pieces ps) t k same c = record {
  given = c.given;
  holds = holds_same theme set past (and_then past line c.given) before after t t k c.holds same;
  answer = c.answer;
}
goes_on_same theme set past before after line (answer.Refused e) t k same c = record {
  given = c.given;
  holds = holds_same theme set past (and_then past line c.given) before after t t k c.holds same;
  answer = c.answer;
}

-- where lines are orderly, states of the same reader are the same
pub stand_same : (theme : Theme) (set : SyntaxSet) (was past : Past) (o n : LineStates) → was.syntax ≡ past.syntax → Holds was set o → Holds past set n
    → RunsOrderly set was.syntax was.lines → RunsOrderly set past.syntax past.lines → standing o.reader ≡ standing n.reader → StandSame o n
stand_same theme set was past o n s ho hn a b e =
    let p : path_of (styles_of ho.holder) ≡ stack_before set (standing (reader_of ho.holder)) = ho.is_past.leads.path a in
    let q : path_of (styles_of hn.holder) ≡ stack_before set (standing (reader_of hn.holder)) = hn.is_past.leads.path b in
    let f : standing (reader_of ho.holder) ≡ standing (reader_of hn.holder) = ho.reader ∙ e ∙ sym hn.reader in
    record {
      reader = e;
      styles = sym (ap path_of ho.styles) ∙ p ∙ ap (stack_before set) f ∙ sym q ∙ ap path_of hn.styles;
    }

-- ---- lists of lines ----

-- the past after some lines
pub record Led (past : Past) (set : SyntaxSet) (lines : List (List ℕ)) (s : LineStates) : Type 0 where
  pub answers : List Answer
  pub holds : Holds (and_all past lines answers) set s

past_none : (past : Past) → and_all past [] [] ≡ past
past_none past =
    ap (λ (ls : List (List ℕ)). record past { lines = ls; answers = past.answers ++ [] }) (append-nil past.lines)
    ∙ ap (λ (xs : List Answer). record past { answers = xs }) (append-nil past.answers)

past_more : (past : Past) (ls : List (List ℕ)) (bs : List Answer) (others : List (List ℕ)) (more : List Answer) → and_all (and_all past ls bs) others more ≡ and_all past (ls ++ others) (bs ++ more)
past_more past ls bs others more =
    ap (λ (xs : List (List ℕ)). record past { lines = xs; answers = (past.answers ++ bs) ++ more }) (append_assoc past.lines ls others)
    ∙ ap (λ (xs : List Answer). record past { lines = past.lines ++ (ls ++ others); answers = xs }) (append_assoc past.answers bs more)

-- a line's answer leads on, and leaves the line out where it reached a limit
pub led_on : (past : Past) (set : SyntaxSet) (line : List ℕ) (a : LineAnswer) (after : LineStates) → IsAnsweredUnlessLimited past set line a after → Led past set (given_line line a) after
led_on past set line (answer.Pieces ps) after c = record { answers = c.given ∷ []; holds = c.holds }
led_on past set line (answer.Refused e) after c = record { answers = c.given ∷ []; holds = c.holds }
led_on past set line (answer.LimitReached l) after c = record { answers = []; holds = subst (λ (p : Past). Holds p set after) (sym (past_none past)) c }

-- the states after lines are held after the past with those of these lines that reached no limit
pub led : (theme : Theme) (set : SyntaxSet) (past : Past) (s : LineStates) → past.theme ≡ theme → Holds past set s
    → (ls : List (List ℕ)) (rs : List Reading) → AreReadFrom set theme s ls rs → Led past set (given_lines ls (answers_of rs)) (ending s rs)
led theme set past s t k [] [] h = record { answers = []; holds = subst (λ (p : Past). Holds p set s) (sym (past_none past)) k }
led theme set past s t k [] (r ∷ rs) h = absurd h
led theme set past s t k (l ∷ ls) [] h = absurd h
led theme set past s t k (l ∷ ls) (r ∷ rs) h =
    let c : Led past set (given_line l r.answer) r.after = led_on past set l r.answer r.after (h.0.continues past t k) in
    let d = led theme set (and_all past (given_line l r.answer) c.answers) r.after t c.holds ls rs h.1 in
    record {
      answers = c.answers ++ d.answers;
      holds = subst (λ (p : Past). Holds p set (ending r.after rs)) (past_more past (given_line l r.answer) c.answers (given_lines ls (answers_of rs)) d.answers) d.holds;
    }

-- lines read one after another can be parted anywhere, and joined
pub read_front : (theme : Theme) (set : SyntaxSet) (n : ℕ) (s : LineStates) (ls : List (List ℕ)) (rs : List Reading) → AreReadFrom set theme s ls rs → AreReadFrom set theme s (take n ls) (take n rs)
read_front theme set zero s ls rs h = tt
read_front theme set (suc n) s [] [] h = tt
read_front theme set (suc n) s [] (r ∷ rs) h = absurd h
read_front theme set (suc n) s (l ∷ ls) [] h = absurd h
read_front theme set (suc n) s (l ∷ ls) (r ∷ rs) h = (h.0, read_front theme set n r.after ls rs h.1)

pub read_rest : (theme : Theme) (set : SyntaxSet) (n : ℕ) (s : LineStates) (ls : List (List ℕ)) (rs : List Reading) → AreReadFrom set theme s ls rs
    → AreReadFrom set theme (ending s (take n rs)) (drop n ls) (drop n rs)
read_rest theme set zero s ls rs h = h
read_rest theme set (suc n) s [] [] h = tt
read_rest theme set (suc n) s [] (r ∷ rs) h = absurd h
read_rest theme set (suc n) s (l ∷ ls) [] h = absurd h
read_rest theme set (suc n) s (l ∷ ls) (r ∷ rs) h = read_rest theme set n r.after ls rs h.1

pub read_joined : (theme : Theme) (set : SyntaxSet) (s : LineStates) (ls more : List (List ℕ)) (rs others : List Reading)
    → AreReadFrom set theme s ls rs → AreReadFrom set theme (ending s rs) more others → AreReadFrom set theme s (ls ++ more) (rs ++ others)
read_joined theme set s [] more [] others h k = k
read_joined theme set s [] more (r ∷ rs) others h k = absurd h
read_joined theme set s (l ∷ ls) more [] others h k = absurd h
read_joined theme set s (l ∷ ls) more (r ∷ rs) others h k = (h.0, read_joined theme set r.after ls more rs others h.1 k)

pub read_count : (theme : Theme) (set : SyntaxSet) (s : LineStates) (ls : List (List ℕ)) (rs : List Reading) → AreReadFrom set theme s ls rs → length ls ≡ length rs
read_count theme set s [] [] h = refl
read_count theme set s [] (r ∷ rs) h = absurd h
read_count theme set s (l ∷ ls) [] h = absurd h
read_count theme set s (l ∷ ls) (r ∷ rs) h = ap suc (read_count theme set r.after ls rs h.1)

pub ending-append : (s : LineStates) (rs others : List Reading) → ending s (rs ++ others) ≡ ending (ending s rs) others
ending-append s [] others = refl
ending-append s (r ∷ rs) others = ending-append r.after rs others

pub ending-add : (n k : ℕ) (s : LineStates) (rs : List Reading) → ending s (take (n + k) rs) ≡ ending (ending s (take n rs)) (take k (drop n rs))
ending-add zero k s rs = rw zero-add refl
ending-add (suc n) zero s [] = rw suc-add refl
ending-add (suc n) (suc k) s [] = rw suc-add refl
ending-add (suc n) k s (r ∷ rs) = rw suc-add (ending-add n k r.after rs)

-- ---- lines read again ----

-- the lines read again and those after them were read one after another
pub read_again : (theme : Theme) (set : SyntaxSet) (was past : Past) (o n : LineStates) → was.theme ≡ theme → past.theme ≡ theme → Holds was set o → Holds past set n
    → (ls : List (List ℕ)) (rs ns : List Reading) → AreReadFrom set theme o ls rs → ReadsOn set theme n o ls rs ns
    → (length ns < length ls → StandSame (ending o (take (length ns) rs)) (ending n ns)) → AreReadFrom set theme n ls (ns ++ drop (length ns) rs)
read_again theme set was past o n t u ho hn [] [] [] h on stops = tt
read_again theme set was past o n t u ho hn [] [] (m ∷ ns) h on stops = absurd on
read_again theme set was past o n t u ho hn [] (r ∷ rs) ns h on stops = absurd h
read_again theme set was past o n t u ho hn (l ∷ ls) [] ns h on stops = absurd h
read_again theme set was past o n t u ho hn (l ∷ ls) (r ∷ rs) [] h on stops =
    read_from_same theme set was o n t ho (stops (omega arith)) (l ∷ ls) (r ∷ rs) h
read_again theme set was past o n t u ho hn (l ∷ ls) (r ∷ rs) (m ∷ ns) h on stops =
    let c : Led was set (given_line l r.answer) r.after = led_on was set l r.answer r.after (h.0.continues was t ho) in
    let d : Led past set (given_line l m.answer) m.after = led_on past set l m.answer m.after (on.1.continues past u hn) in (
      on.1,
      read_again theme set (and_all was (given_line l r.answer) c.answers) (and_all past (given_line l m.answer) d.answers) r.after m.after t u c.holds d.holds ls rs ns h.1 on.2 (λ lt. stops (omega (arith, lt))),
    )

-- each of them starts from other states than before
pub reads_apart : (theme : Theme) (set : SyntaxSet) (o n : LineStates) (ls : List (List ℕ)) (rs ns : List Reading) → ReadsOn set theme n o ls rs ns
    → (k : ℕ) → k < length ns → ¬ (StandSame (ending o (take k rs)) (ending n (take k ns)))
reads_apart theme set o n ls rs [] on k lt = absurd (omega arith)
reads_apart theme set o n [] rs (m ∷ ns) on k lt = absurd on
reads_apart theme set o n (l ∷ ls) [] (m ∷ ns) on k lt = absurd on
reads_apart theme set o n (l ∷ ls) (r ∷ rs) (m ∷ ns) on zero lt = on.0
reads_apart theme set o n (l ∷ ls) (r ∷ rs) (m ∷ ns) on (suc k) lt = reads_apart theme set r.after m.after ls rs ns on.2 k (omega arith)

-- one more
pub reads_more : (theme : Theme) (set : SyntaxSet) (o n : LineStates) (ls : List (List ℕ)) (rs ns : List Reading) (l : List ℕ) (m : Reading) → ReadsOn set theme n o ls rs ns
    → slice_get ls (length ns) ≡ Some l → length ls ≡ length rs → ¬ (StandSame (ending o (take (length ns) rs)) (ending n ns)) → IsReadFrom set theme (ending n ns) l m
    → ReadsOn set theme n o ls rs (ns ++ m ∷ [])
reads_more theme set o n [] rs [] l m on at e not_same read = absurd (none_is_some at)
reads_more theme set o n [] rs (y ∷ ns) l m on at e not_same read = absurd (none_is_some at)
reads_more theme set o n (x ∷ ls) [] ns l m on at e not_same read = absurd (omega arith)
reads_more theme set o n (x ∷ ls) (r ∷ rs) [] l m on at e not_same read =
    (not_same, subst (λ (z : List ℕ). IsReadFrom set theme n z m) (sym (some_same at)) read, tt)
reads_more theme set o n (x ∷ ls) (r ∷ rs) (y ∷ ns) l m on at e not_same read = (on.0, on.1, reads_more theme set r.after y.after ls rs ns l m on.2 at (omega arith) not_same read)

-- ---- marks ----

-- those of lines that were read
pub marked_read : (theme : Theme) (set : SyntaxSet) (s : LineStates) (ls : List (List ℕ)) (rs : List Reading) → AreReadFrom set theme s ls rs → AreMarked s rs
marked_read theme set s [] [] h = tt
marked_read theme set s [] (r ∷ rs) h = absurd h
marked_read theme set s (l ∷ ls) [] h = absurd h
marked_read theme set s (l ∷ ls) (r ∷ rs) h = (h.0.marked, marked_read theme set r.after ls rs h.1)

pub marked_front : (n : ℕ) (s : LineStates) (rs : List Reading) → AreMarked s rs → AreMarked s (take n rs)
marked_front zero s rs h = tt
marked_front (suc n) s [] h = tt
marked_front (suc n) s (r ∷ rs) h = (h.0, marked_front n r.after rs h.1)

pub marked_rest : (n : ℕ) (s : LineStates) (rs : List Reading) → AreMarked s rs → AreMarked (ending s (take n rs)) (drop n rs)
marked_rest zero s rs h = h
marked_rest (suc n) s [] h = tt
marked_rest (suc n) s (r ∷ rs) h = marked_rest n r.after rs h.1

pub marked_joined : (s : LineStates) (rs others : List Reading) → AreMarked s rs → AreMarked (ending s rs) others → AreMarked s (rs ++ others)
marked_joined s [] others h k = k
marked_joined s (r ∷ rs) others h k = (h.0, marked_joined r.after rs others h.1 k)

marked_same : (o n : LineStates) (rs : List Reading) → StandSame o n → AreMarked o rs → AreMarked n rs
marked_same o n [] same h = tt
marked_same o n (r ∷ rs) same h = (λ m. alike_on n o r.after (alike_back o n same) (h.0 m), h.1)

-- those of lines that were read again, and after them
pub marked_again : (theme : Theme) (set : SyntaxSet) (o n : LineStates) (ls : List (List ℕ)) (rs ns : List Reading) → length ls ≡ length rs → AreMarked o rs → ReadsOn set theme n o ls rs ns
    → (length ns < length ls → StandSame (ending o (take (length ns) rs)) (ending n ns)) → AreMarked n (ns ++ drop (length ns) rs)
marked_again theme set o n [] [] [] e h on stops = tt
marked_again theme set o n [] [] (m ∷ ns) e h on stops = absurd on
marked_again theme set o n [] (r ∷ rs) ns e h on stops = absurd (omega (arith, e))
marked_again theme set o n (l ∷ ls) [] ns e h on stops = absurd (omega (arith, e))
marked_again theme set o n (l ∷ ls) (r ∷ rs) [] e h on stops = marked_same o n (r ∷ rs) (stops (omega arith)) h
marked_again theme set o n (l ∷ ls) (r ∷ rs) (m ∷ ns) e h on stops =
    (on.1.marked, marked_again theme set r.after m.after ls rs ns (omega (arith, e)) h.1 on.2 (λ lt. stops (omega (arith, lt))))

-- that of a line
pub marked_at : (s : LineStates) (rs : List Reading) (place : ℕ) (r : Reading) → AreMarked s rs → slice_get rs place ≡ Some r → r.ends_alike ≡ true → StandSame (ending s (take place rs)) r.after
marked_at s [] place r h e m = absurd (none_is_some e)
marked_at s (x ∷ rs) zero r h e m = subst (λ (y : Reading). IsMarked s y) (some_same e) h.0 m
marked_at s (x ∷ rs) (suc place) r h e m = marked_at x.after rs place r h.1 e m

-- ---- the states that readings leave ----

pub ending_last : (s : LineStates) (rs : List Reading) (k : ℕ) (r : Reading) → slice_get rs k ≡ Some r → ending s (take (suc k) rs) ≡ r.after
ending_last s [] k r e = absurd (none_is_some e)
ending_last s (x ∷ rs) zero r e = ap (λ (y : Reading). y.after) (some_same e)
ending_last s (x ∷ rs) (suc k) r e = ending_last x.after rs k r e

-- after a line that ends as it began the states stand as before it
pub left_alike : (s : LineStates) (rs : List Reading) (place : ℕ) (r : Reading) → AreMarked s rs → slice_get rs place ≡ Some r → r.ends_alike ≡ true
    → StandSame (ending s (take (place + 1) rs)) (ending s (take place rs))
left_alike s rs place r h e m =
    let n : suc place ≡ place + 1 = omega arith in
    let here : r.after ≡ ending s (take (place + 1) rs) = sym (ending_last s rs place r e) ∙ ap (λ k. ending s (take k rs)) n in
    subst (λ (x : LineStates). StandSame x (ending s (take place rs))) here (alike_back (ending s (take place rs)) r.after (marked_at s rs place r h e m))

-- and as after another one in its place that does too
pub both_alike : (s : LineStates) (rs : List Reading) (place : ℕ) (r new : Reading) → AreMarked s rs → slice_get rs place ≡ Some r → r.ends_alike ≡ true
    → IsMarked (ending s (take place rs)) new → new.ends_alike ≡ true → StandSame (ending s (take (place + 1) rs)) new.after
both_alike s rs place r new h e m k n = alike_on (ending s (take (place + 1) rs)) (ending s (take place rs)) new.after (left_alike s rs place r h e m) (k n)

pub ending_at : (s : LineStates) (rs : List Reading) (place : ℕ) (r : Reading) → 0 < place → slice_get rs (place - 1) ≡ Some r → r.after ≡ ending s (take place rs)
ending_at s rs place r l e =
    let n : suc (place - 1) ≡ place = omega arith in
    sym (ending_last s rs (place - 1) r e) ∙ ap (λ k. ending s (take k rs)) n

pub ending_all : (s : LineStates) (rs : List Reading) (r : Reading) → slice_get rs (length rs - 1) ≡ Some r → r.after ≡ ending s rs
ending_all s [] r e = absurd (none_is_some e)
ending_all s (x ∷ rs) r e =
    ending_at s (x ∷ rs) (length (x ∷ rs)) r (omega arith) e ∙ ap (λ zs. ending s zs) (take_all (length (x ∷ rs)) (x ∷ rs) (omega arith))

-- ---- tests and places ----

pub not_true : (b : Bool) (P : Type 0) → (IsTrue b ↔ P) → b ≡ false → ¬ P
not_true b P h e p = false≢true (sym e ∙ h.1 p)

pub is_true : (b : Bool) (P : Type 0) → (IsTrue b ↔ P) → b ≡ true → P
is_true b P h e = h.0 e

get_behind : {X : Type 0} (xs : List X) (n k : ℕ) → slice_get (drop n xs) k ≡ slice_get xs (n + k)
get_behind xs zero k = rw zero-add refl
get_behind [] (suc n) zero = refl
get_behind [] (suc n) (suc k) = refl
get_behind (x ∷ xs) (suc n) k = rw suc-add (get_behind xs n k)

-- the line that is read next
pub line_at : {X Y : Type 0} (f : X → Y) (xs : List X) (place count at : ℕ) (x : X) → place + count ≡ at → slice_get xs at ≡ Some x → slice_get (drop place (map f xs)) count ≡ Some (f x)
line_at f xs place count at x n e =
    get_behind (map f xs) place count ∙ ap (λ k. slice_get (map f xs) k) n ∙ slice_get-map f xs at ∙ ap (λ o. option_map f o) e
