-- How many turns were made of a line so far.
use Rattle.std.proofs.Common.{◌≡◌, ◌≢◌, ℕ, ◌+◌, ◌-◌, ◌*◌, ◌≤◌, ◌<◌, List, [], length, refl, sym, ◌∙◌, arith}
use Rattle.syntect_parsing.specs.syntect_grammar.Contexts.{contexts_of}
use Rattle.syntect_reading_choice.specs.Engine.{dialect}
use Rattle.syntect_parsing.specs.Scopes.{Scopes}
use Rattle.syntect_parsing.specs.Laws.{longest}
use Rattle.syntect_parsing.specs.Line.{Goes, Ends, Refused, turn, Reads, ends, goes, Refuses, now, later, no_level, in_turn, at_start}
use Rattle.syntect_parsing.specs.Step.{turns_left}
use Rattle.syntect_parsing.specs.Bound.{TakesTurns, to_its_end, to_a_refusal, TakesAll, TakesNoMore, IsTold, most_turns}
use Rattle.syntect_parsing.proofs.AnswerLaws.{goes_of}
use Rattle.syntect_parsing.specs.syntect_grammar.declared.syntax_set.SyntaxSet.{SyntaxSet}
use Rattle.syntect_reading_choice.specs.declared.position.Position.{Position}
use Rattle.syntect_parsing.specs.States.{Standing}
use Rattle.syntect_parsing.specs.syntect_grammar_contexts.declared.error.ParsingError.{ParsingError}

-- from a position on the reading takes so many turns, up to the end or to a refusal
pub data TakesFrom (set : SyntaxSet) (line : List ℕ) (p : Position) : ℕ → Type 0 where
  reads_on : {bytes : List Scopes} {after : Standing} {n : ℕ} → Reads dialect set line p bytes after n → TakesFrom set line p n
  refuses_on : {e : ParsingError} {n : ℕ} → Refuses dialect set line p e n → TakesFrom set line p n

-- at least one
one_turn : (set : SyntaxSet) (line : List ℕ) (p : Position) (n : ℕ) → TakesFrom set line p n → 1 ≤ n
one_turn set line p n (reads_on (ends f)) = omega arith
one_turn set line p n (reads_on (goes f r)) = omega arith
one_turn set line p n (refuses_on (now f)) = omega arith
one_turn set line p n (refuses_on (later f r)) = omega arith

-- a turn that goes on is the first of them
rest_of : (set : SyntaxSet) (line : List ℕ) (p q : Position) (b : List Scopes) (n : ℕ) → turn dialect set line p ≡ Goes b q → TakesFrom set line p n
    → (m : ℕ) × (n ≡ m + 1) × TakesFrom set line q m
rest_of set line p q b n e (reads_on {bytes = bytes} {after = after} r) =
    let k = goes_of dialect set line p q b bytes after n e r in (k.1, k.3, reads_on k.4)
rest_of set line p q b n e (refuses_on {e = d} (now f)) = let k : Refused d ≡ Goes b q = sym f ∙ e in cc
rest_of set line p q b n e (refuses_on {e = d} (later {q = q'} {bytes = b'} {n = m} f r)) =
    let k : Goes b' q' ≡ Goes b q = sym f ∙ e in
    let j : q' ≡ q = cc in
    (m, refl, refuses_on {e = d} (rw (← j) r))

-- a turn that ends the line is the only one
last_one : (set : SyntaxSet) (line : List ℕ) (p : Position) (b : List Scopes) (s : Standing) (n : ℕ) → turn dialect set line p ≡ Ends b s → TakesFrom set line p n → n ≡ 1
last_one set line p b s n e (reads_on (ends f)) = refl
last_one set line p b s n e (reads_on (goes {q = q'} {bytes = b'} f r)) = let k : Goes b' q' ≡ Ends b s = sym f ∙ e in cc
last_one set line p b s n e (refuses_on {e = d} (now f)) = let k : Refused d ≡ Ends b s = sym f ∙ e in cc
last_one set line p b s n e (refuses_on (later {q = q'} {bytes = b'} f r)) = let k : Goes b' q' ≡ Ends b s = sym f ∙ e in cc

-- The turns so far are the first ones of each reading of the line,
-- and as many fewer may still come.
pub record CountSoFar (set : SyntaxSet) (line : List ℕ) (old : Standing) (p : Position) (before made shown : ℕ) : Type 0 where
  pub turns : ℕ
  pub told : IsTold turns shown
  pub counted : made ≡ before + turns
  pub left : (n : ℕ) → TakesFrom set line (at_start old) n → (m : ℕ) × (n ≡ turns + m) × TakesFrom set line p m
  pub few : turns + turns_left set line p ≤ turns_left set line (at_start old)

told_more : (turns shown next : ℕ) → IsTold turns shown → IsTold (shown + 1) next → IsTold (turns + 1) next
told_more turns shown next t m = omega (arith, t, m)

pub count-start : (set : SyntaxSet) (line : List ℕ) (old : Standing) (before : ℕ) → CountSoFar set line old (at_start old) before before 0
count-start set line old before = record { turns = 0; told = refl; counted = omega arith; left = λ n t. (n, omega arith, t); few = omega arith }

pub count-more : {set : SyntaxSet} {line : List ℕ} {old : Standing} {p q : Position} {before made shown : ℕ} → CountSoFar set line old p before made shown
    → (b : List Scopes) → turn dialect set line p ≡ Goes b q → turns_left set line q < turns_left set line p → (then : ℕ) → then ≡ made + 1 → (next : ℕ) → IsTold (shown + 1) next → CountSoFar set line old q before then next
count-more {set} {line} {old} {p} {q} {before} {made} {shown} c b e falls then one next more = record {
  told = told_more c.turns shown next c.told more;
  turns = c.turns + 1;
  counted = omega (arith, c.counted);
  left = λ n t.
      let k = c.left n t in
      let j = rest_of set line p q b k.0 e k.2 in
      (j.0, omega (arith, k.1, j.1), j.2);
  few = omega (arith, c.few);
}

-- the reading of a line begins at its start
from_start : (set : SyntaxSet) (line : List ℕ) (old : Standing) → old.levels ≢ [] → (n : ℕ) → TakesTurns dialect set line old n → TakesFrom set line (at_start old) n
from_start set line old on n (to_its_end r) = reads_on r.reads
from_start set line old on n (to_a_refusal (no_level f)) = absurd (on f)
from_start set line old on n (to_a_refusal (in_turn f r)) = refuses_on r

-- a line that has ended took the turns of its reading
pub count-end : {set : SyntaxSet} {line : List ℕ} {old : Standing} {p : Position} {before made shown : ℕ} → CountSoFar set line old p before made shown → old.levels ≢ []
    → (b : List Scopes) (s : Standing) → turn dialect set line p ≡ Ends b s → (then : ℕ) → then ≡ made + 1 → TakesAll dialect set line old before then
count-end {set} {line} {old} {p} c on b s e then one n t =
    let k = c.left n (from_start set line old on n t) in
    let l : k.0 ≡ 1 = last_one set line p b s k.0 e k.2 in
    omega (arith, c.counted, k.1)

-- a turn that is refused was one of them
pub count-refused : {set : SyntaxSet} {line : List ℕ} {old : Standing} {p : Position} {before made shown : ℕ} → CountSoFar set line old p before made shown → old.levels ≢ []
    → (then : ℕ) → then ≡ made + 1 → TakesNoMore dialect set line old before then
count-refused {set} {line} {old} {p} c on then one n t =
    let k = c.left n (from_start set line old on n t) in
    let l : 1 ≤ k.0 = one_turn set line p k.0 k.2 in
    omega (arith, c.counted, k.1)

-- the turns so far are some of them
pub count-passed : {set : SyntaxSet} {line : List ℕ} {old : Standing} {p : Position} {before made shown : ℕ} → CountSoFar set line old p before made shown → old.levels ≢ []
    → TakesNoMore dialect set line old before made
count-passed {set} {line} {old} {p} c on n t = let k = c.left n (from_start set line old on n t) in omega (arith, c.counted, k.1)

-- twice the same with one more on one side
least_room : (r x : ℕ) → (r + 1) * x + 1 ≤ (r + 1) * (x + 1)
least_room r x = omega arith

-- and there are never too many
pub count-bound : {set : SyntaxSet} {line : List ℕ} {old : Standing} {p : Position} {before made shown : ℕ} → CountSoFar set line old p before made shown
    → (then : ℕ) → then ≡ made + 1 → then ≤ before + most_turns set line old
count-bound {set} {line} {old} {p} {before} {made} {shown} c then one =
    let r : ℕ = longest (contexts_of set) in
    let l : (r + 1) * (1000 + 1001 * length line) + 1 ≤ (r + 1) * (1000 + 1001 * length line + 1) = least_room r (1000 + 1001 * length line) in
    let m : 1000 + 1001 * length line + 1 ≡ 1001 * (length line + 1) = omega arith in
    let k : length line - 0 ≡ length line = omega arith in
    let few : c.turns ≤ length old.levels + (r + 1) * (1000 + 1001 * length line) = let f = rw k at c.few in omega (arith, f) in
    let room : (r + 1) * (1000 + 1001 * length line) + 1 ≤ (r + 1) * (1001 * (length line + 1)) = rw m at l in
    omega (arith, c.counted, few, room)

-- what was shown is their number
pub count-told : {set : SyntaxSet} {line : List ℕ} {old : Standing} {p : Position} {before made shown : ℕ} → CountSoFar set line old p before made shown
    → (then : ℕ) → then ≡ made + 1 → (next : ℕ) → IsTold (shown + 1) next → IsTold (then - before) next
count-told {set} {line} {old} {p} {before} {made} {shown} c then one next more =
    let n : then - before ≡ c.turns + 1 = omega (arith, c.counted) in
    rw n (told_more c.turns shown next c.told more)
