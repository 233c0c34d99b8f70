-- Each byte of an accepted line has its scopes.
use Rattle.std.proofs.Common.{◌≡◌, ℕ, zero, suc, ◌+◌, ◌-◌, ◌≤◌, ◌<◌, nat_lt, Bool, true, false, not, ◌&&◌, List, [], ◌∷◌, length, map, find, replicate, Option, Some, None, refl, ap, arith, length-append, if◌then◌else◌}
use Rattle.std.proofs.lemmas.List.{length-replicate, length-map}
use Rattle.std.specs.List.{range_with_len, filter_map, cons_option}
use Rattle.std.proofs.lemmas.Bool.Decides.{nat_tests}
use Rattle.syntect_laws.specs.syntect_reading_choice.Engine.{Engine}
use Rattle.syntect_laws.specs.syntect_grammar_contexts.Substitution.{Groups}
use Rattle.syntect_laws.specs.syntect_grammar.Contexts.{context_at}
use Rattle.syntect_laws.specs.syntect_reading_choice.Chain.{Member, last, chain, prototypes_in}
use Rattle.syntect_parsing.specs.Turn.{position_after, trimmed}
use Rattle.syntect_laws.specs.syntect_reading_choice.Turn.{Live, Choice, Take, Skip, End, counts, counted, matched, live, live_match, searched_text, group_at, choice_of, winner, is_least, loops, char_len, missing, refusal}
use Rattle.syntect_parsing.specs.Scopes.{Scopes, scopes_passed, scopes_at}
use Rattle.syntect_parsing.specs.Visible.{visible, visible_base}
use Rattle.syntect_parsing.specs.Line.{Step, Goes, Ends, Refused, turn, turn_on, turn_in, step, unless_refused, ended, Reads, ends, goes, at_start}
use Rattle.syntect_laws.specs.ReadingLaws.{CoversLine}
use Rattle.syntect_laws.proofs.syntect_reading_choice_proofs.Finds.{FindsInOrder, finds_in_order}
use Rattle.syntect_laws.specs.syntect_grammar_contexts.declared.context.Context.{Context}
use Rattle.syntect_laws.specs.syntect_grammar.declared.syntax_set.SyntaxSet.{SyntaxSet}
use Rattle.syntect_laws.specs.syntect_reading_choice.declared.level.Level.{Level}
use Rattle.syntect_parsing.specs.declared.parser.Standing.{Standing}
use Rattle.syntect_laws.specs.syntect_reading_choice.declared.position.Position.{Position}
use Rattle.syntect_laws.specs.syntect_grammar_contexts.declared.error.ParsingError.{ParsingError}

length_range : (n from : ℕ) → length (range_with_len from n) ≡ n
length_range zero from = refl
length_range (suc n) from = ap suc (length_range n (from + 1))

-- ---- matches stand in the line ----

record IsIn (line : List ℕ) (place : ℕ) (m : Live) : Type 0 where
  from : place ≤ m.start
  ordered : m.start ≤ m.end
  within : m.end ≤ length line

abbrev IfIn : List ℕ → ℕ → Option Live → Type 0
IfIn line place None = Unit {0}
IfIn line place (Some m) = IsIn line place m

data AllIn (line : List ℕ) (place : ℕ) : List Live → Type 0 where
  no_more : AllIn line place []
  and_more : {m : Live} {ms : List Live} → IsIn line place m → AllIn line place ms → AllIn line place (m ∷ ms)

counted_in : (height : ℕ) (member : Member) (text : List ℕ) (groups : Groups) (line : List ℕ) (place : ℕ) (at : Option (ℕ × ℕ))
    → ((s e : ℕ) → at ≡ Some (s, e) → (place ≤ s) × (s ≤ e) × (e ≤ length line)) → IfIn line place (counted height member text groups at)
counted_in height member text groups line place None h = tt
counted_in height member text groups line place (Some at) h = by (counts height member.pattern.operation at.0 at.1) (h at.0 at.1 refl)
  where
    by : (b : Bool) → (place ≤ at.0) × (at.0 ≤ at.1) × (at.1 ≤ length line) → IfIn line place (if b then Some (record { pattern = member.pattern; from_with_prototype = member.from_with_prototype; searched = text; groups = groups; start = at.0; end = at.1 }) else None)
    by true k = record { from = k.0; ordered = k.1; within = k.2 }
    by false k = tt

matched_in : (height : ℕ) (member : Member) (text line : List ℕ) (place : ℕ) (o : Option Groups)
    → ((groups : Groups) (s e : ℕ) → o ≡ Some groups → group_at groups 0 ≡ Some (s, e) → (place ≤ s) × (s ≤ e) × (e ≤ length line)) → IfIn line place (matched height member text o)
matched_in height member text line place None h = tt
matched_in height member text line place (Some groups) h = counted_in height member text groups line place (group_at groups 0) (λ s e k. h groups s e refl k)

live_match_in : (engine : Engine) (line : List ℕ) → FindsInOrder engine line → (height : ℕ) (place : ℕ) (member : Member) → IfIn line place (live_match engine height line place member)
live_match_in engine line finds height place member =
    let text : List ℕ = searched_text engine member.pattern member.opening in
    matched_in height member text line place (engine.found text line place) (λ groups s e f g. finds text place s e groups f g)

cons_in : (line : List ℕ) (place : ℕ) (o : Option Live) (ms : List Live) → IfIn line place o → AllIn line place ms → AllIn line place (cons_option o ms)
cons_in line place None ms h r = r
cons_in line place (Some m) ms h r = and_more h r

kept_in : (line : List ℕ) (place : ℕ) (f : Member → Option Live) → ((m : Member) → IfIn line place (f m)) → (ms : List Member) → AllIn line place (filter_map f ms)
kept_in line place f h [] = no_more
kept_in line place f h (m ∷ ms) = cons_in line place (f m) (filter_map f ms) (h m) (kept_in line place f h ms)

either_in : (line : List ℕ) (place : ℕ) (b : Bool) (m : Live) (o : Option Live) → IsIn line place m → IfIn line place o → IfIn line place (if b then Some m else o)
either_in line place true m o h r = h
either_in line place false m o h r = r

find_in : (line : List ℕ) (place : ℕ) (test : Live → Bool) (ms : List Live) → AllIn line place ms → IfIn line place (find test ms)
find_in line place test [] no_more = tt
find_in line place test (m ∷ ms) (and_more h r) = either_in line place (test m) m (find test ms) h (find_in line place test ms r)

-- ---- a step moves on by as many bytes as it gives scopes, within the line, or to its end ----

abbrev InOrder : List ℕ → ℕ → Step → Type 0
InOrder line place (Goes bytes q) = (place + length bytes ≡ q.place) × (q.place ≤ length line)
InOrder line place (Ends bytes s) = place + length bytes ≡ length line
InOrder line place (Refused e) = Unit {0}

abbrev IsChoiceIn : List ℕ → ℕ → Choice → Type 0
IsChoiceIn line place (Take m) = IsIn line place m
IsChoiceIn line place Skip = place + char_len line place < length line
IsChoiceIn line place End = Unit {0}

skip_in : (line : List ℕ) (place : ℕ) (b : Bool) → b ≡ nat_lt (place + char_len line place) (length line) → IsChoiceIn line place (if b then Skip else End)
skip_in line place true e = grind (arith, nat_tests)
skip_in line place false e = tt

choice_in : (line : List ℕ) (place : ℕ) (ms : List Live) (o : Option Live) → IfIn line place o → IsChoiceIn line place (choice_of line place ms o)
choice_in line place ms (Some m) h = h
choice_in line place [] None h = tt
choice_in line place (m ∷ ms) None h = skip_in line place (nat_lt (place + char_len line place) (length line)) refl

unless_in_order : (line : List ℕ) (place : ℕ) (o : Option ParsingError) (s : Step) → InOrder line place s → InOrder line place (unless_refused o s)
unless_in_order line place None s h = h
unless_in_order line place (Some e) s h = tt

ended_in_order : (set : SyntaxSet) (line : List ℕ) (p : Position) → p.place ≤ length line → InOrder line p.place (ended set line p)
ended_in_order set line p l = omega (arith, length-replicate (length line - p.place) (visible set p.levels))

passed : (engine : Engine) (set : SyntaxSet) (levels : List Level) (line : List ℕ) (place : ℕ) (m : Live) → IsIn line place m → place + length (scopes_passed engine set levels place m) ≡ m.end
passed engine set levels line place m h =
    omega (
      arith,
      h.from,
      h.ordered,
      length-append (replicate (m.start - place) (visible set levels)) (map (scopes_at engine (visible_base set levels m.pattern.operation) m) (range_with_len m.start (m.end - m.start))),
      length-replicate (m.start - place) (visible set levels),
      length-map (range_with_len m.start (m.end - m.start)) (scopes_at engine (visible_base set levels m.pattern.operation) m),
      length_range (m.end - m.start) m.start,
    )

step_in_order : (engine : Engine) (set : SyntaxSet) (line : List ℕ) (p : Position) (choice : Choice) → p.place ≤ length line → IsChoiceIn line p.place choice → InOrder line p.place (step engine set line p choice)
step_in_order engine set line p (Take m) l h =
    unless_in_order line p.place (refusal set m.pattern) (Goes (scopes_passed engine set p.levels p.place m) (position_after set line p m)) (passed engine set p.levels line p.place m h, h.within)
step_in_order engine set line p Skip l h = (omega (arith, length-replicate (char_len line p.place) (visible set p.levels)), omega arith)
step_in_order engine set line p End l h = ended_in_order set line p l

turn_in_in_order : (engine : Engine) (line : List ℕ) → FindsInOrder engine line → (set : SyntaxSet) (p : Position) (top : Level) (c : Option Context) → p.place ≤ length line → InOrder line p.place (turn_in engine set line p top c)
turn_in_in_order engine line finds set p top None l = tt
turn_in_in_order engine line finds set p top (Some c) l =
    let ms : List Live = live engine line p (chain set p top c) in
    let all : AllIn line p.place ms = kept_in line p.place (live_match engine (length p.levels) line p.place) (live_match_in engine line finds (length p.levels) p.place) (chain set p top c) in
    unless_in_order line p.place (missing set (prototypes_in p c)) (step engine set line p (winner line p ms))
    (step_in_order engine set line p (winner line p ms) l (choice_in line p.place ms (find (λ m. is_least ms m && not (loops p m)) ms) (find_in line p.place _ ms all)))

turn_on_in_order : (engine : Engine) (line : List ℕ) → FindsInOrder engine line → (set : SyntaxSet) (p : Position) (top : Option Level) → p.place ≤ length line → InOrder line p.place (turn_on engine set line p top)
turn_on_in_order engine line finds set p None l = ended_in_order set line p l
turn_on_in_order engine line finds set p (Some top) l = turn_in_in_order engine line finds set p top (context_at set top.context) l

turn_in_order : (engine : Engine) (line : List ℕ) → FindsInOrder engine line → (set : SyntaxSet) (p : Position) → p.place ≤ length line → InOrder line p.place (turn engine set line p)
unfolding turn
turn_in_order engine line finds set p l = turn_on_in_order engine line finds set (trimmed p) (last p.levels) l

along : (engine : Engine) (line : List ℕ) → FindsInOrder engine line → (set : SyntaxSet) (p : Position) (bytes : List Scopes) (after : Standing) (n : ℕ)
    → p.place ≤ length line → Reads engine set line p bytes after n → p.place + length bytes ≡ length line
along engine line finds set p bytes after n l (ends e) =
    let k : InOrder line p.place (Ends bytes after) = rw e at (turn_in_order engine line finds set p l) in k
along engine line finds set p bytes after n l (goes {q = q} {bytes = b} {rest = rest} {n = m} e r) =
    let k : InOrder line p.place (Goes b q) = rw e at (turn_in_order engine line finds set p l) in
    let i : q.place + length rest ≡ length line = along engine line finds set q rest after m k.1 r in
    omega (arith, k.0, i, length-append b rest)

pub covers_line : CoversLine
covers_line engine finds set line state bytes after n u r =
    let k : 0 + length bytes ≡ length line = along engine line (finds_in_order engine finds line u) set (at_start state) bytes after n (omega arith) r.reads in omega arith
