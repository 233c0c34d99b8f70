-- Lines that are read within limits.
use Rattle.std.proofs.Common.{◌≡◌, ◌≢◌, ℕ, ◌+◌, ◌-◌, ◌≤◌, ◌<◌, List, [], length, Option, Some, None, refl, sym, ap, subst, ◌∙◌, arith}
use Rattle.std.proofs.Common.{inl, inr}
use Rattle.std.proofs.lemmas.Bool.{cases_lt}
use Rattle.std.specs.Prelude.{IfSome}
use Rattle.std.specs.Option.{option_map}
use Rattle.syntect_parsing.specs.syntect_base.Limiting.{limit_of, IsWithinLimit}
use Rattle.syntect_parsing.specs.syntect_base.declared.limits.Limits.{Limits}
use Rattle.syntect_parsing.specs.syntect_grammar_contexts.declared.error.ParsingError.{ParsingError}
use Rattle.syntect_parsing.specs.syntect_grammar.declared.syntax_set.SyntaxSet.{SyntaxSet}
use Rattle.syntect_parsing.specs.syntect_count.Meter.{Reading, Advances}
use Rattle.syntect_reading_choice.specs.Engine.{dialect}
use Rattle.syntect_reading_choice.specs.Halt.{HaltsAt}
use Rattle.syntect_reading_choice.specs.declared.halt.Halt.{Halt}
use Rattle.syntect_reading_choice.specs.declared.halt.Halt.TheVariants as halt
use Rattle.syntect_reading_choice.specs.declared.position.Position.{Position}
use Rattle.syntect_parsing.specs.syntect_scope.declared.stack.ScopeStackOp.{ScopeStackOp}
use Rattle.syntect_parsing.specs.Line.{Step, Goes, Ends, turn, Reaches, here, further, at_start}
use Rattle.syntect_parsing.specs.Scopes.{Scopes}
use Rattle.syntect_parsing.specs.Meaning.{RefusesLineOrMemory}
use Rattle.syntect_parsing.specs.States.{Standing}
use Rattle.syntect_parsing.specs.Step.{RefusesStep, RefusesTurn}
use Rattle.syntect_parsing.specs.Within.{IfRefused, IsThere, KeepsLevels, RefusesWithinOrMemory, ReachesHere, ReachesLimit, StandsAt, StopsLineAt, UnlessStop, refusal_of, stop_of}
use Rattle.syntect_parsing.specs.Work.{UnlessWanting}
use Rattle.syntect_parsing.specs.declared.within.ReadWithinError.{ReadWithinError}
use Rattle.syntect_parsing.specs.declared.within.ReadWithinError.TheVariants.{Refused, LimitReached}
use Rattle.syntect_parsing.specs.declared.within.LineLimit.{LineLimit}
use Rattle.syntect_parsing.specs.declared.within.LineLimit.TheVariants.{Steps, Turns, Levels, Operations}
use Rattle.syntect_parsing.proofs.BoundLaws.{CountSoFar}
use Rattle.syntect_parsing.proofs.Runs.{ReadSoFar, so_far-refused}
use Rattle.syntect_parsing.proofs.WorkLaws.{unless_so}

-- ---- refusals ----

pub if_refused : (P Q : ParsingError → Type 0) → ((e : ParsingError) → P e → Q e) → (w : ReadWithinError) → IfRefused P w → IfRefused Q w
if_refused P Q f (Refused e) h = f e h
if_refused P Q f (LimitReached l) h = tt

-- where a turn has no answer
pub halt-refuses : (step : Step) (h : Halt) → IfRefused (RefusesStep step) (stop_of h)
halt-refuses step halt.Memory = tt
halt-refuses step (halt.Spent pattern place) = tt

pub halt-stops : (r : Reading) (h : Halt) → HaltsAt r h → StopsLineAt r (stop_of h)
halt-stops r halt.Memory e = tt
halt-stops r (halt.Spent pattern place) e = e

-- of the reading so far
pub so_far-stopped : {set : SyntaxSet} {line : List ℕ} {state : Standing} {p : Position} {ops : List (ℕ × ScopeStackOp)} {before made shown : ℕ}
    → ReadSoFar set line state p ops before made shown → (w : ReadWithinError) → IfRefused (RefusesTurn dialect set line p) w → (r : Reading) → StopsLineAt r w → state.levels ≢ [] → RefusesWithinOrMemory dialect set line state w
so_far-stopped s (Refused e) h r t n = so_far-refused s e h n
so_far-stopped s (LimitReached (Steps context index place)) h r t n = (n, tt)
so_far-stopped s (LimitReached (Turns place)) h r t n = absurd t
so_far-stopped s (LimitReached (Levels place levels)) h r t n = absurd t
so_far-stopped s (LimitReached (Operations place operations)) h r t n = absurd t

-- where a line stands at a limit, its reading comes there
pub stands-there : (set : SyntaxSet) (line : List ℕ) (state : Standing) (limits : Limits) (p : Position) (told many : ℕ) (l : LineLimit) → Reaches dialect set line (at_start state) p → StandsAt limits p told many l → IsThere dialect set line state l
stands-there set line state limits p told many (Steps context index place) r s = absurd s
stands-there set line state limits p told many (Turns place) r s = (length p.levels, record { position = p; reached = r; place_is = s.0; levels_are = refl })
stands-there set line state limits p told many (Levels place levels) r s = record { position = p; reached = r; place_is = s.0; levels_are = s.1 }
stands-there set line state limits p told many (Operations place operations) r s = (length p.levels, record { position = p; reached = r; place_is = s.0; levels_are = refl })

pub unless_stopped : (w : ReadWithinError) (P Q : Type 0) → (P → Q) → UnlessStop P w → UnlessStop Q w
unless_stopped (Refused e) P Q f h = unless_so e P Q f h
unless_stopped (LimitReached l) P Q f h = tt

-- without limits
pub may_refuse : (set : SyntaxSet) (line : List ℕ) (state : Standing) (w : ReadWithinError) → RefusesWithinOrMemory dialect set line state w → RefusesLineOrMemory dialect set line state (refusal_of w)
may_refuse set line state (Refused e) h = h
may_refuse set line state (LimitReached l) h = h.0

pub unless_memory : (w : ReadWithinError) (P : Type 0) → UnlessStop P w → UnlessWanting P (refusal_of w)
unless_memory (Refused e) P h = h
unless_memory (LimitReached l) P h = tt

-- ---- steps ----

left-room : (made most : ℕ) (l : Option ℕ) → option_map (λ k. k + made) l ≡ Some most → made ≤ most
left-room made most None e = cc
left-room made most (Some k) e = let f : k + made ≡ most = cc in omega (arith, f)

-- no more were made than the limit says
pub few_steps : (o : Option ℕ) (r q : Reading) → r.made ≡ 0 → r.left ≡ o → Advances r q → IfSome o (λ most. q.made ≤ most)
few_steps None r q z e a = tt
few_steps (Some n) r q z e a =
    let s : option_map (λ k. k + q.made) q.left ≡ Some (n + r.made) = a.stays ∙ ap (option_map (λ k. k + r.made)) e in
    omega (arith, z, left-room q.made (n + r.made) q.left s)

-- and where none is left as many were made
pub all_steps : (o : Option ℕ) (r q : Reading) → r.made ≡ 0 → r.left ≡ o → Advances r q → q.left ≡ Some 0 → o ≡ Some q.made
all_steps None r q z e a l =
    let s : Some (0 + q.made) ≡ None = sym (ap (option_map (λ k. k + q.made)) l) ∙ a.stays ∙ ap (option_map (λ k. k + r.made)) e in cc
all_steps (Some n) r q z e a l =
    let s : Some (0 + q.made) ≡ Some (n + r.made) = sym (ap (option_map (λ k. k + q.made)) l) ∙ a.stays ∙ ap (option_map (λ k. k + r.made)) e in
    let f : 0 + q.made ≡ n + r.made = cc in
    let g : n ≡ q.made = omega (arith, f, z) in
    ap Some g

-- ---- turns ----

pub stops-here : (limits : Limits) (turns : ℕ) (r : Reading) (w : ReadWithinError) → StopsLineAt r w → ReachesHere limits turns r w
stops-here limits turns r (Refused e) h = tt
stops-here limits turns r (LimitReached (Steps context index place)) h = h
stops-here limits turns r (LimitReached (Turns place)) h = absurd h
stops-here limits turns r (LimitReached (Levels place levels)) h = absurd h
stops-here limits turns r (LimitReached (Operations place operations)) h = absurd h

pub reaches-limit : (limits : Limits) (turns : ℕ) (r q : Reading) (w : ReadWithinError) → r.made ≡ 0 → r.left ≡ limit_of limits.steps → Advances r q
    → ReachesHere limits turns q w → ReachesLimit limits turns q.made w
reaches-limit limits turns r q (Refused e) z e' a h = tt
reaches-limit limits turns r q (LimitReached (Steps context index place)) z e a h = all_steps (limit_of limits.steps) r q z e a h
reaches-limit limits turns r q (LimitReached (Turns place)) z e a h = h
reaches-limit limits turns r q (LimitReached (Levels place levels)) z e a h = h
reaches-limit limits turns r q (LimitReached (Operations place operations)) z e a h = h

few_room : (o : Option ℕ) (turns shown before then : ℕ) → IfSome o (λ most. shown < most) → IfSome o (λ most. most < 18446744073709551616) → (18446744073709551615 < turns → shown ≡ 18446744073709551615)
    → (turns ≤ 18446744073709551615 → shown ≡ turns) → then ≡ before + turns + 1 → IfSome o (λ most. then - before ≤ most)
few_room None turns shown before then m s b e t = tt
few_room (Some most) turns shown before then m s b e t = elim (cases_lt 18446744073709551615 turns) [
  | inl l ↦ absurd (let f : shown ≡ 18446744073709551615 = b l in omega (arith, m, s, f))
  | inr l ↦ let f : shown ≡ turns = e l in omega (arith, m, t, f)
]

-- one turn more is within the limit, where fewer were made
pub few_more : {set : SyntaxSet} {line : List ℕ} {old : Standing} {p : Position} {before made shown : ℕ} → CountSoFar set line old p before made shown → (limit : ℕ)
    → IfSome (limit_of limit) (λ most. shown < most) → IfSome (limit_of limit) (λ most. most < 18446744073709551616) → (then : ℕ) → then ≡ made + 1 → IsWithinLimit limit (then - before)
few_more {before = before} {made = made} {shown = shown} c limit m s then e =
    few_room (limit_of limit) c.turns shown before then m s (λ l. omega (arith, c.told, l)) (λ l. omega (arith, c.told, l)) (omega (arith, c.counted, e))

all_room : (limit turns shown before made : ℕ) → limit ≤ shown → shown ≤ turns → made ≡ before + turns → made - before ≤ limit → limit ≡ made - before
all_room limit turns shown before made l s c w = omega (arith, l, s, c, w)

-- and where the limit is reached as many were made
pub all_turns : {set : SyntaxSet} {line : List ℕ} {old : Standing} {p : Position} {before made shown : ℕ} → CountSoFar set line old p before made shown → (limit : ℕ)
    → limit_of limit ≡ Some limit → limit ≤ shown → IsWithinLimit limit (made - before) → limit_of limit ≡ Some (made - before)
all_turns {before = before} {made = made} {shown = shown} c limit e l w =
    let few : made - before ≤ limit = rw e at w in
    let s : shown ≤ c.turns = omega (arith, c.told) in
    e ∙ ap Some (all_room limit c.turns shown before made l s c.counted few)

few_nought : (o : Option ℕ) (n : ℕ) → IfSome o (λ most. n - n ≤ most)
few_nought None n = tt
few_nought (Some most) n = omega arith

-- none before the first
pub few_none : (limit n : ℕ) → IsWithinLimit limit (n - n)
few_none limit n = few_nought (limit_of limit) n

-- where a line stands at a limit it has reached that
pub stands-here : {set : SyntaxSet} {line : List ℕ} {old : Standing} {p : Position} {before made shown : ℕ} → CountSoFar set line old p before made shown → (limits : Limits) (r : Reading) (many : ℕ) (l : LineLimit)
    → IsWithinLimit limits.turns (made - before) → StandsAt limits p shown many l → ReachesHere limits (made - before) r (LimitReached l)
stands-here c limits r many (Steps context index place) w s = absurd s
stands-here c limits r many (Turns place) w s = all_turns c limits.turns s.1 s.2 w
stands-here c limits r many (Levels place levels) w s = s.2
stands-here c limits r many (Operations place operations) w s = s.2

-- ---- levels ----

-- where all positions that are left keep within a limit, all of the line do
abbrev pub LevelsSoFar : SyntaxSet → List ℕ → Standing → ℕ → Position → Type 0
LevelsSoFar set line state limit p = ((q : Position) → Reaches dialect set line p q → IsWithinLimit limit (length q.levels)) → KeepsLevels dialect set line state limit

goes-on : (set : SyntaxSet) (line : List ℕ) (p q : Position) (b : List Scopes) (P : Position → Type 0) → turn dialect set line p ≡ Goes b q → P p → ((r : Position) → Reaches dialect set line q r → P r) → (r : Position) → Reaches dialect set line p r → P r
goes-on set line p q b P e w h r here = w
goes-on set line p q b P e w h r (further {q = z} {bytes = c} f k) =
    let same : Goes c z ≡ Goes b q = sym f ∙ e in
    let there : z ≡ q = cc in
    h r (subst (λ (x : Position). Reaches dialect set line x r) there k)

ends-there : (set : SyntaxSet) (line : List ℕ) (p : Position) (b : List Scopes) (after : Standing) (P : Position → Type 0) → turn dialect set line p ≡ Ends b after → P p → (r : Position) → Reaches dialect set line p r → P r
ends-there set line p b after P e w r here = w
ends-there set line p b after P e w r (further {q = z} {bytes = c} f k) = let no : Goes c z ≡ Ends b after = sym f ∙ e in cc

pub levels-start : (set : SyntaxSet) (line : List ℕ) (state : Standing) (limit : ℕ) → LevelsSoFar set line state limit (at_start state)
levels-start set line state limit h = h

pub levels-more : (set : SyntaxSet) (line : List ℕ) (state : Standing) (limit : ℕ) (p q : Position) (b : List Scopes) → turn dialect set line p ≡ Goes b q → IsWithinLimit limit (length p.levels) → LevelsSoFar set line state limit p → LevelsSoFar set line state limit q
levels-more set line state limit p q b e w s h = s (goes-on set line p q b (λ x. IsWithinLimit limit (length x.levels)) e w h)

pub levels-end : (set : SyntaxSet) (line : List ℕ) (state : Standing) (limit : ℕ) (p : Position) (b : List Scopes) (after : Standing) → turn dialect set line p ≡ Ends b after → IsWithinLimit limit (length p.levels) → LevelsSoFar set line state limit p
    → KeepsLevels dialect set line state limit
levels-end set line state limit p b after e w s = s (ends-there set line p b after (λ x. IsWithinLimit limit (length x.levels)) e w)
