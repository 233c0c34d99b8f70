-- How many steps the searches of a line took so far.
use Rattle.std.proofs.Common.{◌≡◌, ℕ, ◌+◌, ◌-◌, ◌*◌, ◌≤◌, List, [], length, Option, Some, sym, ap, subst, ◌∙◌, arith}
use Rattle.std.specs.Option.{option_map_or}
use Rattle.syntect_parsing.specs.syntect_grammar.Contexts.{context_at}
use Rattle.syntect_reading_choice.specs.Chain.{chain, chain_at, last}
use Rattle.syntect_reading_choice.specs.Engine.{dialect}
use Rattle.syntect_reading_choice.specs.Steps.{turn_steps, turn_work, ArePutWithin, AreWithin}
use Rattle.syntect_reading_choice.proofs.StepLaws.{more_room}
use Rattle.syntect_parsing.specs.Bound.{most_turns}
use Rattle.syntect_parsing.specs.Line.{Goes, turn, Reaches, here, further, at_start}
use Rattle.syntect_parsing.specs.Scopes.{Scopes}
use Rattle.syntect_parsing.specs.Turn.{trimmed}
use Rattle.syntect_parsing.specs.Work.{TakesSteps, TakesMostSteps, TakesTurnSteps, UnlessWanting, most_patterns}
use Rattle.syntect_parsing.proofs.BoundLaws.{CountSoFar, count-bound}
use Rattle.syntect_parsing.specs.syntect_grammar_contexts.declared.context.Context.{Context}
use Rattle.syntect_parsing.specs.syntect_grammar.declared.syntax_set.SyntaxSet.{SyntaxSet}
use Rattle.syntect_reading_choice.specs.declared.level.Level.{Level}
use Rattle.syntect_reading_choice.specs.declared.position.Position.{Position}
use Rattle.syntect_parsing.specs.States.{Standing}
use Rattle.syntect_parsing.specs.syntect_grammar_contexts.declared.error.ParsingError.{ParsingError}
use Rattle.syntect_parsing.specs.syntect_grammar_contexts.declared.error.ParsingError.TheVariants as error

-- ---- out of memory ----

-- what holds of a refusal implies what is implied
pub unless_so : (e : ParsingError) (P Q : Type 0) → (P → Q) → UnlessWanting P e → UnlessWanting Q e
unless_so error.Memory P Q f h = tt
unless_so error.MissingMainContext P Q f h = f h
unless_so (error.MissingContext id) P Q f h = f h
unless_so (error.BadMatchIndex i) P Q f h = f h
unless_so (error.UnresolvedContextReference r) P Q f h = f h

-- ---- one turn ----

-- the chain of a turn on this level, with this context
pub chain_known : (set : SyntaxSet) (p : Position) (top : Level) (c : Context) → Some top ≡ last p.levels → Some c ≡ context_at set top.context → chain set p top c ≡ chain_at set p
chain_known set p top c e f =
    sym (ap (λ (o : Option Level). option_map_or (λ t. option_map_or (chain set p t) (context_at set t.context) []) o []) (sym e)
    ∙ ap (λ (o : Option Context). option_map_or (chain set p top) o []) (sym f))

pub no_steps : (set : SyntaxSet) (line : List ℕ) (p : Position) (before : ℕ) → TakesTurnSteps set line p before before
no_steps set line p before most put all few = omega arith

-- a turn with more patterns may take more
more_patterns : (a n most put long : ℕ) → a ≤ n → turn_work a most put long ≤ turn_work n most put long
more_patterns a n most put long l =
    let puts : a * put ≤ n * put = more_room a n put l in
    let steps : turn_steps a most long ≤ turn_steps n most long = more_room (a * most) (n * most) (long + 1) (more_room a n most l) in
    omega (arith, puts, steps)

-- ---- a line so far ----

-- The reading of the line reaches what this position reaches, and the searches of the turns so far
-- are within the bound.
pub record StepsSoFar (set : SyntaxSet) (line : List ℕ) (old : Standing) (p : Position) (turns before made : ℕ) : Type 0 where
  pub reached : (q : Position) → Reaches dialect set line p q → Reaches dialect set line (at_start old) q
  pub took : TakesSteps set line old turns before made

pub steps-start : (set : SyntaxSet) (line : List ℕ) (old : Standing) (turns before : ℕ) → StepsSoFar set line old (at_start old) turns before before
steps-start set line old turns before = record { reached = λ q r. r; took = λ patterns most put h. omega arith }

within : (made then own x : ℕ) → then ≤ made + own → own ≤ x → then ≤ made + x
within made then own x h s = omega (arith, h, s)

one_more : (turns before made then x : ℕ) → made ≤ before + turns * x → then ≤ made + x → then ≤ before + (turns + 1) * x
one_more turns before made then x h s = omega (arith, h, s)

module _ {set : SyntaxSet} {line : List ℕ} {old : Standing} {p : Position} {turns before made then : ℕ} (s : StepsSoFar set line old p turns before made) (t : TakesTurnSteps set line (trimmed p) made then) where
  -- the searches of a turn more
  pub steps-end : (next : ℕ) → next ≡ turns + 1 → TakesSteps set line old next before then
  steps-end next e patterns most put h =
      let x : ℕ = turn_work patterns most put (length line) in
      let looks : (length (chain_at set (trimmed p)) ≤ patterns) × AreWithin (length line) most (chain_at set (trimmed p)) × ArePutWithin put (chain_at set (trimmed p)) = h p (s.reached p here) in
      let own : then ≤ made + turn_work (length (chain_at set (trimmed p))) most put (length line) = t most put looks.1 looks.2 in
      let room : turn_work (length (chain_at set (trimmed p))) most put (length line) ≤ x = more_patterns (length (chain_at set (trimmed p))) patterns most put (length line) looks.0 in
      let one : then ≤ made + x = within made then _ x own room in
      subst (λ (n : ℕ). then ≤ before + n * x) (sym e) (one_more turns before made then x (s.took patterns most put h) one)

  pub steps-more : (q : Position) (b : List Scopes) → turn dialect set line p ≡ Goes b q → (next : ℕ) → next ≡ turns + 1 → StepsSoFar set line old q next before then
  steps-more q b e next f = record { reached = λ r h. s.reached r (further e h); took = steps-end next f }

-- and so many at most
pub few_since : {set : SyntaxSet} {line : List ℕ} {old : Standing} {p : Position} {before made shown : ℕ} → CountSoFar set line old p before made shown → (then : ℕ) → then ≡ made + 1 → then - before ≤ most_turns set line old
few_since c then e = omega (arith, c.counted, count-bound c then e)

-- one turn more was made since the line's start
pub one_since : {set : SyntaxSet} {line : List ℕ} {old : Standing} {p : Position} {before made shown : ℕ} → CountSoFar set line old p before made shown → (then : ℕ) → then ≡ made + 1 → then - before ≡ (made - before) + 1
one_since c then e = omega (arith, c.counted, e)

-- turns were made, and none was taken back
pub no_fewer_since : {set : SyntaxSet} {line : List ℕ} {old : Standing} {p : Position} {before made shown : ℕ} → CountSoFar set line old p before made shown → (then : ℕ) → then ≡ made + 1 → before ≤ then
no_fewer_since c then e = omega (arith, c.counted, e)

-- ---- steps that are counted from none, and added ----

added : (before after begun made most : ℕ) → begun ≡ 0 → after ≡ before + made → made ≤ begun + most → after ≤ before + most
added before after begun made most z e s = omega (arith, z, e, s)

pub steps_since : (set : SyntaxSet) (line : List ℕ) (old : Standing) (turns before after begun made : ℕ) → begun ≡ 0 → after ≡ before + made
    → TakesSteps set line old turns begun made → TakesSteps set line old turns before after
steps_since set line old turns before after begun made z e s = λ patterns most put h. added before after begun made (turns * turn_work patterns most put (length line)) z e (s patterns most put h)

pub most_since : (set : SyntaxSet) (line : List ℕ) (old : Standing) (before after begun made : ℕ) → begun ≡ 0 → after ≡ before + made
    → TakesMostSteps set line old begun made → TakesMostSteps set line old before after
most_since set line old before after begun made z e s = λ each most w a.
    added before after begun made (most_turns set line old * turn_steps (most_patterns set line old each) most (length line)) z e (s each most w a)
