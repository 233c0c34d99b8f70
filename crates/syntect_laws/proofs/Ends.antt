-- Each line is accepted or refused, within a bound.
use Rattle.std.proofs.Common.{◌≡◌, ◌≢◌, ◌⊎◌, inl, inr, ℕ, zero, suc, ◌+◌, ◌-◌, ◌*◌, ◌≤◌, ◌<◌, List, [], ◌∷◌, length, refl, sym, ◌∙◌, arith}
use Rattle.syntect_laws.specs.syntect_reading_choice.Engine.{Engine}
use Rattle.syntect_laws.specs.syntect_grammar.Contexts.{contexts_of}
use Rattle.syntect_parsing.specs.Scopes.{Scopes}
use Rattle.syntect_parsing.specs.Line.{Step, Goes, Ends, Refused, turn, ReadsLine, RefusesLine, no_level, in_turn, at_start}
use Rattle.syntect_parsing.specs.Laws.{longest}
use Rattle.syntect_laws.specs.ReadingLaws.{turn_bound, EachLineEnds}
use Rattle.syntect_parsing.proofs.Falls.{left, IsReady, Falls, turn_falls}
use Rattle.syntect_laws.proofs.syntect_reading_choice_proofs.Finds.{FindsInOrder, finds_in_order}
use Rattle.syntect_laws.proofs.Run.{Outcome, Accepts, RefusedWith, Unfinished, onto, from_step, run, Means, sound}
use Rattle.syntect_laws.specs.syntect_grammar.declared.syntax_set.SyntaxSet.{SyntaxSet}
use Rattle.syntect_laws.specs.syntect_reading_choice.declared.level.Level.{Level}
use Rattle.syntect_parsing.specs.declared.parser.Standing.{Standing}
use Rattle.syntect_laws.specs.syntect_reading_choice.declared.position.Position.{Position}
use Rattle.syntect_laws.specs.syntect_grammar_contexts.declared.error.ParsingError.{ParsingError}
use Rattle.syntect_laws.specs.syntect_grammar_contexts.declared.error.ParsingError.TheVariants as error

-- ---- a line ----

abbrev IsDone : ℕ → Outcome → Type 0
IsDone k (Accepts bytes after n) = n ≤ k + 1
IsDone k (RefusedWith e n) = n ≤ k + 1
IsDone k Unfinished = ⊥

onto_done : (j k : ℕ) (bytes : List Scopes) (o : Outcome) → j < k → IsDone j o → IsDone k (onto bytes o)
onto_done j k bytes (Accepts rest after n) l h = omega arith
onto_done j k bytes (RefusedWith e n) l h = omega arith
onto_done j k bytes Unfinished l h = h

step_done : (engine : Engine) (set : SyntaxSet) (line : List ℕ) (p : Position) (next : Position → Outcome) (s : Step) → Falls (longest (contexts_of set)) line p s
    → ((q : Position) → IsReady line q → left (longest (contexts_of set)) line q < left (longest (contexts_of set)) line p → IsDone (left (longest (contexts_of set)) line q) (next q))
    → IsDone (left (longest (contexts_of set)) line p) (from_step next s)
step_done engine set line p next (Goes bytes q) h k = onto_done (left (longest (contexts_of set)) line q) (left (longest (contexts_of set)) line p) bytes (next q) h.0 (k q h.1 h.0)
step_done engine set line p next (Ends bytes after) h k = omega arith
step_done engine set line p next (Refused e) h k = omega arith

done : (engine : Engine) (line : List ℕ) → FindsInOrder engine line → (set : SyntaxSet) (k : ℕ) (p : Position) → IsReady line p → left (longest (contexts_of set)) line p < k → IsDone (left (longest (contexts_of set)) line p) (run engine set line k p)
done engine line finds set zero p ready l = absurd (omega arith)
done engine line finds set (suc k) p ready l =
    step_done engine set line p (run engine set line k) (turn engine set line p) (turn_falls engine line finds set p ready) (λ q other h. done engine line finds set k q other (omega arith))

bound : (d r n : ℕ) → (d + (r + 1) * ((1000 - 0) + 1001 * (n - 0))) + 1 ≤ d + (r + 1) * (1001 * (n + 1))
bound d r n =
    let e : 1001 * (n + 1) ≡ ((1000 - 0) + 1001 * (n - 0)) + 1 = omega arith in
    rw e (omega arith)

abbrev Comes : Engine → SyntaxSet → List ℕ → Standing → Type 0
Comes engine set line state =
    ((bytes : List Scopes) × (after : Standing) × (n : ℕ) × ReadsLine engine set line state bytes after n × (n ≤ turn_bound set line state))
    ⊎ ((e : ParsingError) × (n : ℕ) × RefusesLine engine set line state e n × (n ≤ turn_bound set line state))

comes : (engine : Engine) (set : SyntaxSet) (line : List ℕ) (state : Standing) → state.levels ≢ [] → (o : Outcome) → Means engine set line (at_start state) o
    → IsDone (left (longest (contexts_of set)) line (at_start state)) o → Comes engine set line state
comes engine set line state n (Accepts bytes after k) h l =
    inl (bytes, after, k, record { on_levels = n; reads = h }, let b = bound (length state.levels) (longest (contexts_of set)) (length line) in omega arith)
comes engine set line state n (RefusedWith e k) h l = inr (e, k, in_turn n h, let b = bound (length state.levels) (longest (contexts_of set)) (length line) in omega arith)
comes engine set line state n Unfinished h l = absurd l

pub each_line_ends : EachLineEnds
each_line_ends engine finds set line state u = by state.levels refl
  where
    by : (levels : List Level) → state.levels ≡ levels → Comes engine set line state
    by [] e = inr (error.MissingMainContext, 0, no_level e, omega arith)
    by (l ∷ ls) e =
        let n : state.levels ≢ [] = λ h. let k : l ∷ ls ≡ [] = sym e ∙ h in cc in
        let m : ℕ = left (longest (contexts_of set)) line (at_start state) + 1 in
        comes engine set line state n (run engine set line m (at_start state)) (sound engine set line m (at_start state))
        (done engine line (finds_in_order engine finds line u) set m (at_start state) (record { within = omega arith; idle = omega arith }) (omega arith))
