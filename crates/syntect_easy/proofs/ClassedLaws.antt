-- Lines as spans with classes, and pages of them.
use Rattle.std.proofs.Common.{◌≡◌, ℕ, suc, ◌+◌, ◌-◌, ◌<◌, true, false, List, [], ◌∷◌, ◌++◌, Some, refl, sym, ap, subst, ◌∙◌, append_assoc, arith}
use Rattle.std.proofs.lemmas.Bool.{false≢true}
use Rattle.syntect_easy.specs.syntect_scope.Replay.{AllApply, Replay, replay, replayed, before_text}
use Rattle.syntect_easy.specs.syntect_scope.Stack.{applied, plain}
use Rattle.syntect_easy.specs.syntect_scope.declared.stack.ScopeStack.{ScopeStack}
use Rattle.syntect_easy.specs.syntect_scope.declared.stack.ScopeStackOp.{ScopeStackOp}
use Rattle.syntect_easy.specs.syntect_scope.declared.stack.ScopeError.{ScopeError}
use Rattle.syntect_easy.specs.syntect_scope.declared.stack.ScopeError.TheVariants as scope
use Rattle.syntect_writers.specs.Marks.{some_refused, stack_after}
use Rattle.syntect_writers.specs.Classes.{closing_tag}
use Rattle.syntect_easy.specs.syntect_grammar.Passing.{from_parsing, from_scope}
use Rattle.syntect_easy.specs.syntect_grammar.declared.error.Error.{Error}
use Rattle.syntect_easy.specs.syntect_grammar.declared.error.Error.TheVariants as error
use Rattle.syntect_easy.specs.syntect_grammar_contexts.declared.error.ParsingError.{ParsingError}
use Rattle.syntect_easy.specs.syntect_grammar_contexts.declared.error.ParsingError.TheVariants as parsing
use Rattle.syntect_easy.specs.syntect_reading_choice.Engine.{dialect}
use Rattle.syntect_parsing.specs.Meaning.{Accepts, RefusesLineOrMemory}
use Rattle.syntect_parsing.specs.Line.{start_id, start_of}
use Rattle.syntect_parsing.specs.Stacks.{Remembers}
use Rattle.syntect_parsing.specs.declared.parser.Standing.{Standing}
use Rattle.syntect_easy.specs.syntect_grammar_contexts.declared.syntax_reference.SyntaxReference.{SyntaxReference}
use Rattle.syntect_easy.specs.syntect_grammar.declared.syntax_set.SyntaxSet.{SyntaxSet}
use Rattle.syntect_easy.specs.Classed.{RefusesOperations, RefusesLineOf, AddsLine, CanRestore, StaysAt, closing_tags, set_in, state_in, stack_in}
use Rattle.syntect_easy.specs.Leads.{BeginsPlain}
use Rattle.syntect_easy.specs.Promises.{LeadsStack, no_lines, one_more}
use Rattle.syntect_easy.proofs.LeadLaws.{remembers_none}
use Rattle.syntect_easy.specs.declared.classed.ClassedHTMLGenerator.{ClassedHTMLGenerator}

pub operations_refused : (stack : ScopeStack) (ops : List (ℕ × ScopeStackOp)) (e : ScopeError) → (e ≡ scope.NoClearedScopesToRestore → some_refused stack ops ≡ true) → RefusesOperations stack ops (from_scope e)
operations_refused stack ops scope.NoClearedScopesToRestore h = h refl
operations_refused stack ops scope.Memory h = tt

-- one span more is closed
pub closing_step : (n k : ℕ) (whole text new : List ℕ) → k < n → new ≡ text ++ closing_tag → text ++ closing_tags (n - k) ≡ whole → new ++ closing_tags (n - (k + 1)) ≡ whole
closing_step n k whole text new l e h =
    let m : n - k ≡ suc (n - (k + 1)) = omega (arith, l) in
    ap (λ (x : List ℕ). x ++ closing_tags (n - (k + 1))) e ∙ append_assoc text closing_tag (closing_tags (n - (k + 1))) ∙ (rw m at h)

-- a line is refused as its reading is
pub line_refused : (g : ClassedHTMLGenerator) (line : List ℕ) (e : ParsingError) → RefusesLineOrMemory dialect (set_in g) line (state_in g) e → RefusesLineOf g line (from_parsing e)
line_refused g line parsing.Memory r = r
line_refused g line parsing.MissingMainContext r = r
line_refused g line (parsing.MissingContext id) r = r
line_refused g line (parsing.BadMatchIndex i) r = r
line_refused g line (parsing.UnresolvedContextReference x) r = r

-- where all operations apply, none is refused
none_refused : (stack : ScopeStack) (ops : List (ℕ × ScopeStackOp)) → AllApply stack ops → some_refused stack ops ≡ false
none_refused stack [] h = refl
none_refused stack (o ∷ ops) h = rw h.0 (none_refused (applied o.1 stack) ops h.1)

-- or by one of its operations, only where too little is remembered
pub operation_refused : (g : ClassedHTMLGenerator) (line : List ℕ) (after : Standing) (ops : List (ℕ × ScopeStackOp)) (e : Error) → Accepts dialect (set_in g) line (state_in g) after ops
    → RefusesOperations (stack_in g) ops e → RefusesLineOf g line e
operation_refused g line after ops (error.ScopeError e) a r =
    (λ can. false≢true (sym (none_refused (stack_in g) ops (a.means.apply (stack_in g) can).0) ∙ r), after, ops, a, r)
operation_refused g line after ops error.Memory a r = a.reads.on_levels
operation_refused g line after ops (error.ParsingError e) a r = absurd r
operation_refused g line after ops (error.LoadingError e) a r = absurd r
operation_refused g line after ops (error.Fmt e) a r = absurd r
operation_refused g line after ops (error.Io e) a r = absurd r
operation_refused g line after ops error.NoSyntax a r = absurd r
operation_refused g line after ops (error.ParseSyntax e) a r = absurd r
operation_refused g line after ops (error.ParseScope e) a r = absurd r
operation_refused g line after ops (error.Pattern e) a r = absurd r

-- or memory runs out after its reading
pub memory_refused : (g : ClassedHTMLGenerator) (line : List ℕ) (after : Standing) (ops : List (ℕ × ScopeStackOp)) → Accepts dialect (set_in g) line (state_in g) after ops → RefusesLineOf g line error.Memory
memory_refused g line after ops a = a.reads.on_levels

-- ---- what is remembered ----

-- the stack after operations is the one that replaying them leaves
pub replay_stack : (ops : List (ℕ × ScopeStackOp)) (r : Replay) → (replay ops r).stack ≡ stack_after r.stack ops
replay_stack [] r = refl
replay_stack (o ∷ os) r = replay_stack os (replayed r o)

-- an accepted line leaves as much as has to be remembered
pub remembers_on : (set : SyntaxSet) (line : List ℕ) (state next : Standing) (stack : ScopeStack) (ops : List (ℕ × ScopeStackOp)) → Accepts dialect set line state next ops
    → Remembers set state.levels stack → Remembers set next.levels (stack_after stack ops)
remembers_on set line state next stack ops a h =
    subst (λ (s : ScopeStack). Remembers set next.levels s) (replay_stack ops (before_text stack)) (a.means.apply stack h).1

remembers_led : (set : SyntaxSet) (state after : Standing) (stack end : ScopeStack) → LeadsStack set state stack after end → Remembers set state.levels stack → Remembers set after.levels end
remembers_led set _ _ _ _ no_lines h = h
remembers_led set state after stack end (one_more {next = next} {line = line} {ops = ops} a l) h =
    remembers_led set next after (stack_after stack ops) end l (remembers_on set line state next stack ops a h)

pub operations_apply : (set : SyntaxSet) (syntax : SyntaxReference) (start state next : Standing) (stack : ScopeStack) (line : List ℕ) (ops : List (ℕ × ScopeStackOp))
    → BeginsPlain set syntax → start_of syntax ≡ Some start → LeadsStack set start (plain []) state stack → Accepts dialect set line state next ops → AllApply stack ops
operations_apply set syntax start state next stack line ops p b l a =
    (a.means.apply stack (remembers_led set start state (plain []) stack l (remembers_none set (start_id syntax) start (plain []) b (p start b)))).0

-- a new generator can restore
pub new_restores : (set : SyntaxSet) (syntax : SyntaxReference) (g : ClassedHTMLGenerator) → BeginsPlain set syntax → start_of syntax ≡ Some (state_in g) → set_in g ≡ set → CanRestore g
new_restores set syntax g p b e =
    subst (λ (s : SyntaxSet). Remembers s (state_in g).levels (stack_in g)) (sym e) (remembers_none set (start_id syntax) (state_in g) (stack_in g) b (p (state_in g) b))

-- and so can one that goes on, or stays
pub line_restores : (line : List ℕ) (g h : ClassedHTMLGenerator) → AddsLine line g h → CanRestore g → CanRestore h
line_restores line g h a can =
    let k : Remembers (set_in g) (state_in h).levels (stack_after (stack_in g) a.ops) = remembers_on (set_in g) line (state_in g) (state_in h) (stack_in g) a.ops a.accepted can in
    subst (λ (s : SyntaxSet). Remembers s (state_in h).levels (stack_in h)) (sym a.goes_on.set)
    (subst (λ (x : ScopeStack). Remembers (set_in g) (state_in h).levels x) (sym a.stack) k)

pub still_restores : (g h : ClassedHTMLGenerator) → StaysAt g h → CanRestore g → CanRestore h
still_restores g h a can =
    subst (λ (s : SyntaxSet). Remembers s (state_in h).levels (stack_in h)) (sym a.goes_on.set)
    (subst (λ (x : ScopeStack). Remembers (set_in g) (state_in h).levels x) (sym a.stack)
    (subst (λ (t : Standing). Remembers (set_in g) t.levels (stack_in g)) (sym a.state) can))
