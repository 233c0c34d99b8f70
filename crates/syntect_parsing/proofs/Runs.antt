-- What was read of a line so far.
use Rattle.std.proofs.Common.{◌≡◌, ◌≢◌, ℕ, ◌≤◌, ◌<◌, ◌+◌, List, [], ◌++◌, length, false, refl, sym, ap, ◌∙◌, append_assoc, arith}
use Rattle.std.specs.Str.{IsUtf8, IsCharBoundary}
use Rattle.std.proofs.lemmas.Str.{IsCharBoundary-start}
use Rattle.std.proofs.lemmas.List.{append-nil}
use Rattle.syntect_parsing.specs.syntect_scope.declared.stack.ScopeStackOp.{ScopeStackOp}
use Rattle.syntect_parsing.specs.syntect_scope.Replay.{InOrder, AllApply, before_text, replay, pushes}
use Rattle.syntect_reading_choice.specs.Engine.{dialect}
use Rattle.syntect_parsing.specs.Scopes.{Scopes}
use Rattle.syntect_parsing.specs.Stacks.{IsAt, Remembers, onto, stack_of}
use Rattle.syntect_parsing.specs.syntect_scope.declared.stack.ScopeStack.{ScopeStack}
use Rattle.syntect_parsing.specs.Orderly.{IsOrderlyTurn, IsOrderlyLine}
use Rattle.syntect_parsing.proofs.CountLaws.{counts_pushes}
use Rattle.syntect_parsing.specs.Line.{turn, Reads, ends, goes, Refuses, now, later, Reaches, here, further, in_turn, at_start, stack_before, first_push, HasPlainStart}
use Rattle.syntect_parsing.specs.Meaning.{Accepts, RefusesLineOrMemory}
use Rattle.syntect_parsing.specs.Step.{MakesStep, EndsLine, RefusesTurn, turns_left}
use Rattle.syntect_parsing.specs.Bound.{IsTold}
use Rattle.syntect_parsing.proofs.BoundLaws.{CountSoFar, count-start, count-more}
use Rattle.syntect_parsing.proofs.OrderLaws.{order-append, order-pushes, apply-append}
use Rattle.syntect_parsing.proofs.ReplayLaws.{replay-append, at_onto}
use Rattle.syntect_parsing.specs.syntect_grammar.declared.syntax_set.SyntaxSet.{SyntaxSet}
use Rattle.syntect_reading_choice.specs.declared.position.Position.{Position}
use Rattle.syntect_parsing.specs.States.{Standing}
use Rattle.syntect_parsing.specs.syntect_grammar_contexts.declared.error.ParsingError.{ParsingError}
use Rattle.syntect_parsing.specs.syntect_grammar_contexts.declared.error.ParsingError.TheVariants as error

-- from the stack before the line these operations show these bytes, up to the position, and leave
-- its open scopes; the turns made since the number before the line are the first
-- ones of its reading
pub record ReadSoFar (set : SyntaxSet) (line : List ℕ) (old : Standing) (p : Position) (ops : List (ℕ × ScopeStackOp)) (before made told : ℕ) : Type 0 where
  pub count : CountSoFar set line old p before made told
  pub bytes : List Scopes
  pub few : p.idle ≤ 1000
  pub within : p.place ≤ length line
  pub boundary : IsCharBoundary line p.place
  pub order : InOrder line 0 ops p.place
  pub begins : (rest : List (ℕ × ScopeStackOp)) × (ops ≡ pushes 0 (first_push set old) ++ rest)
  pub apply : (stack : ScopeStack) → Remembers set old.levels stack → AllApply stack ops × Remembers set p.levels (replay ops (before_text stack)).stack
  pub orderly : IsOrderlyLine dialect set line old → (q : Position) → Reaches dialect set line p q → IsOrderlyTurn dialect set line q
  pub shown : HasPlainStart set old → IsOrderlyLine dialect set line old → IsAt (replay ops (before_text (stack_before set old))) p.place bytes (stack_of set p.levels)
  pub reads : (rest : List Scopes) (after : Standing) (n : ℕ) → Reads dialect set line p rest after n → (m : ℕ) × Reads dialect set line (at_start old) (bytes ++ rest) after m
  pub refuses : (e : ParsingError) (n : ℕ) → Refuses dialect set line p e n → (m : ℕ) × Refuses dialect set line (at_start old) e m

-- what the first line pushes applies anywhere
first_applies : (set : SyntaxSet) (state : Standing) (stack : ScopeStack) → Remembers set state.levels stack
    → AllApply stack (pushes 0 (first_push set state)) × Remembers set state.levels (replay (pushes 0 (first_push set state)) (before_text stack)).stack
first_applies set state stack h =
    let n : ℕ = length stack.clear_stack in
    let z : length stack.clear_stack ≡ n + 0 = omega arith in
    let x = counts_pushes n 0 (first_push set state) (before_text stack) 0 z in
    (x.0, omega (arith, x.1, h))

pub so_far-start : (set : SyntaxSet) (line : List ℕ) (state : Standing) (before : ℕ) → IsUtf8 line → ReadSoFar set line state (at_start state) (pushes 0 (first_push set state)) before before 0
so_far-start set line state before u = record {
  count = count-start set line state before;
  bytes = [];
  few = omega arith;
  within = omega arith;
  boundary = IsCharBoundary-start line u;
  order = order-pushes line 0 (first_push set state) (IsCharBoundary-start line u);
  begins = ([], sym (append-nil (pushes 0 (first_push set state))));
  apply = λ stack h. first_applies set state stack h;
  orderly = λ o q g. o q g;
  shown = λ h o.
      let k : IsAt (replay (pushes 0 (first_push set state)) (before_text (stack_before set state))) 0 [] (onto (stack_before set state) (first_push set state))
      = at_onto (before_text (stack_before set state)) 0 [] (stack_before set state) (first_push set state) (record { before = refl; stack = refl; count = refl }) in
      rw h at k;
  reads = λ rest after n h. (n, h);
  refuses = λ e n h. (n, h);
}

pub so_far-more : {set : SyntaxSet} {line : List ℕ} {state : Standing} {p q : Position} {old new : List (ℕ × ScopeStackOp)} {before made shown : ℕ}
    → ReadSoFar set line state p old before made shown → MakesStep (IsOrderlyTurn dialect set line p) set line (turn dialect set line p) p q old new
    → (turns_left set line q < turns_left set line p) × (q.idle ≤ 1000) → (then : ℕ) → then ≡ made + 1 → (next : ℕ) → IsTold (shown + 1) next → ReadSoFar set line state q new before then next
so_far-more {set} {line} {state} {p} {q} {old} {new} s t falls then one next more = record {
  count = count-more s.count t.bytes t.goes falls.0 then one next more;
  bytes = s.bytes ++ t.bytes;
  few = falls.1;
  within = t.within;
  boundary = t.boundary;
  order = rw t.added (order-append line 0 p.place q.place old t.made s.order t.order);
  begins = (s.begins.0 ++ t.made, t.added ∙ ap (λ (l : List (ℕ × ScopeStackOp)). l ++ t.made) s.begins.1 ∙ append_assoc (pushes 0 (first_push set state)) s.begins.0 t.made);
  apply = λ stack h.
      let a = s.apply stack h in
      let b = t.apply (replay old (before_text stack)) a.1 in
      rw (t.added, replay-append old t.made) (apply-append old t.made (before_text stack) a.0 b.0, b.1);
  orderly = λ o r g. s.orderly o r (further t.goes g);
  shown = λ h o. rw (t.added, replay-append old t.made) (t.shows (s.orderly o p here) (replay old (before_text (stack_before set state))) s.bytes (s.shown h o));
  reads = λ rest after n h. rw append_assoc (s.reads (t.bytes ++ rest) after (n + 1) (goes t.goes h));
  refuses = λ e n h. s.refuses e (n + 1) (later t.goes h);
}

pub so_far-end : {set : SyntaxSet} {line : List ℕ} {state : Standing} {p q : Position} {old new : List (ℕ × ScopeStackOp)} {before made shown : ℕ}
    → ReadSoFar set line state p old before made shown → EndsLine dialect set line p q old new → state.levels ≢ []
    → Accepts dialect set line state (record { levels = q.levels; cuts = q.cuts; first_line = false }) new
so_far-end {set} {line} {state} {p} {q} {old} {new} s t n =
    let r = s.reads t.bytes (record { levels = q.levels; cuts = q.cuts; first_line = false }) 1 (ends t.ends) in
    record {
      bytes = s.bytes ++ t.bytes;
      turns = r.0;
      reads = record { on_levels = n; reads = r.1 };
      means = record {
        order = rw t.unchanged (rw (append-nil old) at (order-append line 0 p.place (length line) old [] s.order s.within));
        begins = rw t.unchanged s.begins;
        apply = λ stack h. rw (t.unchanged, t.same) (s.apply stack h);
        shows = λ h o. rw (t.unchanged, t.same) (t.shows (replay old (before_text (stack_before set state))) s.bytes (s.shown h o));
        begun = refl;
      };
    }

pub so_far-refused : {set : SyntaxSet} {line : List ℕ} {state : Standing} {p : Position} {ops : List (ℕ × ScopeStackOp)} {before made shown : ℕ}
    → ReadSoFar set line state p ops before made shown → (e : ParsingError) → RefusesTurn dialect set line p e → state.levels ≢ [] → RefusesLineOrMemory dialect set line state e
so_far-refused s error.Memory h n = n
so_far-refused s error.MissingMainContext h n = let r = s.refuses error.MissingMainContext 1 (now h) in (r.0, in_turn n r.1)
so_far-refused s (error.MissingContext id) h n = let r = s.refuses (error.MissingContext id) 1 (now h) in (r.0, in_turn n r.1)
so_far-refused s (error.BadMatchIndex i) h n = let r = s.refuses (error.BadMatchIndex i) 1 (now h) in (r.0, in_turn n r.1)
so_far-refused s (error.UnresolvedContextReference x) h n = let r = s.refuses (error.UnresolvedContextReference x) 1 (now h) in (r.0, in_turn n r.1)
