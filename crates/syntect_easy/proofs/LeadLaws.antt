-- One line more.
use Rattle.std.proofs.Common.{◌≡◌, ℕ, List, [], ◌∷◌, ◌++◌, length, refl, sym, ap, subst, arith, append_assoc, ◌∙◌, Option, Some, None, Result, Ok, Err, Bor}
use Rattle.std.specs.Prelude.{OnErr}
use Rattle.std.specs.Global.{Vec}
use Rattle.std.specs.List.{filter_map}
use Rattle.std.specs.Option.{option_map}
use Rattle.syntect_easy.specs.syntect_scope.Stack.{plain}
use Rattle.syntect_easy.specs.syntect_scope.Replay.{AllApply, before_text, replay, bytes_to}
use Rattle.syntect_easy.specs.syntect_scope.declared.stack.ClearAmount.{ClearAmount}
use Rattle.syntect_easy.specs.syntect_scope.declared.stack.ScopeStack.{ScopeStack}
use Rattle.syntect_parsing.specs.Orderly.{IsOrderlyLine}
use Rattle.syntect_parsing.specs.Stacks.{IsAt, Remembers, after_clearing}
use Rattle.syntect_parsing.specs.Visible.{clearing}
use Rattle.syntect_easy.specs.syntect_scope.declared.stack.ScopeStackOp.{ScopeStackOp}
use Rattle.syntect_easy.specs.syntect_scope.declared.stack.ScopeError.{ScopeError}
use Rattle.syntect_easy.specs.syntect_scope.declared.stack.ScopeError.TheVariants as scope
use Rattle.syntect_style.specs.Pieces.{Joins, IsStyled, KeepsTrueStyles, path_of}
use Rattle.syntect_easy.specs.syntect_theme.declared.style.Style.{Style}
use Rattle.syntect_easy.specs.syntect_theme.declared.theme.Theme.{Theme}
use Rattle.syntect_style.specs.declared.state.HighlightState.{HighlightState}
use Rattle.syntect_easy.specs.syntect_reading_choice.Engine.{dialect}
use Rattle.syntect_parsing.specs.Laws.{AnswersMore, StackIsOpen}
use Rattle.syntect_parsing.specs.Line.{Answer, Accepted, RefusedBy, Answers, ReadsLine, accepts, refuses, none, start, start_id, start_of, stack_before, HasPlainStart}
use Rattle.syntect_parsing.specs.Meaning.{Means, Accepts, RefusesLineOrMemory}
use Rattle.syntect_easy.specs.syntect_grammar_contexts.declared.context.ContextId.{ContextId}
use Rattle.syntect_easy.specs.syntect_grammar_contexts.declared.syntax_reference.SyntaxReference.{SyntaxReference}
use Rattle.syntect_easy.specs.syntect_grammar.declared.syntax_set.SyntaxSet.{SyntaxSet}
use Rattle.syntect_parsing.specs.declared.parser.Standing.{Standing}
use Rattle.syntect_parsing.specs.States.{standing}
use Rattle.syntect_easy.specs.syntect_grammar_contexts.declared.error.ParsingError.{ParsingError}
use Rattle.syntect_easy.specs.syntect_grammar_contexts.declared.error.ParsingError.TheVariants as parsing
use Rattle.syntect_easy.specs.syntect_grammar.Passing.{from_parsing, from_scope}
use Rattle.syntect_easy.specs.Leads.{theme_of, styles_of, reader_of, OnlyParsing, HoldsSame, Leads, Past, IsPast, Continues, BeginsPlain, RunsOrderly}
use Rattle.syntect_easy.specs.Built.{IsSyntaxOfBuilt}
use Rattle.syntect_easy.specs.syntect_grammar.declared.error.Error.{Error}
use Rattle.syntect_easy.specs.syntect_grammar.declared.error.Error.TheVariants as error
use Rattle.syntect_easy.specs.declared.easy.HighlightLines.{HighlightLines}

-- what is so anyhow is so of a refusal
pub on_err-any : {V E : Type 0} (r : Result V E) (P : Type 0) → P → OnErr r P
on_err-any (Ok v) P h = tt
on_err-any (Err e) P h = h

-- what `Continues` says, without the definitions
abbrev pub LeadsOn : SyntaxSet → Theme → SyntaxReference → List (List ℕ) → List Answer → Bor (List ℕ) → HighlightLines → Result (Vec (Style × Bor (List ℕ))) Error → Type 0
LeadsOn set theme syntax lines answers line h (Ok pieces) =
    (bytes : List (List (List ℕ))) × Leads set theme syntax (lines ++ line.now ∷ []) (answers ++ Accepted bytes ∷ []) h
    × Joins line.now pieces.items × (RunsOrderly set syntax (lines ++ line.now ∷ []) → IsStyled theme bytes pieces.items)
LeadsOn set theme syntax lines answers line h (Err e) = OnlyParsing (λ e. Leads set theme syntax (lines ++ line.now ∷ []) (answers ++ RefusedBy e ∷ []) h) e

-- ---- before the first line ----

-- at the start the stack is empty
pub starts_empty : (set : SyntaxSet) (id : Option ContextId) (state : Standing) → option_map start id ≡ Some state → stack_before set state ≡ plain []
starts_empty set None state e = cc
starts_empty set (Some id) state e = let f : start id ≡ state = cc in rw (← f) refl

-- what clears an empty stack leaves a list on it
amount_clears : (o : Option ClearAmount) → (after_clearing o (plain [])).clear_stack ≡ [] → o ≡ None
amount_clears None e = refl
amount_clears (Some a) e = cc

-- so a context with a plain start clears nothing
plain_clears : (set : SyntaxSet) (id : ContextId) → HasPlainStart set (start id) → clearing set id ≡ None
plain_clears set id h = amount_clears (clearing set id) (sym (ap (λ (s : ScopeStack). s.clear_stack) h))

pub remembers_none : (set : SyntaxSet) (id : Option ContextId) (state : Standing) (stack : ScopeStack) → option_map start id ≡ Some state → HasPlainStart set state → Remembers set state.levels stack
remembers_none set None state stack e h = cc
remembers_none set (Some id) state stack e h =
    let f : start id ≡ state = cc in
    let c : clearing set id ≡ None = plain_clears set id (subst (HasPlainStart set) (sym f) h) in
    let n : length (filter_map (λ l. clearing set l.context) (start id).levels) ≡ 0 = rw c refl in
    subst (λ (s : Standing). Remembers set s.levels stack) f (omega (arith, n))

pub leads-none : (set : SyntaxSet) (theme : Theme) (syntax : SyntaxReference) (h : HighlightLines) → start_of syntax ≡ Some (standing (reader_of h)) → path_of (styles_of h) ≡ plain [] → theme_of h ≡ theme → KeepsTrueStyles theme (styles_of h)
    → Leads set theme syntax [] [] h
leads-none set theme syntax h b p t k = record {
  start = standing (reader_of h);
  begins = b;
  run = none;
  path = λ _. rw (starts_empty set (start_id syntax) (standing (reader_of h)) b) p;
  remembers = λ plain_start. remembers_none set (start_id syntax) (standing (reader_of h)) (path_of (styles_of h)) b (plain_start (standing (reader_of h)) b);
  theme_is = t;
  keeps = k;
}

-- what led to these states leads to the highlighter of the theme that holds them
pub leads-resumed : (set : SyntaxSet) (theme : Theme) (syntax : SyntaxReference) (lines : List (List ℕ)) (answers : List Answer) (h new : HighlightLines)
    → styles_of h ≡ styles_of new → standing (reader_of h) ≡ standing (reader_of new) → theme_of new ≡ theme → Leads set theme syntax lines answers h → Leads set theme syntax lines answers new
leads-resumed set theme syntax lines answers h new e f t l = record {
  start = l.start;
  begins = l.begins;
  run = rw f at l.run;
  path = λ o. rw (e, f) at (l.path o);
  remembers = λ b. rw (e, f) at (l.remembers b);
  theme_is = t;
  keeps = rw e at l.keeps;
}

-- a past is that of each highlighter that stands at the same place
pub pasts_stay : (past : Past) (set : SyntaxSet) (old new : HighlightLines) → HoldsSame old new → IsPast past set old → IsPast past set new
pasts_stay past set old new s p = record {
  built = p.built;
  leads = leads-resumed set past.theme past.syntax past.lines past.answers old new (sym s.styles) (sym s.reader) (s.theme ∙ p.leads.theme_is) p.leads;
}

-- what holds the states of another one under its theme stands where that one stands
pub states_go_on : (h new : HighlightLines) → styles_of new ≡ styles_of h → reader_of new ≡ reader_of h → theme_of new ≡ theme_of h → HoldsSame h new
states_go_on h new s r t = record { reader = ap standing r; styles = s; theme = t }

-- ---- one line more ----

-- lines before an orderly run's last are one
pub orderly_before : (set : SyntaxSet) (syntax : SyntaxReference) (lines : List (List ℕ)) (line : List ℕ) → RunsOrderly set syntax (lines ++ line ∷ []) → RunsOrderly set syntax lines
orderly_before set syntax lines line o = λ start b before behind at answers next after bytes turns same run reads.
    o start b before (behind ++ line ∷ []) at answers next after bytes turns (ap (λ (xs : List (List ℕ)). xs ++ line ∷ []) same ∙ append_assoc before (at ∷ behind) (line ∷ [])) run reads

-- and its last line, if it is accepted, is orderly from the state that those lead to
orderly_last : (set : SyntaxSet) (theme : Theme) (syntax : SyntaxReference) (lines : List (List ℕ)) (answers : List Answer) (line : List ℕ) (h : HighlightLines) (after : Standing) (bytes : List (List (List ℕ))) (turns : ℕ)
    → RunsOrderly set syntax (lines ++ line ∷ []) → Leads set theme syntax lines answers h → ReadsLine dialect set line (standing (reader_of h)) bytes after turns
    → IsOrderlyLine dialect set line (standing (reader_of h))
orderly_last set theme syntax lines answers line h after bytes turns o l reads = o l.start l.begins lines [] line answers (standing (reader_of h)) after bytes turns refl l.run reads

-- with one more answer, what is held leads on
leads-more : (set : SyntaxSet) (theme : Theme) (syntax : SyntaxReference) (lines : List (List ℕ)) (answers : List Answer) (line : List ℕ) (h new : HighlightLines) (a : Answer) → AnswersMore
    → Leads set theme syntax lines answers h → Answers dialect set line (standing (reader_of h)) a (standing (reader_of new))
    → (RunsOrderly set syntax (lines ++ line ∷ []) → path_of (styles_of new) ≡ stack_before set (standing (reader_of new)))
    → (BeginsPlain set syntax → Remembers set (standing (reader_of new)).levels (path_of (styles_of new))) → theme_of new ≡ theme → KeepsTrueStyles theme (styles_of new)
    → Leads set theme syntax (lines ++ line ∷ []) (answers ++ a ∷ []) new
leads-more set theme syntax lines answers line h new a more l r p m t k = record {
  start = l.start;
  begins = l.begins;
  run = more dialect set lines line l.start (standing (reader_of h)) (standing (reader_of new)) answers a l.run r;
  path = p;
  remembers = m;
  theme_is = t;
  keeps = k;
}

leads-refused : (set : SyntaxSet) (theme : Theme) (syntax : SyntaxReference) (lines : List (List ℕ)) (answers : List Answer) (line : List ℕ) (h next : HighlightLines) (e : ParsingError) → AnswersMore → HoldsSame h next
    → Leads set theme syntax lines answers h → Answers dialect set line (standing (reader_of h)) (RefusedBy e) (standing (reader_of h)) → Leads set theme syntax (lines ++ line ∷ []) (answers ++ RefusedBy e ∷ []) next
leads-refused set theme syntax lines answers line h next e more s l r =
    leads-resumed set theme syntax (lines ++ line ∷ []) (answers ++ RefusedBy e ∷ []) h next (sym s.styles) (sym s.reader) (s.theme ∙ l.theme_is)
    (leads-more set theme syntax lines answers line h h (RefusedBy e) more l r (λ o. l.path (orderly_before set syntax lines line o)) l.remembers l.theme_is l.keeps)

pub lead_refused : (set : SyntaxSet) (theme : Theme) (syntax : SyntaxReference) (lines : List (List ℕ)) (answers : List Answer) (line : Bor (List ℕ)) (h next : HighlightLines) (e : ParsingError) → AnswersMore → HoldsSame h next
    → Leads set theme syntax lines answers h → RefusesLineOrMemory dialect set line.now (standing (reader_of h)) e → LeadsOn set theme syntax lines answers line next (Err (from_parsing e))
lead_refused set theme syntax lines answers line h next parsing.Memory more s l r = tt
lead_refused set theme syntax lines answers line h next parsing.MissingMainContext more s l r = leads-refused set theme syntax lines answers line.now h next parsing.MissingMainContext more s l (refuses r.1)
lead_refused set theme syntax lines answers line h next (parsing.MissingContext id) more s l r = leads-refused set theme syntax lines answers line.now h next (parsing.MissingContext id) more s l (refuses r.1)
lead_refused set theme syntax lines answers line h next (parsing.BadMatchIndex i) more s l r = leads-refused set theme syntax lines answers line.now h next (parsing.BadMatchIndex i) more s l (refuses r.1)
lead_refused set theme syntax lines answers line h next (parsing.UnresolvedContextReference x) more s l r =
    leads-refused set theme syntax lines answers line.now h next (parsing.UnresolvedContextReference x) more s l (refuses r.1)

-- the stack before the line is the open scopes, or empty before the first
plain_here : (set : SyntaxSet) (theme : Theme) (syntax : SyntaxReference) (lines : List (List ℕ)) (answers : List Answer) (h : HighlightLines) → StackIsOpen → BeginsPlain set syntax → Leads set theme syntax lines answers h
    → HasPlainStart set (standing (reader_of h))
plain_here set theme syntax lines answers h opens b l = opens dialect set lines l.start (standing (reader_of h)) answers (b l.start l.begins) l.run

-- operations of an accepted line are never refused
pub lead_unshown : (set : SyntaxSet) (theme : Theme) (syntax : SyntaxReference) (lines : List (List ℕ)) (answers : List Answer) (line : Bor (List ℕ)) (h next : HighlightLines) (new : Standing) (ops : List (ℕ × ScopeStackOp)) (e : ScopeError)
    → BeginsPlain set syntax → Leads set theme syntax lines answers h → Accepts dialect set line.now (standing (reader_of h)) new ops
    → (e ≡ scope.NoClearedScopesToRestore → ¬ AllApply (path_of (styles_of h)) ops) → LeadsOn set theme syntax lines answers line next (Err (from_scope e))
lead_unshown set theme syntax lines answers line h next new ops scope.Memory b l a n = tt
lead_unshown set theme syntax lines answers line h next new ops scope.NoClearedScopesToRestore b l a n =
    n refl (a.means.apply (path_of (styles_of h)) (l.remembers b)).0

-- what the caller of `collect_pieces` holds
pub record Shown (theme : Theme) (line : List ℕ) (old new : HighlightState) (ops : List (ℕ × ScopeStackOp)) (pieces : List (Style × Bor (List ℕ))) : Type 0 where
  pub joins : Joins line pieces
  pub styled : KeepsTrueStyles theme old → IsStyled theme (bytes_to (replay ops (before_text (path_of old))) (length line)) pieces
  pub path : path_of new ≡ (replay ops (before_text (path_of old))).stack
  pub keeps : KeepsTrueStyles theme old → KeepsTrueStyles theme new

pub lead_accepted : (set : SyntaxSet) (theme : Theme) (syntax : SyntaxReference) (lines : List (List ℕ)) (answers : List Answer) (line : Bor (List ℕ)) (h next : HighlightLines)
    (ops : List (ℕ × ScopeStackOp)) (pieces : Vec (Style × Bor (List ℕ))) → AnswersMore → StackIsOpen → BeginsPlain set syntax → Leads set theme syntax lines answers h
    → Accepts dialect set line.now (standing (reader_of h)) (standing (reader_of next)) ops
    → Shown (theme_of h) line.now (styles_of h) (styles_of next) ops pieces.items → theme_of next ≡ theme_of h
    → LeadsOn set theme syntax lines answers line next (Ok pieces)
lead_accepted set theme syntax lines answers line h next ops pieces more opens b l a w t =
    let m : Means dialect set line.now (standing (reader_of h)) (standing (reader_of next)) a.bytes ops = a.means in
    let x : Shown theme line.now (styles_of h) (styles_of next) ops pieces.items = rw l.theme_is at w in (
      a.bytes,
      leads-more set theme syntax lines answers line.now h next (Accepted a.bytes) more l (accepts a.reads)
          (λ o. rw (l.path (orderly_before set syntax lines line.now o)) at x.path ∙ (at_end o).stack)
          (λ p. subst (λ (s : ScopeStack). Remembers set (standing (reader_of next)).levels s) (sym x.path) (m.apply (path_of (styles_of h)) (l.remembers p)).1)
          (t ∙ l.theme_is) (x.keeps l.keeps),
      w.joins,
      λ o.
          let y : IsStyled theme (bytes_to (replay ops (before_text (path_of (styles_of h)))) (length line.now)) pieces.items = x.styled l.keeps in
          rw (at_end o).before at (rw (l.path (orderly_before set syntax lines line.now o)) at y),
    )
  where
    at_end : RunsOrderly set syntax (lines ++ line.now ∷ []) → IsAt (replay ops (before_text (stack_before set (standing (reader_of h))))) (length line.now) a.bytes (stack_before set (standing (reader_of next)))
    at_end o = a.means.shows (plain_here set theme syntax lines answers h opens b l) (orderly_last set theme syntax lines answers line.now h (standing (reader_of next)) a.bytes a.turns o l a.reads)

-- ---- with the past ----

-- the past goes on as the lines do
pub continues : (past : Past) (set : SyntaxSet) (line : Bor (List ℕ)) (h : HighlightLines) (r : Result (Vec (Style × Bor (List ℕ))) Error) → IsSyntaxOfBuilt set past.syntax past.definitions
    → LeadsOn set past.theme past.syntax past.lines past.answers line h r → Continues past set line h r
continues past set line h (Ok pieces) b l = (l.0, record { built = b; leads = l.1 }, l.2, l.3)
continues past set line h (Err (error.ParsingError e)) b l = record { built = b; leads = l }
continues past set line h (Err error.Memory) b l = tt
continues past set line h (Err (error.ScopeError e)) b l = absurd l
continues past set line h (Err (error.LoadingError e)) b l = absurd l
continues past set line h (Err (error.Fmt e)) b l = absurd l
continues past set line h (Err (error.Io e)) b l = absurd l
continues past set line h (Err error.NoSyntax) b l = absurd l
continues past set line h (Err (error.ParseSyntax e)) b l = absurd l
continues past set line h (Err (error.ParseScope e)) b l = absurd l
continues past set line h (Err (error.Pattern e)) b l = absurd l
