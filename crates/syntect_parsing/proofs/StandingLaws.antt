-- A text that begins in a context that is never left has the scopes of that context on each byte.
use Rattle.std.proofs.Common.{◌≡◌, ◌≢◌, ℕ, zero, suc, ◌-◌, true, false, List, [], ◌∷◌, ◌++◌, length, Option, Some, None, refl}
use Rattle.std.specs.Prelude.{replicate, map}
use Rattle.std.specs.List.{flat_map, range_with_len}
use Rattle.syntect_reading_choice.specs.Engine.{Engine}
use Rattle.syntect_parsing.specs.syntect_grammar.Contexts.{context_at, part_of}
use Rattle.syntect_reading_choice.specs.Chain.{chain, last, prototypes_in}
use Rattle.syntect_parsing.specs.Turn.{trimmed, without_last, position_after}
use Rattle.syntect_reading_choice.specs.Turn.{Choice, Take, Skip, End, live, missing, refusal, winner, char_len}
use Rattle.syntect_parsing.specs.Scopes.{Scopes, scopes_at, scopes_passed}
use Rattle.syntect_parsing.specs.Visible.{visible, visible_base}
use Rattle.syntect_parsing.specs.Open.{open_scopes, base, ClearsNothing}
use Rattle.syntect_parsing.proofs.StackLaws.{open_is_visible}
use Rattle.syntect_parsing.specs.Line.{Step, Goes, Ends, Refused, turn, turn_on, turn_in, step, unless_refused, Reads, ends, goes, Answer, Answers, accepts, refuses, AnswersAll, none, one_more, at_start, start}
use Rattle.syntect_parsing.specs.Refusals.{IsClosed, IsNeverLeft, stays}
use Rattle.syntect_parsing.specs.Standing.{HaveScopes, GiveScopes, BytesHaveScopes}
use Rattle.syntect_parsing.proofs.RefusalLaws.{AreLevelsFrom, less, not_so, stay_there, turned, read_so, starts_so}
use Rattle.syntect_parsing.specs.syntect_grammar_contexts.declared.context.ContextId.{ContextId}
use Rattle.syntect_parsing.specs.syntect_grammar_contexts.declared.context.MatchOperation.{MatchOperation}
use Rattle.syntect_parsing.specs.syntect_grammar_contexts.declared.context.MatchOperation.TheVariants as op
use Rattle.syntect_parsing.specs.syntect_grammar_contexts.declared.context.Context.{Context}
use Rattle.syntect_parsing.specs.syntect_grammar.declared.syntax_set.SyntaxSet.{SyntaxSet}
use Rattle.syntect_parsing.specs.States.{Standing}
use Rattle.syntect_reading_choice.specs.declared.level.Level.{Level}
use Rattle.syntect_reading_choice.specs.declared.position.Position.{Position}
use Rattle.syntect_parsing.specs.syntect_grammar_contexts.declared.error.ParsingError.{ParsingError}

-- ---- lists of scopes that are not empty ----

some_append : (xs ys : Scopes) → xs ≢ [] → xs ++ ys ≢ []
some_append [] ys h e = h refl
some_append (x ∷ xs) ys h e = cc

have_append : (xs ys : List Scopes) → HaveScopes xs → HaveScopes ys → HaveScopes (xs ++ ys)
have_append [] ys h k = k
have_append (x ∷ xs) ys h k = (h.0, have_append xs ys h.1 k)

have_many : (n : ℕ) (scopes : Scopes) → scopes ≢ [] → HaveScopes (replicate n scopes)
have_many zero scopes h = tt
have_many (suc n) scopes h = (h, have_many n scopes h)

have_each : (f : ℕ → Scopes) (places : List ℕ) → ((n : ℕ) → f n ≢ []) → HaveScopes (map f places)
have_each f [] h = tt
have_each f (n ∷ places) h = (h n, have_each f places h)

module _ (engine : Engine) (set : SyntaxSet) (id : ContextId) (closed : IsClosed set) (left : IsNeverLeft set id) (clear : ClearsNothing set)
    (some : part_of (λ c. c.meta_scope ++ c.meta_content_scope) set id ≢ []) (line : List ℕ) where
  abbrev scopes_of : Level → Scopes
  scopes_of l = part_of (λ c. c.meta_scope ++ c.meta_content_scope) set l.context

  open_some : (levels : List Level) → AreLevelsFrom set id levels → open_scopes set levels ≢ []
  open_some levels s = rw s.are (some_append (scopes_of s.first) (flat_map scopes_of s.rest) (rw s.bottom some))

  base_some : (levels : List Level) (o : MatchOperation) → AreLevelsFrom set id levels → ((x : Level) → levels ≡ x ∷ [] → stays o ≡ true) → base set levels o ≢ []
  base_some levels (op.Push refs) s h = some_append (open_scopes set levels) _ (open_some levels s)
  base_some levels (op.Set refs) s h = some_append (open_scopes set levels) _ (open_some levels s)
  base_some levels op.Pop s h = some_append (open_scopes set (without_last levels)) _ (open_some (without_last levels) (less set id levels s (λ x e. not_so set id false refl (h x e))))
  base_some levels op.None s h = open_some levels s

  visible_some : (levels : List Level) → AreLevelsFrom set id levels → visible set levels ≢ []
  visible_some levels s = rw (open_is_visible set levels clear).0 (open_some levels s)

  visible_base_some : (levels : List Level) (o : MatchOperation) → AreLevelsFrom set id levels → ((x : Level) → levels ≡ x ∷ [] → stays o ≡ true) → visible_base set levels o ≢ []
  visible_base_some levels o s h = rw ((open_is_visible set levels clear).1 o) (base_some levels o s h)

  abbrev Shows : Step → Type 0
  Shows (Goes bytes q) = HaveScopes bytes
  Shows (Ends bytes after) = HaveScopes bytes
  Shows (Refused e) = Unit {0}

  shows_unless : (o : Option ParsingError) (s : Step) → Shows s → Shows (unless_refused o s)
  shows_unless None s h = h
  shows_unless (Some e) s h = tt

  shows_step : (p : Position) (top : Level) (c : Context) (choice : Choice) → AreLevelsFrom set id p.levels → last p.levels ≡ Some top → context_at set top.context ≡ Some c
      → winner line (trimmed p) (live engine line (trimmed p) (chain set (trimmed p) top c)) ≡ choice → Shows (step engine set line (trimmed p) choice)
  shows_step p top c (Take m) s e f w =
      let below : visible_base set p.levels m.pattern.operation ≢ [] = visible_base_some p.levels m.pattern.operation s (stay_there engine set id closed left line p top c m s e f w) in
      shows_unless (refusal set m.pattern) (Goes (scopes_passed engine set p.levels p.place m) (position_after set line (trimmed p) m))
      (have_append _ _ (have_many (m.start - p.place) (visible set p.levels) (visible_some p.levels s))
      (have_each (scopes_at engine (visible_base set p.levels m.pattern.operation) m) (range_with_len m.start (m.end - m.start)) (λ n. some_append (visible_base set p.levels m.pattern.operation ++ m.pattern.scope) _ (some_append (visible_base set p.levels m.pattern.operation) m.pattern.scope below))))
  shows_step p top c Skip s e f w = have_many (char_len line p.place) (visible set p.levels) (visible_some p.levels s)
  shows_step p top c End s e f w = have_many (length line - p.place) (visible set p.levels) (visible_some p.levels s)

  shows_in : (p : Position) (top : Level) (o : Option Context) → AreLevelsFrom set id p.levels → last p.levels ≡ Some top → context_at set top.context ≡ o → Shows (turn_in engine set line (trimmed p) top o)
  shows_in p top None s e f = tt
  shows_in p top (Some c) s e f =
      shows_unless (missing set (prototypes_in (trimmed p) c)) (step engine set line (trimmed p) (winner line (trimmed p) (live engine line (trimmed p) (chain set (trimmed p) top c))))
      (shows_step p top c (winner line (trimmed p) (live engine line (trimmed p) (chain set (trimmed p) top c))) s e f refl)

  shows_on : (p : Position) (o : Option Level) → AreLevelsFrom set id p.levels → last p.levels ≡ o → Shows (turn_on engine set line (trimmed p) o)
  shows_on p None s e = have_many (length line - p.place) (visible set p.levels) (visible_some p.levels s)
  shows_on p (Some top) s e = shows_in p top (context_at set top.context) s e refl

  shows_turn : (p : Position) → AreLevelsFrom set id p.levels → Shows (turn engine set line p)
  unfolding turn
  shows_turn p s = shows_on p (last p.levels) s refl

  have_read : (p : Position) (bytes : List Scopes) (after : Standing) (n : ℕ) → AreLevelsFrom set id p.levels → Reads engine set line p bytes after n → HaveScopes bytes
  have_read p bytes after n s (ends f) = rw f at (shows_turn p s)
  have_read p bytes after n s (goes {q = q} {bytes = here} {rest = rest} {n = i} f h) =
      let t : AreLevelsFrom set id q.levels = rw f at (turned engine set id closed left line p s) in
      let k : HaveScopes here = rw f at (shows_turn p s) in
      have_append here rest k (have_read q rest after i t h)

module _ (engine : Engine) (set : SyntaxSet) (id : ContextId) (closed : IsClosed set) (left : IsNeverLeft set id) (clear : ClearsNothing set)
    (some : part_of (λ c. c.meta_scope ++ c.meta_content_scope) set id ≢ []) where
  give_one : (line : List ℕ) (state next : Standing) (answer : Answer) (others : List Answer) → Answers engine set line state answer next → AreLevelsFrom set id state.levels
      → (AreLevelsFrom set id next.levels → GiveScopes others) → GiveScopes (answer ∷ others)
  give_one line state next answer others (accepts {bytes = bytes} {turns = n} h) s more =
      (have_read engine set id closed left clear some line (at_start state) bytes next n s h.reads, more (read_so engine set id closed left line (at_start state) bytes next n s h.reads))
  give_one line state next answer others (refuses h) s more = more s

  give_all : (lines : List (List ℕ)) (state after : Standing) (answers : List Answer) → AreLevelsFrom set id state.levels → AnswersAll engine set lines state answers after → GiveScopes answers
  give_all lines state after answers s none = tt
  give_all lines state after answers s (one_more {line = line} {lines = rest} {next = next} {answer = answer} {answers = others} a r) =
      give_one line state next answer others a s (λ t. give_all rest next after others t r)

pub bytes_have_scopes : BytesHaveScopes
bytes_have_scopes engine set id lines answers state closed left clear some run = give_all engine set id closed left clear some lines (start id) state answers (starts_so set id left) run
