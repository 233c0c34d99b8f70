-- A line has one reading or one refusal.
use Rattle.std.proofs.Common.{◌≡◌, ℕ, ◌+◌, List, [], ◌∷◌, ◌++◌, refl, ap, sym, ◌∙◌}
use Rattle.syntect_laws.specs.syntect_reading_choice.Engine.{Engine}
use Rattle.syntect_parsing.specs.Scopes.{Scopes}
use Rattle.syntect_parsing.specs.Line.{Goes, Ends, Refused, turn, Reads, ends, goes, Refuses, now, later, RefusesLine, no_level, in_turn, Answer, Accepted, RefusedBy, Answers, accepts, refuses, AnswersAll, none, one_more, at_start}
use Rattle.syntect_parsing.proofs.AnswerLaws.{goes_of, line_not_both}
use Rattle.syntect_laws.specs.ReadingLaws.{ReadsOnce, RefusesOnce, AnswersOnce}
use Rattle.syntect_laws.specs.syntect_grammar.declared.syntax_set.SyntaxSet.{SyntaxSet}
use Rattle.syntect_laws.specs.syntect_reading_choice.declared.position.Position.{Position}
use Rattle.syntect_parsing.specs.declared.parser.Standing.{Standing}
use Rattle.syntect_laws.specs.syntect_grammar_contexts.declared.error.ParsingError.{ParsingError}

module _ (engine : Engine) (set : SyntaxSet) (line : List ℕ) where
  -- what reads from a step on
  ends_of : (p : Position) (b bytes : List Scopes) (s after : Standing) (n : ℕ) → turn engine set line p ≡ Ends b s → Reads engine set line p bytes after n → (bytes ≡ b) × (after ≡ s) × (n ≡ 1)
  ends_of p b bytes s after n e (ends f) = let k : Ends bytes after ≡ Ends b s = sym f ∙ e in (cc, cc, refl)
  ends_of p b bytes s after n e (goes {q = q} {bytes = x} f r) = let k : Goes x q ≡ Ends b s = sym f ∙ e in cc

  once : (p : Position) (a b : List Scopes) (x y : Standing) (m n : ℕ) → Reads engine set line p a x m → Reads engine set line p b y n → (a ≡ b) × (x ≡ y) × (m ≡ n)
  once p a b x y m n (ends e) r = let k : (b ≡ a) × (y ≡ x) × (n ≡ 1) = ends_of p a b x y n e r in (sym k.0, sym k.1, sym k.2)
  once p a b x y m n (goes {q = q} {bytes = s} {rest = rest} {n = i} e h) r =
      let k : (others : List Scopes) × (j : ℕ) × (b ≡ s ++ others) × (n ≡ j + 1) × Reads engine set line q others y j = goes_of engine set line p q s b y n e r in
      let o : (rest ≡ k.0) × (x ≡ y) × (i ≡ k.1) = once q rest k.0 x y i k.1 h k.4 in
      (ap (λ (l : List Scopes). s ++ l) o.0 ∙ sym k.2, o.1, ap (λ (l : ℕ). l + 1) o.2 ∙ sym k.3)

  now_of : (p : Position) (d e : ParsingError) (n : ℕ) → turn engine set line p ≡ Refused d → Refuses engine set line p e n → (d ≡ e) × (1 ≡ n)
  now_of p d e n f (now g) = let k : Refused d ≡ Refused e = sym f ∙ g in (cc, refl)
  now_of p d e n f (later {q = q} {bytes = b} g h) = let k : Refused d ≡ Goes b q = sym f ∙ g in cc

  later_of : (p q : Position) (b : List Scopes) (e : ParsingError) (n : ℕ) → turn engine set line p ≡ Goes b q → Refuses engine set line p e n → (m : ℕ) × (n ≡ m + 1) × Refuses engine set line q e m
  later_of p q b e n f (now g) = let k : Goes b q ≡ Refused e = sym f ∙ g in cc
  later_of p q b e n f (later {q = q'} {bytes = b'} {n = m} g h) =
      let k : Goes b' q' ≡ Goes b q = sym g ∙ f in
      let j : q' ≡ q = cc in
      (m, refl, rw (← j) h)

  refused_once : (p : Position) (d e : ParsingError) (m n : ℕ) → Refuses engine set line p d m → Refuses engine set line p e n → (d ≡ e) × (m ≡ n)
  refused_once p d e m n (now f) r = now_of p d e n f r
  refused_once p d e m n (later {q = q} {bytes = b} {n = i} f h) r =
      let k : (j : ℕ) × (n ≡ j + 1) × Refuses engine set line q e j = later_of p q b e n f r in
      let o : (d ≡ e) × (i ≡ k.0) = refused_once q d e i k.0 h k.2 in
      (o.0, ap (λ (l : ℕ). l + 1) o.1 ∙ sym k.1)

  line_refused_once : (state : Standing) (d e : ParsingError) (m n : ℕ) → RefusesLine engine set line state d m → RefusesLine engine set line state e n → (d ≡ e) × (m ≡ n)
  line_refused_once state d e m n (no_level f) (no_level g) = (refl, refl)
  line_refused_once state d e m n (no_level f) (in_turn g r) = absurd (g f)
  line_refused_once state d e m n (in_turn f r) (no_level g) = absurd (f g)
  line_refused_once state d e m n (in_turn f r) (in_turn g s) = refused_once (at_start state) d e m n r s

  answered_once : (state : Standing) (a b : Answer) (x y : Standing) → Answers engine set line state a x → Answers engine set line state b y → (a ≡ b) × (x ≡ y)
  answered_once state a b x y (accepts {bytes = c} {turns = m} r) (accepts {bytes = d} {turns = n} s) =
      let k : (c ≡ d) × (x ≡ y) × (m ≡ n) = once (at_start state) c d x y m n r.reads s.reads in (ap Accepted k.0, k.1)
  answered_once state a b x y (accepts {bytes = c} {turns = m} r) (refuses {e = e} {turns = n} s) = absurd (line_not_both engine set line state c x e m n r s)
  answered_once state a b x y (refuses {e = e} {turns = n} s) (accepts {bytes = c} {turns = m} r) = absurd (line_not_both engine set line state c y e m n r s)
  answered_once state a b x y (refuses {e = d} {turns = m} r) (refuses {e = e} {turns = n} s) = let k : (d ≡ e) × (m ≡ n) = line_refused_once state d e m n r s in (ap RefusedBy k.0, refl)

pub reads_once : ReadsOnce
reads_once engine set line state a b x y m n r s = once engine set line (at_start state) a b x y m n r.reads s.reads

pub refuses_once : RefusesOnce
refuses_once engine set line state d e m n r s = line_refused_once engine set line state d e m n r s

first_of_all : (engine : Engine) (set : SyntaxSet) (line : List ℕ) (lines : List (List ℕ)) (state : Standing) (b : List Answer) (y : Standing) → AnswersAll engine set (line ∷ lines) state b y
    → (answer : Answer) × (answers : List Answer) × (next : Standing) × (b ≡ answer ∷ answers) × Answers engine set line state answer next × AnswersAll engine set lines next answers y
first_of_all engine set line lines state b y (one_more {next = next} {answer = answer} {answers = answers} h r) = (answer, answers, next, refl, h, r)

none_of_all : (engine : Engine) (set : SyntaxSet) (state : Standing) (b : List Answer) (y : Standing) → AnswersAll engine set [] state b y → (b ≡ []) × (y ≡ state)
none_of_all engine set state b y none = (refl, refl)

pub answers_once : AnswersOnce
answers_once engine set lines state a b x y none s = let k : (b ≡ []) × (y ≡ state) = none_of_all engine set state b y s in (sym k.0, sym k.1)
answers_once engine set lines state a b x y (one_more {line = line} {lines = rest} {next = next} {answer = answer} {answers = answers} h r) s =
    let k : (other : Answer) × (others : List Answer) × (next' : Standing) × (b ≡ other ∷ others) × Answers engine set line state other next' × AnswersAll engine set rest next' others y = first_of_all engine set line rest state b y s in
    let o : (answer ≡ k.0) × (next ≡ k.2) = answered_once engine set line state answer k.0 next k.2 h k.4 in
    let i : (answers ≡ k.1) × (x ≡ y) = answers_once engine set rest next answers k.1 x y r (rw (o.1) k.5) in
    (cc, i.1)
