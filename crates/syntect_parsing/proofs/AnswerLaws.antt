-- A line has no reading and a refusal, and answers go on.
use Rattle.std.proofs.Common.{◌≡◌, ℕ, ◌+◌, List, [], ◌∷◌, ◌++◌, refl, ap, sym, ◌∙◌}
use Rattle.syntect_reading_choice.specs.Engine.{Engine}
use Rattle.syntect_parsing.specs.Scopes.{Scopes}
use Rattle.syntect_parsing.specs.Line.{Answer, Goes, Ends, Refused, turn, Reads, ends, goes, Refuses, now, later, ReadsLine, RefusesLine, no_level, in_turn, none, one_more, at_start}
use Rattle.syntect_parsing.specs.Laws.{NeverBoth, AnswersMore, AnswersJoin, AnswersPart}
use Rattle.syntect_parsing.specs.syntect_grammar.declared.syntax_set.SyntaxSet.{SyntaxSet}
use Rattle.syntect_reading_choice.specs.declared.position.Position.{Position}
use Rattle.syntect_parsing.specs.States.{Standing}
use Rattle.syntect_parsing.specs.syntect_grammar_contexts.declared.error.ParsingError.{ParsingError}

module _ (engine : Engine) (set : SyntaxSet) (line : List ℕ) where
  pub goes_of : (p q : Position) (b bytes : List Scopes) (after : Standing) (n : ℕ) → turn engine set line p ≡ Goes b q → Reads engine set line p bytes after n
      → (rest : List Scopes) × (m : ℕ) × (bytes ≡ b ++ rest) × (n ≡ m + 1) × Reads engine set line q rest after m
  goes_of p q b bytes after n e (ends f) = let k : Ends bytes after ≡ Goes b q = sym f ∙ e in cc
  goes_of p q b bytes after n e (goes {q = q'} {bytes = b'} {rest = rest} {n = m} f r) =
      let k : Goes b' q' ≡ Goes b q = sym f ∙ e in
      let i : b' ≡ b = cc in
      let j : q' ≡ q = cc in
      (rest, m, ap (λ (l : List Scopes). l ++ rest) i, refl, rw (← j) r)

  refused_of : (p : Position) (d : ParsingError) (bytes : List Scopes) (after : Standing) (n : ℕ) → turn engine set line p ≡ Refused d → Reads engine set line p bytes after n → ⊥
  refused_of p d bytes after n e (ends f) = let k : Ends bytes after ≡ Refused d = sym f ∙ e in cc
  refused_of p d bytes after n e (goes {q = q} {bytes = b} f r) = let k : Goes b q ≡ Refused d = sym f ∙ e in cc

  not_both : (p : Position) (bytes : List Scopes) (after : Standing) (e : ParsingError) (m n : ℕ) → Reads engine set line p bytes after m → Refuses engine set line p e n → ⊥
  not_both p bytes after e m n r (now f) = refused_of p e bytes after m f r
  not_both p bytes after e m n r (later {q = q} {bytes = b} {n = j} f h) =
      let k : (rest : List Scopes) × (i : ℕ) × (bytes ≡ b ++ rest) × (m ≡ i + 1) × Reads engine set line q rest after i = goes_of p q b bytes after m f r in
      not_both q k.0 after e k.1 j k.4 h

  pub line_not_both : (state : Standing) (bytes : List Scopes) (after : Standing) (e : ParsingError) (m n : ℕ) → ReadsLine engine set line state bytes after m → RefusesLine engine set line state e n → ⊥
  line_not_both state bytes after e m n r (no_level f) = r.on_levels f
  line_not_both state bytes after e m n r (in_turn f h) = not_both (at_start state) bytes after e m n r.reads h

pub never_both : NeverBoth
never_both engine set line state bytes after e m n r s = line_not_both engine set line state bytes after e m n r s

pub answers_more : AnswersMore
answers_more engine set lines line state next after answers answer none r = one_more r none
answers_more engine set lines line state next after answers answer (one_more {lines = rest} {next = m} {answers = others} h t) r = one_more h (answers_more engine set rest line m next after others answer t r)

pub answers_join : AnswersJoin
answers_join engine set lines more state between after answers others none r = r
answers_join engine set lines more state between after answers others (one_more {lines = rest} {next = m} {answers = tail} h t) r = one_more h (answers_join engine set rest more m between after tail others t r)

pub answers_part : AnswersPart
answers_part engine set [] more state after all r = ([], all, state, refl, none, r)
answers_part engine set (line ∷ lines) more state after all (one_more {next = m} {answer = a} {answers = tail} h t) =
    let k = answers_part engine set lines more m after tail t in
    (a ∷ k.0, k.1, k.2, ap (λ (l : List Answer). a ∷ l) k.3, one_more h k.4, k.5)
