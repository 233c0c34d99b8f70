-- One line, read from the states at its start.
use Rattle.std.proofs.Common.{◌≡◌, ℕ, ◌+◌, ◌<◌, ◌^◌, Bool, false, List, length, Result, Ok, Err, sym, ap, subst, ◌∙◌, arith, inl, inr}
use Rattle.std.specs.Borrow.{Bor}
use Rattle.std.proofs.lemmas.Bool.{false≢true}
use Rattle.std.specs.Global.{Vec}
use Rattle.std.specs.declared.ops.Range.{Range}
use Rattle.syntect_buffer.specs.syntect_theme.declared.style.Style.{Style}
use Rattle.syntect_buffer.specs.syntect_theme.declared.theme.Theme.{Theme}
use Rattle.syntect_buffer.specs.syntect_scope.declared.stack.ScopeError.{ScopeError}
use Rattle.syntect_buffer.specs.syntect_parsing.Line.{Accepted, RefusedBy}
use Rattle.syntect_buffer.specs.syntect_parsing.States.{standing}
use Rattle.syntect_buffer.specs.syntect_parsing.declared.within.LineLimit.{LineLimit}
use Rattle.syntect_buffer.specs.syntect_grammar_contexts.declared.error.ParsingError.{ParsingError}
use Rattle.syntect_buffer.specs.syntect_grammar.declared.syntax_set.SyntaxSet.{SyntaxSet}
use Rattle.syntect_buffer.specs.syntect_grammar.declared.error.Error.{Error}
use Rattle.syntect_buffer.specs.syntect_grammar.declared.error.Error.TheVariants as error
use Rattle.syntect_buffer.specs.syntect_easy.Leads.{Past, HoldsSame, IsPast, styles_of, reader_of}
use Rattle.syntect_buffer.specs.syntect_easy.Leads as leads
use Rattle.syntect_buffer.specs.syntect_easy.declared.easy.HighlightLines.{HighlightLines}
use Rattle.syntect_buffer.specs.Answers.{Follow, IsRefusal, styles_in, total, ranges_from}
use Rattle.syntect_buffer.specs.States.{Holds, StandSame, IsLeft}
use Rattle.syntect_buffer.specs.Kept.{IsAnsweredUnlessLimited, IsReadFrom}
use Rattle.syntect_buffer.specs.declared.answer.LineAnswer.{LineAnswer}
use Rattle.syntect_buffer.specs.declared.answer.LineAnswer.TheVariants as answer
use Rattle.syntect_buffer.specs.declared.states.LineStates.{LineStates}
use Rattle.syntect_buffer.proofs.HeldLaws.{alike_here, goes_on_same}
use Rattle.syntect_buffer.proofs.RangeLaws.{ranges_follow, ranges_styled}
use Rattle.syntect_buffer.proofs.ToldLaws.{never_limit}

-- a highlighter was resumed from the states at a line's start
abbrev pub IsResumed : SyntaxSet → Theme → LineStates → HighlightLines → Type 0
IsResumed set theme before h = (past : Past) (k : HighlightLines) → past.theme ≡ theme → IsPast past set k → styles_of k ≡ before.styles → standing (reader_of k) ≡ standing before.reader → IsPast past set h

-- it was given the line
abbrev pub IsGiven : SyntaxSet → HighlightLines → HighlightLines → Bor (List ℕ) → Result (Vec (Style × Bor (List ℕ))) Error → Type 0
IsGiven set h new line r = (past : Past) → IsPast past set h → leads.Continues past set line new r

-- an accepted line
pub accepted_line : (set : SyntaxSet) (theme : Theme) (before : LineStates) (line : Bor (List ℕ)) (h new : HighlightLines) (pieces : Vec (Style × Bor (List ℕ))) (ranges : Vec (Style × Range ℕ)) (after : LineStates)
    → IsResumed set theme before h → IsGiven set h new line (Ok pieces) → (total pieces.items < 2 ^ 64 → ranges.items ≡ ranges_from 0 pieces.items) → length line.now < 2 ^ 64
    → after.styles ≡ styles_of new → after.reader ≡ reader_of new → IsReadFrom set theme before line.now (record { answer = answer.Pieces ranges; after = after; ends_alike = false })
accepted_line set theme before line h new pieces ranges after resumed given cut short s r = record {
  marked = λ m. absurd (false≢true m);
  continues = λ past t k.
      let a = given past (resumed past k.holder t k.is_past k.styles k.reader) in
      let n : total pieces.items ≡ length line.now = ap length a.2.joined in
      let e : ranges.items ≡ ranges_from 0 pieces.items = cut (omega arith) in
      let f : Follow 0 (ranges_from 0 pieces.items) (0 + total pieces.items) = ranges_follow 0 pieces.items a.2.filled in
      let m : 0 + total pieces.items ≡ length line.now = omega arith in
      record {
        given = Accepted a.0;
        holds = record { holder = new; is_past = a.1; styles = sym s; reader = ap standing (sym r) };
        answer = (
          subst (λ (ps : List (Style × Range ℕ)). Follow 0 ps (length line.now)) (sym e) (subst (λ (to : ℕ). Follow 0 (ranges_from 0 pieces.items) to) m f),
          λ o. ap styles_in e ∙ ranges_styled 0 pieces.items ∙ a.3 o,
        );
      };
}

-- a refusal goes on to states that are held after it
goes_on : (set : SyntaxSet) (past : Past) (line : List ℕ) (e : ParsingError) (a : LineAnswer) (after : LineStates) → IsRefusal e a → Holds (leads.and_then past line (RefusedBy e)) set after → IsAnsweredUnlessLimited past set line a after
goes_on set past line e (answer.Pieces ps) after r h = record { given = RefusedBy e; holds = h; answer = r }
goes_on set past line e (answer.Refused x) after r h = record { given = RefusedBy e; holds = h; answer = r }
goes_on set past line e (answer.LimitReached l) after r h = absurd (never_limit e l r)

-- a refused one
pub refused_line : (set : SyntaxSet) (theme : Theme) (before : LineStates) (line : Bor (List ℕ)) (h new : HighlightLines) (e : ParsingError) (a : LineAnswer) (after : LineStates)
    → IsResumed set theme before h → IsGiven set h new line (Err (error.ParsingError e)) → IsRefusal e a
    → after.styles ≡ styles_of new → after.reader ≡ reader_of new → IsReadFrom set theme before line.now (record { answer = a; after = after; ends_alike = false })
refused_line set theme before line h new e a after resumed given refusal s r = record {
  marked = λ m. absurd (false≢true m);
  continues = λ past t k.
      goes_on set past line.now e a after refusal
      (record { holder = new; is_past = given past (resumed past k.holder t k.is_past k.styles k.reader); styles = sym s; reader = ap standing (sym r) });
}

-- one whose operations are refused, as no past has it
pub unshown_line : (set : SyntaxSet) (theme : Theme) (before : LineStates) (line : Bor (List ℕ)) (h new : HighlightLines) (e : ScopeError) (a : LineAnswer) (after : LineStates)
    → IsResumed set theme before h → IsGiven set h new line (Err (error.ScopeError e)) → IsReadFrom set theme before line.now (record { answer = a; after = after; ends_alike = false })
unshown_line set theme before line h new e a after resumed given = record {
  marked = λ m. absurd (false≢true m);
  continues = λ past t k. absurd (given past (resumed past k.holder t k.is_past k.styles k.reader));
}

-- one that reached a limit: what is held stays
pub limited_line : (set : SyntaxSet) (theme : Theme) (before : LineStates) (line : List ℕ) (h new : HighlightLines) (l : LineLimit) (after : LineStates)
    → styles_of h ≡ before.styles → standing (reader_of h) ≡ standing before.reader → HoldsSame h new
    → after.styles ≡ styles_of new → after.reader ≡ reader_of new → IsReadFrom set theme before line (record { answer = answer.LimitReached l; after = after; ends_alike = false })
limited_line set theme before line h new l after s r same x y = record {
  marked = λ m. absurd (false≢true m);
  continues = λ past t k. record {
    holder = k.holder;
    is_past = k.is_past;
    styles = k.styles ∙ sym s ∙ sym same.styles ∙ sym x;
    reader = k.reader ∙ sym r ∙ sym same.reader ∙ sym (ap standing y);
  };
}

-- what a line leaves may be kept as the states before it, where those after it stand alike
pub left_read : (set : SyntaxSet) (theme : Theme) (before : LineStates) (line : List ℕ) (a : LineAnswer) (after left : LineStates) (alike : Bool)
    → IsReadFrom set theme before line (record { answer = a; after = after; ends_alike = false }) → IsLeft before after left alike
    → IsReadFrom set theme before line (record { answer = a; after = left; ends_alike = alike })
left_read set theme before line a after left alike h (inr e) = record {
  marked = λ m. absurd (false≢true (sym e.2 ∙ m));
  continues = λ past t k. subst (λ (s : LineStates). IsAnsweredUnlessLimited past set line a s) (sym e.0) (h.continues past t k);
}
left_read set theme before line a after left alike h (inl same) = record {
  marked = λ m. subst (λ (s : LineStates). StandSame before s) (sym same.0) (alike_here before);
  continues = λ past t k.
      subst (λ (s : LineStates). IsAnsweredUnlessLimited past set line a s) (sym same.0) (goes_on_same theme set past before after line a t k same.1 (h.continues past t k));
}
