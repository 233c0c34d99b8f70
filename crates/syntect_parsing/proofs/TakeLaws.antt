-- What a match that is taken makes.
use Rattle.std.proofs.Common.{◌≡◌, ℕ, List, ◌++◌, None, refl, true}
use Rattle.syntect_parsing.specs.syntect_scope.declared.stack.ScopeStackOp.{ScopeStackOp}
use Rattle.syntect_reading_choice.specs.Engine.{dialect}
use Rattle.syntect_parsing.specs.Turn.{position_after}
use Rattle.syntect_reading_choice.specs.Turn.{Live, Take, refusal}
use Rattle.syntect_parsing.specs.Scopes.{captures, scopes_passed}
use Rattle.syntect_parsing.specs.Operations.{operations_of}
use Rattle.syntect_parsing.specs.Orderly.{is_orderly}
use Rattle.syntect_parsing.proofs.RememberLaws.{take_applies}
use Rattle.syntect_parsing.specs.Line.{step}
use Rattle.syntect_reading_choice.specs.Found.{StandsIn}
use Rattle.syntect_parsing.specs.syntect_grammar_contexts.Errors.{MayBe}
use Rattle.syntect_parsing.specs.Step.{MakesStep, RefusesStep}
use Rattle.syntect_parsing.proofs.CaptureLaws.{AreLaidOut, EndOnBoundaries}
use Rattle.syntect_parsing.proofs.ShowLaws.{take_shows, order-match}
use Rattle.syntect_parsing.specs.syntect_grammar.declared.syntax_set.SyntaxSet.{SyntaxSet}
use Rattle.syntect_reading_choice.specs.declared.position.Position.{Position}
use Rattle.syntect_parsing.specs.syntect_grammar_contexts.declared.error.ParsingError.{ParsingError}
use Rattle.syntect_parsing.specs.syntect_grammar_contexts.declared.error.ParsingError.TheVariants as error

pub take_makes : (set : SyntaxSet) (line : List ℕ) (p q : Position) (m : Live) (old new : List (ℕ × ScopeStackOp)) → StandsIn line p.place m.start m.end
    → AreLaidOut m.start m.end (captures dialect m) → EndOnBoundaries line (captures dialect m)
    → refusal set m.pattern ≡ None → new ≡ old ++ operations_of m.start m.end m.pattern.scope (captures dialect m) set p.levels m.pattern.operation → q ≡ position_after set line p m
    → MakesStep (is_orderly set p.levels m.pattern.operation ≡ true) set line (step dialect set line p (Take m)) p q old new
take_makes set line p q m old new s laid on e f g = rw g (record {
  bytes = scopes_passed dialect set p.levels p.place m;
  made = operations_of m.start m.end m.pattern.scope (captures dialect m) set p.levels m.pattern.operation;
  goes = rw e refl;
  added = f;
  shows = λ o r before h. take_shows set line p.levels p.place m r before laid s.from s.ordered o h;
  order = order-match line p.place m.start m.end m.pattern.scope (captures dialect m) set p.levels m.pattern.operation s.from s.ordered s.starts s.ends on;
  apply = take_applies set line m m.start m.end m.pattern.scope (captures dialect m) p.levels m.pattern.operation;
  within = s.within;
  boundary = s.ends;
})

pub take_refused : (set : SyntaxSet) (line : List ℕ) (p : Position) (m : Live) (e : ParsingError) → MayBe (refusal set m.pattern) e → RefusesStep (step dialect set line p (Take m)) e
take_refused set line p m error.Memory h = tt
take_refused set line p m error.MissingMainContext h = rw h refl
take_refused set line p m (error.MissingContext id) h = rw h refl
take_refused set line p m (error.BadMatchIndex i) h = rw h refl
take_refused set line p m (error.UnresolvedContextReference r) h = rw h refl
