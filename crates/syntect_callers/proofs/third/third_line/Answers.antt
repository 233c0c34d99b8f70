use Rattle.std.proofs.Common.{◌≡◌, [], ◌∷◌, ◌++◌, List, ℕ, Option, Some, None, Err, Bor, sym, ap, ◌∙◌, refl}
use Rattle.std.proofs.lemmas.Result.{err_from_is_err_and}
use Rattle.std.specs.Prelude.{slice_get, map}
use Rattle.std.specs.Option.{option_copied}
use Rattle.syntect_callers.specs.syntect_reading_choice.Engine.{dialect}
use Rattle.syntect_callers.specs.syntect_parsing.Line.{Accepted}
use Rattle.syntect_callers.specs.syntect_parsing.Refusals.{NamesUnresolved}
use Rattle.syntect_callers.specs.syntect_grammar.declared.syntax_set.SyntaxSet.{SyntaxSet}
use Rattle.syntect_callers.specs.syntect_grammar.Link.{definitions_in, linked, syntaxes_in}
use Rattle.syntect_callers.specs.syntect_grammar_loader.declared.definition.SyntaxDefinition.{SyntaxDefinition}
use Rattle.syntect_callers.specs.syntect_grammar_contexts.declared.syntax_reference.SyntaxReference.{SyntaxReference}
use Rattle.syntect_callers.specs.syntect_parsing.States.{standing}
use Rattle.syntect_callers.specs.syntect_grammar_contexts.declared.error.ParsingError.{ParsingError}
use Rattle.syntect_callers.specs.syntect_grammar_contexts.declared.error.ParsingError.TheVariants as parsing
use Rattle.syntect_callers.specs.syntect_theme.declared.theme.Theme.{Theme}
use Rattle.syntect_easy.specs.Built.{IsSyntaxOfBuilt, StaysInStart}
use Rattle.syntect_easy.specs.Leads.{Past, reader_of, Leads, RefusedForUnresolved}
use Rattle.syntect_easy.specs.declared.easy.HighlightLines.{HighlightLines}
use Rattle.syntect_callers.specs.syntect_grammar.declared.error.Error.{Error}
use Rattle.syntect_callers.specs.syntect_grammar.declared.error.Error.TheVariants as error
use Rattle.syntect_callers.specs.Third.{IsRefusal, IsRefusedLine}
use Rattle.syntect_callers.proofs.third.third_line.Goals as goal

none_first : {X : Type 0} (r : Option (Bor X)) (xs : List X) → option_copied r ≡ slice_get xs 0 → ((x : Bor X) → r ≡ Some x → ⊥) → xs ≡ []
none_first None [] e n = refl
none_first None (x ∷ xs) e n = cc
none_first (Some b) xs e n = absurd (n b refl)

no_definitions : (definitions : List SyntaxDefinition) → linked definitions ≡ [] → definitions ≡ []
no_definitions [] e = refl
no_definitions (d ∷ ds) e = cc

-- before the first line
abbrev none : List SyntaxDefinition → Theme → SyntaxReference → Past
none definitions theme syntax = record { definitions = definitions; theme = theme; syntax = syntax; lines = []; answers = [] }

pub returns-in_default-clause-pieces : goal.returns-in_default-clause-pieces
returns-in_default-clause-pieces c = λ plain.
    let e = none_first c.first.result c.syntaxes.result.now c.first.ensures.value c.in_default.not-Some in
    no_definitions (definitions_in c.args.builder) (sym c.in_ok-set.ensures.linked ∙ sym c.syntaxes.ensures ∙ e)

pub returns-clause-pieces : goal.returns-clause-pieces
returns-clause-pieces c = λ plain.
    let theme = c.args.theme.now in
    let definitions : List SyntaxDefinition = definitions_in c.args.builder in
    let syntax = c.in-Some.syntax.now in
    let built : IsSyntaxOfBuilt c.in_ok-set.set syntax definitions = record {
      links = c.in_ok-set.ensures.linked;
      place = 0;
      among = sym (c.in-Some.ensures.value ∙ ap (λ xs. slice_get xs 0) c.syntaxes.ensures);
      plain = plain;
    } in
    let one = c.in_ok-highlight_line.ensures.answered (none definitions theme syntax) (record { built = built; leads = c.in_ok-lines.ensures.leads c.in_ok-set.set }) in
    let two = c.in_ok-highlight_line-2.ensures.answered _ one.1 in
    let three = c.in_ok-highlight_line-3.ensures.answered _ two.1 in
    record {
      set = c.in_ok-set.set;
      is_of = c.in_ok-set.ensures.linked;
      syntax = syntax;
      among = built.among;
      start = three.1.leads.start;
      after = standing (reader_of c.highlight_line-3.new.self);
      bytes_first = one.0;
      bytes_second = two.0;
      bytes = three.0;
      begins = three.1.leads.begins;
      answers = three.1.leads.run;
      joins = three.2;
      styled = three.3;
    }

-- a refused line, after those that were accepted
module _ (definitions : List SyntaxDefinition) (set : SyntaxSet) (theme : Theme) (syntax : SyntaxReference) (before : List (List ℕ)) (bytes : List (List (List (List ℕ)))) (h : HighlightLines) (line : List ℕ) (behind all : List (List ℕ)) where
  refused_line : syntaxes_in set ≡ linked definitions → slice_get (syntaxes_in set) 0 ≡ Some syntax → Leads set theme syntax before (map Accepted bytes) h → before ++ line ∷ behind ≡ all → (e : ParsingError) → NamesUnresolved dialect set line (standing (reader_of h)) e → IsRefusedLine definitions all e
  refused_line is m l s e n = record {
    set = set;
    is_of = is;
    syntax = syntax;
    among = m;
    start = l.start;
    state = standing (reader_of h);
    before = before;
    line = line;
    behind = behind;
    bytes = bytes;
    begins = l.begins;
    splits = s;
    run = l.run;
    names = n;
  }

  another : (r : _) → parsing.MissingMainContext ≡ parsing.UnresolvedContextReference r → ⊥
  another r e = cc

  refusal_of : syntaxes_in set ≡ linked definitions → slice_get (syntaxes_in set) 0 ≡ Some syntax → Leads set theme syntax before (map Accepted bytes) h → before ++ line ∷ behind ≡ all → (e : Error) → RefusedForUnresolved set line h (Err e) → IsRefusal definitions all e
  refusal_of is m l s error.Memory r = tt
  refusal_of is m l s (error.ParsingError parsing.MissingMainContext) r = absurd (another r.0 r.1)
  refusal_of is m l s (error.ParsingError parsing.Memory) r = refused_line is m l s parsing.Memory r
  refusal_of is m l s (error.ParsingError (parsing.MissingContext id)) r = refused_line is m l s (parsing.MissingContext id) r
  refusal_of is m l s (error.ParsingError (parsing.BadMatchIndex i)) r = refused_line is m l s (parsing.BadMatchIndex i) r
  refusal_of is m l s (error.ParsingError (parsing.UnresolvedContextReference x)) r = refused_line is m l s (parsing.UnresolvedContextReference x) r
  refusal_of is m l s (error.ScopeError e) r = absurd r
  refusal_of is m l s (error.LoadingError e) r = absurd r
  refusal_of is m l s (error.Fmt e) r = absurd r
  refusal_of is m l s (error.Io e) r = absurd r
  refusal_of is m l s error.NoSyntax r = absurd r
  refusal_of is m l s (error.ParseSyntax e) r = absurd r
  refusal_of is m l s (error.ParseScope e) r = absurd r
  refusal_of is m l s (error.Pattern e) r = absurd r

pub returns-in_err-highlight_line-clause-refused : goal.returns-in_err-highlight_line-clause-refused
returns-in_err-highlight_line-clause-refused c = λ plain names stays.
    let theme = c.args.theme.now in
    let definitions : List SyntaxDefinition = definitions_in c.args.builder in
    let syntax = c.in-Some.syntax.now in
    let among : slice_get (syntaxes_in c.in_ok-set.set) 0 ≡ Some syntax = sym (c.in-Some.ensures.value ∙ ap (λ xs. slice_get xs 0) c.syntaxes.ensures) in
    let built : IsSyntaxOfBuilt c.in_ok-set.set syntax definitions = record { links = c.in_ok-set.ensures.linked; place = 0; among = among; plain = plain } in
    let stay : StaysInStart c.in_ok-set.set syntax = stays c.in_ok-set.set syntax c.in_ok-set.ensures.linked among in
    let l = c.in_ok-lines.ensures.leads c.in_ok-set.set in
    let p = err_from_is_err_and c.from_residual-in_err-highlight_line.result c.from_residual-in_err-highlight_line.ensures.1 in
    rw (p.1, p.2) (refusal_of definitions c.in_ok-set.set theme syntax [] [] _ c.args.first.now (c.args.second.now ∷ c.args.third.now ∷ []) (c.args.first.now ∷ c.args.second.now ∷ c.args.third.now ∷ []) c.in_ok-set.ensures.linked among l refl _
    (c.in_err-highlight_line.ensures.refused (none definitions theme syntax) (record { built = built; leads = l }) names stay))

pub returns-in_err-highlight_line-2-clause-refused : goal.returns-in_err-highlight_line-2-clause-refused
returns-in_err-highlight_line-2-clause-refused c = λ plain names stays.
    let theme = c.args.theme.now in
    let definitions : List SyntaxDefinition = definitions_in c.args.builder in
    let syntax = c.in-Some.syntax.now in
    let among : slice_get (syntaxes_in c.in_ok-set.set) 0 ≡ Some syntax = sym (c.in-Some.ensures.value ∙ ap (λ xs. slice_get xs 0) c.syntaxes.ensures) in
    let built : IsSyntaxOfBuilt c.in_ok-set.set syntax definitions = record { links = c.in_ok-set.ensures.linked; place = 0; among = among; plain = plain } in
    let stay : StaysInStart c.in_ok-set.set syntax = stays c.in_ok-set.set syntax c.in_ok-set.ensures.linked among in
    let one = c.in_ok-highlight_line.ensures.answered (none definitions theme syntax) (record { built = built; leads = c.in_ok-lines.ensures.leads c.in_ok-set.set }) in
    let p = err_from_is_err_and c.from_residual-in_err-highlight_line-2.result c.from_residual-in_err-highlight_line-2.ensures.1 in
    rw (p.1, p.2) (refusal_of definitions c.in_ok-set.set theme syntax (c.args.first.now ∷ []) (one.0 ∷ []) _ c.args.second.now (c.args.third.now ∷ []) (c.args.first.now ∷ c.args.second.now ∷ c.args.third.now ∷ []) c.in_ok-set.ensures.linked among one.1.leads refl _
    (c.in_err-highlight_line-2.ensures.refused _ one.1 names stay))

pub returns-in_err-highlight_line-3-clause-refused : goal.returns-in_err-highlight_line-3-clause-refused
returns-in_err-highlight_line-3-clause-refused c = λ plain names stays.
    let theme = c.args.theme.now in
    let definitions : List SyntaxDefinition = definitions_in c.args.builder in
    let syntax = c.in-Some.syntax.now in
    let among : slice_get (syntaxes_in c.in_ok-set.set) 0 ≡ Some syntax = sym (c.in-Some.ensures.value ∙ ap (λ xs. slice_get xs 0) c.syntaxes.ensures) in
    let built : IsSyntaxOfBuilt c.in_ok-set.set syntax definitions = record { links = c.in_ok-set.ensures.linked; place = 0; among = among; plain = plain } in
    let stay : StaysInStart c.in_ok-set.set syntax = stays c.in_ok-set.set syntax c.in_ok-set.ensures.linked among in
    let one = c.in_ok-highlight_line.ensures.answered (none definitions theme syntax) (record { built = built; leads = c.in_ok-lines.ensures.leads c.in_ok-set.set }) in
    let two = c.in_ok-highlight_line-2.ensures.answered _ one.1 in
    let p = err_from_is_err_and c.from_residual-in_err-highlight_line-3.result c.from_residual-in_err-highlight_line-3.ensures.1 in
    rw (p.1, p.2) (refusal_of definitions c.in_ok-set.set theme syntax (c.args.first.now ∷ c.args.second.now ∷ []) (one.0 ∷ two.0 ∷ []) _ c.args.third.now [] (c.args.first.now ∷ c.args.second.now ∷ c.args.third.now ∷ []) c.in_ok-set.ensures.linked among two.1.leads refl _
    (c.in_err-highlight_line-3.ensures.refused _ two.1 names stay))
