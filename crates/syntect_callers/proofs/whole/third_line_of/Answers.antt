use Rattle.std.proofs.Common.{◌≡◌, ℕ, zero, suc, true, [], ◌∷◌, ◌++◌, List, Option, Some, None, Ok, Err, Result, Bor, sym, ap, subst, ◌∙◌, arith}
use Rattle.std.specs.Global.{Vec}
use Rattle.std.specs.Prelude.{All, IfOk, IfErr, IfSome}
use Rattle.syntect_callers.specs.syntect_grammar.Link.{definitions_in}
use Rattle.syntect_callers.specs.syntect_parsing.Refusals.{AreByName}
use Rattle.syntect_callers.specs.syntect_grammar_loader.declared.definition.SyntaxDefinition.{SyntaxDefinition}
use Rattle.syntect_callers.specs.syntect_grammar_contexts.declared.syntax_reference.SyntaxReference.{SyntaxReference}
use Rattle.syntect_callers.specs.syntect_grammar.declared.syntax_set.SyntaxSet.{SyntaxSet}
use Rattle.syntect_callers.specs.syntect_grammar.declared.error.Error.{Error}
use Rattle.syntect_callers.specs.syntect_grammar.declared.error.Error.TheVariants as error
use Rattle.syntect_callers.specs.syntect_theme.declared.style.Style.{Style}
use Rattle.syntect_callers.specs.syntect_theme.declared.theme.Theme.{Theme}
use Rattle.syntect_easy.specs.Built.{IsPlain, IsLoaded, IsSyntaxOfBuilt, StaysInStart}
use Rattle.syntect_callers.specs.Third.{FirstStays, IsRefusal, IsThird}
use Rattle.syntect_callers.specs.Grammars.{Load, IsThirdOf, IsRefusalOf}
use Rattle.syntect_callers.proofs.whole.third_line_of.Goals as goal

abbrev Pieces : Type 0
Pieces = Result (Option (Vec (Style × Bor (List ℕ)))) Error

module _ (repository : List (List ℕ)) (g h : List ℕ) (l : Load repository g h) where
  abbrev both : List SyntaxDefinition
  both = l.one ∷ l.two ∷ []

  two_loaded : All IsLoaded both
  two_loaded zero y k = record { text = g; lines_include_newline = true; fallback = None; repository = repository; left = l.between; loads = l.loads_one }
  two_loaded (suc zero) y k = record { text = h; lines_include_newline = true; fallback = None; repository = l.between; left = l.left; loads = l.loads_two }
  two_loaded (suc (suc n)) y k = absurd (omega arith)

  module _ (theme : Theme) (x y z : List ℕ) where
    shown : (r : Pieces) → IfOk r (λ pieces. IsThird both theme x y z pieces) → IfOk r (λ o. IfSome o (λ pieces. IsThirdOf repository g h theme x y z pieces.items))
    shown (Ok (Some pieces)) k = (l, k)
    shown (Ok None) k = tt
    shown (Err e) k = tt

    shown_of : (ds : List SyntaxDefinition) (r : Pieces) → ds ≡ both → All IsPlain both → (All IsPlain ds → IfOk r (λ pieces. IsThird ds theme x y z pieces))
        → IfOk r (λ o. IfSome o (λ pieces. IsThirdOf repository g h theme x y z pieces.items))
    shown_of ds r f plain k =
        let there : IfOk r (λ pieces. IsThird ds theme x y z pieces) = k (subst (All IsPlain) (sym f) plain) in
        shown r (subst (λ (es : List SyntaxDefinition). IfOk r (λ pieces. IsThird es theme x y z pieces)) f there)

  module _ (lines : List (List ℕ)) where
    named : (e : Error) → IsRefusal both lines e → IsRefusalOf repository g h lines e
    named (error.LoadingError x) k = (l, k)
    named (error.ParsingError x) k = (l, k)
    named (error.ScopeError x) k = (l, k)
    named (error.Fmt x) k = (l, k)
    named (error.Io x) k = (l, k)
    named error.NoSyntax k = (l, k)
    named (error.ParseSyntax e) k = (l, k)
    named (error.ParseScope e) k = (l, k)
    named (error.Pattern e) k = (l, k)
    named error.Memory k = tt

    refused : (r : Pieces) → IfErr r (IsRefusal both lines) → IfErr r (IsRefusalOf repository g h lines)
    refused (Ok o) k = tt
    refused (Err e) k = named e k

    refused_of : (ds : List SyntaxDefinition) (r : Pieces) → ds ≡ both → All IsPlain both → AreByName both → FirstStays both
        → (All IsPlain ds → AreByName ds → FirstStays ds → IfErr r (IsRefusal ds lines)) → IfErr r (IsRefusalOf repository g h lines)
    refused_of ds r f plain by_name stays k =
        let two : All IsPlain both → AreByName both → FirstStays both → IfErr r (IsRefusal both lines)
        = subst (λ (es : List SyntaxDefinition). All IsPlain es → AreByName es → FirstStays es → IfErr r (IsRefusal es lines)) f k in
        refused r (two plain by_name stays)

  first_stays : All IsPlain both → ((set : SyntaxSet) (syntax : SyntaxReference) (definitions : List SyntaxDefinition) → IsSyntaxOfBuilt set syntax definitions → All IsLoaded definitions → StaysInStart set syntax) → FirstStays both
  first_stays plain stay set syntax is m = stay set syntax both (record { links = is; place = 0; among = m; plain = plain }) two_loaded

pub returns-clause-pieces : goal.returns-clause-pieces
returns-clause-pieces c =
    let l : Load c.args.repository.now c.args.grammars.0.now c.args.grammars.1.now = record {
      one = c.in-Ok.first;
      two = c.in-Ok-loaded.second;
      between = c.load_from_str-loaded.new.repository;
      left = c.load_from_str-loaded-2.new.repository;
      loads_one = c.in-Ok.ensures.value;
      loads_two = c.in-Ok-loaded.ensures.value;
    } in
    let held : definitions_in c.add-2.new.self ≡ l.one ∷ l.two ∷ [] = c.in_ok-add-2.ensures.ok ∙ ap (λ (ds : List SyntaxDefinition). ds ++ l.two ∷ []) (c.in_ok-add.ensures.ok ∙ ap (λ (ds : List SyntaxDefinition). ds ++ l.one ∷ []) c.new-builder.ensures.definitions) in
    let ready : All IsLoaded (l.one ∷ l.two ∷ []) = two_loaded c.args.repository.now c.args.grammars.0.now c.args.grammars.1.now l in
    shown_of c.args.repository.now c.args.grammars.0.now c.args.grammars.1.now l c.args.theme.now c.args.lines.0.now c.args.lines.1.now c.args.lines.2.now
    (definitions_in c.add-2.new.self) c.third_line.result held (c.loaded_sets_stay.ensures.plain (l.one ∷ l.two ∷ []) ready) c.third_line.ensures.pieces

pub returns-clause-refused : goal.returns-clause-refused
returns-clause-refused c =
    let l : Load c.args.repository.now c.args.grammars.0.now c.args.grammars.1.now = record {
      one = c.in-Ok.first;
      two = c.in-Ok-loaded.second;
      between = c.load_from_str-loaded.new.repository;
      left = c.load_from_str-loaded-2.new.repository;
      loads_one = c.in-Ok.ensures.value;
      loads_two = c.in-Ok-loaded.ensures.value;
    } in
    let held : definitions_in c.add-2.new.self ≡ l.one ∷ l.two ∷ [] = c.in_ok-add-2.ensures.ok ∙ ap (λ (ds : List SyntaxDefinition). ds ++ l.two ∷ []) (c.in_ok-add.ensures.ok ∙ ap (λ (ds : List SyntaxDefinition). ds ++ l.one ∷ []) c.new-builder.ensures.definitions) in
    let ready : All IsLoaded (l.one ∷ l.two ∷ []) = two_loaded c.args.repository.now c.args.grammars.0.now c.args.grammars.1.now l in
    let plain : All IsPlain (l.one ∷ l.two ∷ []) = c.loaded_sets_stay.ensures.plain (l.one ∷ l.two ∷ []) ready in
    refused_of c.args.repository.now c.args.grammars.0.now c.args.grammars.1.now l (c.args.lines.0.now ∷ c.args.lines.1.now ∷ c.args.lines.2.now ∷ [])
    (definitions_in c.add-2.new.self) c.third_line.result held plain
    (c.loaded_sets_stay.ensures.named (l.one ∷ l.two ∷ []) ready)
    (first_stays c.args.repository.now c.args.grammars.0.now c.args.grammars.1.now l plain c.loaded_sets_stay.ensures.stay) c.third_line.ensures.refused
