use Rattle.std.proofs.Common.{◌≡◌, zero, suc, true, [], ◌∷◌, ◌++◌, List, None, Ok, sym, ap, ◌∙◌, arith}
use Rattle.std.specs.Prelude.{slice_get, All}
use Rattle.syntect_callers.specs.syntect_grammar.Link.{definitions_in, linked, syntaxes_in}
use Rattle.syntect_callers.specs.syntect_grammar_loader.Loading.{loaded}
use Rattle.syntect_callers.specs.syntect_grammar_loader.declared.definition.SyntaxDefinition.{SyntaxDefinition}
use Rattle.syntect_easy.specs.Built.{IsPlain, IsSyntaxOfBuilt}
use Rattle.syntect_callers.proofs.whole.page_of.Goals as goal

one_plain : (d : SyntaxDefinition) → IsPlain d → All IsPlain (d ∷ [])
one_plain d p zero y l = p
one_plain d p (suc k) y l = absurd (omega arith)

pub returns : goal.returns
returns c =
    let d : SyntaxDefinition = c.in-Ok.definition in
    let syntax = c.in-Some.syntax.now in
    let left = c.load_from_str-loaded.new.repository in
    let loads : loaded c.args.grammar.now true None c.args.repository.now ≡ Ok (d, left) = c.in-Ok.ensures.value in
    let held : definitions_in c.add.new.self ≡ d ∷ [] = c.in_ok-add.ensures.ok ∙ ap (λ (ds : List SyntaxDefinition). ds ++ d ∷ []) c.new-builder.ensures.definitions in
    let is : syntaxes_in c.in_ok-set.set ≡ linked (d ∷ []) = c.in_ok-set.ensures.linked ∙ ap linked held in
    let built : IsSyntaxOfBuilt c.in_ok-set.set syntax (d ∷ []) = record {
      links = is;
      place = 0;
      among = sym (c.in-Some.ensures.value ∙ ap (λ xs. slice_get xs 0) c.syntaxes.ensures);
      plain = one_plain d (c.loaded_is_plain.ensures c.args.grammar.now true None c.args.repository.now d left loads);
    } in
    record {
      definition = d;
      left = left;
      loads = loads;
      set = c.in_ok-set.set;
      is_of = is;
      syntax = syntax;
      among = built.among;
      shows = c.in_ok-page.ensures.page (d ∷ []) built;
    }
