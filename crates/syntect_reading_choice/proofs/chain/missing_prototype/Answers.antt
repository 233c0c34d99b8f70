use Rattle.std.proofs.Common.{◌≡◌, ◌++◌, List, Bool, Option, Some, None, find, sym, ◌∙◌, ap, drop, ◌+◌}
use Rattle.std.specs.Prelude.{is_none}
use Rattle.std.specs.Option.{option_or, option_to_list}
use Rattle.std.specs.List.{flat_map}
use Rattle.syntect_reading_choice.specs.syntect_grammar.Contexts.{context_at}
use Rattle.syntect_reading_choice.specs.syntect_grammar_contexts.declared.context.ContextId.{ContextId}
use Rattle.syntect_reading_choice.specs.declared.level.Level.{Level}
use Rattle.syntect_reading_choice.proofs.ListLaws.{find_at}
use Rattle.syntect_reading_choice.proofs.chain.missing_prototype.Goals as goal

pub returns-in-Some : goal.returns-in-Some
returns-in-Some c =
    let f : ContextId → Bool = λ id. is_none (context_at c.args.reader.now.set.now id) in
    let rest : List ContextId = flat_map (λ (l : Level). l.prototypes) (drop (c.loop-level.level-index + 1) c.bringing-level-items.result.now) ++ option_to_list c.args.context.now.prototype in
    let k = find_at f (λ (l : Level). l.prototypes) c.bringing-level-items.result.now (option_to_list c.args.context.now.prototype) c.loop-level.level-index c.level-item.result c.loop-level-test.true c.level-item.is in
    let e : Some c.in-Some.id ≡ find f c.as_slice.result.now = sym c.in-Some.is ∙ c.missing_of.ensures in
    let h : find f c.level-item.result.prototypes ≡ Some c.in-Some.id = ap (λ (ids : List ContextId). find f ids) (sym c.as_slice.ensures) ∙ sym e in
    sym (k ∙ ap (λ (o : Option ContextId). option_or o (find f rest)) h) ∙ c.loop-level.invariant

pub loop-level-preserved : goal.loop-level-preserved
loop-level-preserved c =
    let f : ContextId → Bool = λ id. is_none (context_at c.args.reader.now.set.now id) in
    let rest : List ContextId = flat_map (λ (l : Level). l.prototypes) (drop (c.loop-level.level-index + 1) c.bringing-level-items.result.now) ++ option_to_list c.args.context.now.prototype in
    let k = find_at f (λ (l : Level). l.prototypes) c.bringing-level-items.result.now (option_to_list c.args.context.now.prototype) c.loop-level.level-index c.level-item.result c.loop-level-test.true c.level-item.is in
    let e : None ≡ find f c.as_slice.result.now = sym c.in_default.is ∙ c.missing_of.ensures in
    let h : find f c.level-item.result.prototypes ≡ None = ap (λ (ids : List ContextId). find f ids) (sym c.as_slice.ensures) ∙ sym e in
    sym (k ∙ ap (λ (o : Option ContextId). option_or o (find f rest)) h) ∙ c.loop-level.invariant
