use Rattle.std.proofs.Common.{◌≡◌, ◌∙◌, ◌∷◌, ◌++◌, ⊎_elim, length, ap, sym, arith}
use Rattle.std.proofs.lemmas.Grind.{common_steps}
use Rattle.syntect_grammar.specs.Link.{definitions_in, paths_in}
use Rattle.syntect_shelf.specs.Gathering.{paths_from}
use Rattle.syntect_shelf.proofs.LinkingLaws.{appended, path_appended, one_longer, ended, paths_ended}
use Rattle.syntect_shelf.proofs.linking.builder_of.Goals as goal

pub loop-definition-preserved : goal.loop-definition-preserved
loop-definition-preserved c =
    let before = definitions_in c.loop-definition.builder in
    let after = definitions_in c.add_from.new.builder in
    let first : c.loop-definition.definition-iterator.a.rest.items ≡ c.in-Some.definition ∷ c.next.new.self.a.rest.items = c.in-Some.ensures.steps.0.0 in
    let second : c.loop-definition.definition-iterator.b.rest.now ≡ c.in-Some.grammar.now ∷ c.next.new.self.b.rest.now = c.in-Some.ensures.steps.1 in
    let many : length (c.in-Some.definition ∷ c.next.new.self.a.rest.items) ≡ length (c.in-Some.grammar.now ∷ c.next.new.self.b.rest.now)
    = sym (ap length first) ∙ c.loop-definition.invariant.as_many ∙ ap length second in
    record {
      definitions = appended before after c.next.new.self.a.rest.items c.args.definitions.items c.in-Some.definition c.in_ok-add_from.ensures.definitions (sym (ap (λ x. before ++ x) first) ∙ c.loop-definition.invariant.definitions);
      paths = path_appended (length before) (length after) c.in-Some.grammar.now c.next.new.self.b.rest.now (paths_in c.loop-definition.builder) (paths_in c.add_from.new.builder) (paths_from 0 c.args.grammars.now)
          (one_longer before after c.in-Some.definition c.in_ok-add_from.ensures.definitions) c.in_ok-add_from.ensures.paths (sym (ap (λ x. paths_in c.loop-definition.builder ++ paths_from (length before) x) second) ∙ c.loop-definition.invariant.paths);
      as_many = omega (arith, many);
      entries = c.in_ok-add_from.ensures.entries ∙ c.loop-definition.invariant.entries;
      metadata = c.in_ok-add_from.ensures.metadata ∙ c.loop-definition.invariant.metadata;
    }

pub returns-clause-definitions : goal.returns-clause-definitions
returns-clause-definitions c =
    let none : length c.loop-definition.definition-iterator.a.rest.items ≡ 0
    = ⊎_elim (λ h. grind (arith, common_steps, h.1.0)) (λ h. let n : length c.loop-definition.definition-iterator.b.rest.now ≡ 0 = grind (arith, common_steps, h.1.0) in c.loop-definition.invariant.as_many ∙ n) c.in-None.ensures.steps in
    ended (definitions_in c.loop-definition.builder) c.loop-definition.definition-iterator.a.rest.items c.args.definitions.items none c.loop-definition.invariant.definitions

pub returns-clause-paths : goal.returns-clause-paths
returns-clause-paths c =
    let none : length c.loop-definition.definition-iterator.b.rest.now ≡ 0
    = ⊎_elim (λ h. let n : length c.loop-definition.definition-iterator.a.rest.items ≡ 0 = grind (arith, common_steps, h.1.0) in sym c.loop-definition.invariant.as_many ∙ n) (λ h. grind (arith, common_steps, h.1.0)) c.in-None.ensures.steps in
    paths_ended (length (definitions_in c.loop-definition.builder)) (paths_in c.loop-definition.builder) c.loop-definition.definition-iterator.b.rest.now (paths_from 0 c.args.grammars.now) none c.loop-definition.invariant.paths
