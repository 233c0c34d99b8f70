use Rattle.std.proofs.Common.{rules, ◌≡◌, ◌∙◌, ap, sym, subst, Some}
use Rattle.std.specs.Prelude.{option_map, IfSome, chars}
use Rattle.syntect_pattern.specs.Sets.{Set}
use Rattle.syntect_pattern.specs.Classes.{Class, adds, next_in, step, class, over, on, all_of}
use Rattle.syntect_pattern_compile.specs.ClassViews.{bracket_as, step_as, IsStepIn, begun, set_as}
use Rattle.syntect_pattern_table.specs.SetTable.{set_in}
use Rattle.syntect_pattern_table.proofs.SetLaws.{grows-trans}
use Rattle.syntect_pattern_compile.proofs.ClassReading.{bracket-grown, class-goes_on, class-ends, class-refuses, class-shorter, class-deep, class-no_first, class-no_rest, class-read}
use Rattle.syntect_pattern_compile.proofs.classes.SetBuilder.+class.Goals as goal

pub class_rest-returns-in-Some-Over-clause-reads : goal.class_rest-returns-in-Some-Over-clause-reads
class_rest-returns-in-Some-Over-clause-reads t c =
    let stepped : step c.args.fold (class c.args.fold c.args.depth) (bracket_as c.steps.self.parts c.steps.bracket) (chars c.steps.text.now) (next_in (chars c.steps.text.now)) ≡ Some (over (chars c.in-Some-Over.rest.now)) =
    c.in_ok-rest.ensures.reads ∙ ap (option_map (step_as c.step.new.self.parts)) c.in-Some-Over.is ∙ ap (λ s. Some (step_as c.step.new.self.parts s)) c.in-Some-Over.field-0-is in
    c.steps.invariant.reads
    ∙ class-ends c.args.fold c.args.depth (bracket_as c.steps.self.parts c.steps.bracket) (chars c.steps.text.now) (chars c.in-Some-Over.rest.now) stepped
    ∙ ap (λ (k : Class). Some (all_of k, (chars c.in-Some-Over.rest.now))) (sym (bracket-grown _ _ c.steps.bracket c.in_ok-rest.ensures.grows c.steps.invariant.inside))
    ∙ ap (λ (a : Set). Some (a, (chars c.in-Some-Over.rest.now))) (sym c.in_ok-set-in-Some-Over.ensures.has.is)

pub class_rest-steps-smaller : goal.class_rest-steps-smaller
class_rest-steps-smaller t c =
    let stepped : step c.args.fold (class c.args.fold c.args.depth) (bracket_as c.steps.self.parts c.steps.bracket) (chars c.steps.text.now) (next_in (chars c.steps.text.now)) ≡ Some (on (bracket_as c.step.new.self.parts c.in-Some-On.next) (chars c.in-Some-On.rest.now)) =
    c.in_ok-rest.ensures.reads ∙ ap (option_map (step_as c.step.new.self.parts)) c.in-Some-On.is ∙ ap (λ s. Some (step_as c.step.new.self.parts s)) c.in-Some-On.field-0-is in
    class-shorter c.args.fold c.args.depth (bracket_as c.steps.self.parts c.steps.bracket) (chars c.steps.text.now) (bracket_as c.step.new.self.parts c.in-Some-On.next) (chars c.in-Some-On.rest.now) stepped

pub class_rest-steps-preserved : goal.class_rest-steps-preserved
class_rest-steps-preserved t c =
    let which = c.in-Some-On.is ∙ ap (λ (s : _). Some s) c.in-Some-On.field-0-is in
    let stepped : step c.args.fold (class c.args.fold c.args.depth) (bracket_as c.steps.self.parts c.steps.bracket) (chars c.steps.text.now) (next_in (chars c.steps.text.now)) ≡ Some (on (bracket_as c.step.new.self.parts c.in-Some-On.next) (chars c.in-Some-On.rest.now)) =
    c.in_ok-rest.ensures.reads ∙ ap (option_map (step_as c.step.new.self.parts)) c.in-Some-On.is ∙ ap (λ s. Some (step_as c.step.new.self.parts s)) c.in-Some-On.field-0-is in
    record {
      utf8 = search rules;
      grows = grows-trans c.args.self.now.parts c.steps.self.parts c.step.new.self.parts c.steps.invariant.grows c.in_ok-rest.ensures.grows;
      inside = subst (λ o. IfSome o (IsStepIn c.step.new.self.parts)) which c.in_ok-rest.ensures.inside;
      reads = c.steps.invariant.reads ∙ class-goes_on c.args.fold c.args.depth (bracket_as c.steps.self.parts c.steps.bracket) (chars c.steps.text.now) (bracket_as c.step.new.self.parts c.in-Some-On.next) (chars c.in-Some-On.rest.now) stepped;
    }

pub class_rest-returns-in-None-clause-reads : goal.class_rest-returns-in-None-clause-reads
class_rest-returns-in-None-clause-reads t c =
    c.steps.invariant.reads ∙ class-refuses c.args.fold c.args.depth (bracket_as c.steps.self.parts c.steps.bracket) (chars c.steps.text.now) (c.in_ok-rest.ensures.reads ∙ ap (option_map (step_as c.step.new.self.parts)) c.in-None.is)

pub class-returns-then-depth-ge-DEEPEST-clause-reads : goal.class-returns-then-depth-ge-DEEPEST-clause-reads
class-returns-then-depth-ge-DEEPEST-clause-reads t c = class-deep c.args.fold c.args.depth (chars c.args.text.now) c.if-depth-ge-DEEPEST.true

pub class-returns-in_default-clause-reads : goal.class-returns-in_default-clause-reads
class-returns-in_default-clause-reads t c =
    class-no_first c.args.fold c.args.depth (chars c.args.text.now) c.if-depth-ge-DEEPEST.false c.start_of-negated.result.0 (chars c.start_of-negated.result.1.now) c.start_of-negated.ensures
    (c.in_ok-bracket.ensures.reads ∙ ap (begun c.first_item.new.self.parts) c.in_default.is)

pub class-returns-in_default-2-clause-reads : goal.class-returns-in_default-2-clause-reads
class-returns-in_default-2-clause-reads t c =
    class-no_rest c.args.fold c.args.depth (chars c.args.text.now) c.if-depth-ge-DEEPEST.false c.start_of-negated.result.0 (chars c.start_of-negated.result.1.now) c.start_of-negated.ensures
    (bracket_as c.first_item.new.self.parts c.in-Some.bracket) (chars c.in-Some.rest.now)
    (c.in_ok-bracket.ensures.reads ∙ ap (begun c.first_item.new.self.parts) c.in-Some.is)
    (c.in_ok-set.ensures.reads ∙ ap (set_as c.class_rest.new.self.parts) c.in_default-2.is)

pub class-returns-clause-reads : goal.class-returns-clause-reads
class-returns-clause-reads t c =
    class-read c.args.fold c.args.depth (chars c.args.text.now) c.if-depth-ge-DEEPEST.false c.start_of-negated.result.0 (chars c.start_of-negated.result.1.now) c.start_of-negated.ensures
    (bracket_as c.first_item.new.self.parts c.in-Some.bracket) (chars c.in-Some.rest.now)
    (c.in_ok-bracket.ensures.reads ∙ ap (begun c.first_item.new.self.parts) c.in-Some.is)
    (set_in c.class_rest.new.self.parts c.in-Some-2.set) (chars c.in-Some-2.rest.now)
    (c.in_ok-set.ensures.reads ∙ ap (set_as c.class_rest.new.self.parts) c.in-Some-2.is)
    ∙ ap (λ (a : Set). Some (a, (chars c.in-Some-2.rest.now))) (sym c.in_ok-set-2.ensures.has.is)

pub step-returns-in_ok-add_leaf-in-Posix-clause-reads : goal.step-returns-in_ok-add_leaf-in-Posix-clause-reads
step-returns-in_ok-add_leaf-in-Posix-clause-reads t c =
    ap (step c.args.fold (class c.args.fold c.args.depth) (bracket_as c.args.self.now.parts c.args.bracket) (chars c.args.text.now)) c.in-Posix.ensures
    ∙ ap (adds c.args.fold (bracket_as c.args.self.now.parts c.args.bracket)) c.posix_item.ensures
    ∙ c.in_ok-add_leaf-in-Posix.ensures.reads c.args.fold

pub step-returns-in_ok-add_leaf-in-Plain-clause-reads : goal.step-returns-in_ok-add_leaf-in-Plain-clause-reads
step-returns-in_ok-add_leaf-in-Plain-clause-reads t c =
    ap (step c.args.fold (class c.args.fold c.args.depth) (bracket_as c.args.self.now.parts c.args.bracket) (chars c.args.text.now)) c.in-Plain.ensures
    ∙ ap (adds c.args.fold (bracket_as c.args.self.now.parts c.args.bracket)) c.plain_item.ensures
    ∙ c.in_ok-add_leaf-in-Plain.ensures.reads c.args.fold
