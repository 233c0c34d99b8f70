use Rattle.std.proofs.Common.{length, ◌∙◌, ap, refl, sym, true, unwrap_or}
use Rattle.std.specs.Option.{option_copied}
use Rattle.syntect_reading_choice.specs.ChoiceViews.{member_of}
use Rattle.syntect_reading_choice.proofs.AheadLaws.{adds_counted, adds_lost, adds_none, found_from, groups_counted, none_counted, none_from, none_whole}
use Rattle.syntect_reading_choice.proofs.StepLaws.{tried}
use Rattle.syntect_reading_choice.proofs.sweep.with_entry.Goals as goal

pub returns-then-not-branch-clause-best : goal.returns-then-not-branch-clause-best
returns-then-not-branch-clause-best c = λ ms a n h.
    adds_none c.args.reader.now c.args.place (member_of c.args.entry.now) c.dialect_finds_in_text.ensures c.args.lost.now c.requires.lost c.args.best ms a h
    (none_from c.args.reader.now.line.now c.args.place _ (unwrap_or (option_copied c.args.replaced) c.args.entry.now.pattern.now.regex) _ _ c.in_ok-is_here.field-0 c.requires.text c.in_ok-is_here.ensures.tries c.if-not-branch.true)

pub returns-in_default-clause-best : goal.returns-in_default-clause-best
returns-in_default-clause-best c = λ ms a n h.
    adds_lost c.args.reader.now c.args.place (member_of c.args.entry.now) true c.args.best ms refl
    (none_whole c.args.reader.now (member_of c.args.entry.now) c.args.place c.is_here.new.regions.searched a
    (found_from c.args.reader.now.line.now c.args.place _ (unwrap_or (option_copied c.args.replaced) c.args.entry.now.pattern.now.regex) _ _ c.in_ok-is_here.field-0 c.requires.text c.in_ok-is_here.ensures.tries c.if-not-branch.false)
    (sym c.pos.ensures ∙ c.in_default.is))
    h

pub returns-then-not-counts-clause-best : goal.returns-then-not-counts-clause-best
returns-then-not-counts-clause-best c = λ ms a n h.
    adds_lost c.args.reader.now c.args.place (member_of c.args.entry.now) true c.args.best ms refl
    (none_counted c.args.reader.now (member_of c.args.entry.now) c.args.place c.in-Some.start c.in-Some.end c.is_here.new.regions.searched a
    (found_from c.args.reader.now.line.now c.args.place _ (unwrap_or (option_copied c.args.replaced) c.args.entry.now.pattern.now.regex) _ _ c.in_ok-is_here.field-0 c.requires.text c.in_ok-is_here.ensures.tries c.if-not-branch.false)
    (sym c.pos.ensures ∙ c.in-Some.is) (rw c.len-height.ensures at (sym c.if-not-counts.ensures)))
    h

pub returns-clause-groups : goal.returns-clause-groups
returns-clause-groups c = λ a h.
    groups_counted c.args.reader.now (member_of c.args.entry.now) c.args.place _ c.led_by.result.candidate c.is_here.new.regions.searched c.keep.new.self.best c.led_by.ensures.candidate c.keep.ensures.best a
    (found_from c.args.reader.now.line.now c.args.place _ (unwrap_or (option_copied c.args.replaced) c.args.entry.now.pattern.now.regex) _ _ c.in_ok-is_here.field-0 c.requires.text c.in_ok-is_here.ensures.tries c.if-not-branch.false)
    (sym c.pos.ensures ∙ c.in-Some.is) (rw c.len-height.ensures at (sym c.if-not-counts.ensures)) refl refl
    (ap (λ r. unwrap_or r c.args.entry.now.pattern.now.regex) c.in_ok-substituted.ensures ∙ c.requires.text)

pub returns-clause-best : goal.returns-clause-best
returns-clause-best c = λ ms a n h.
    adds_counted c.args.reader.now c.args.place (member_of c.args.entry.now) c.args.lost.now c.args.best ms _ c.led_by.result c.is_here.new.regions.searched c.requires.order a
    (found_from c.args.reader.now.line.now c.args.place _ (unwrap_or (option_copied c.args.replaced) c.args.entry.now.pattern.now.regex) _ _ c.in_ok-is_here.field-0 c.requires.text c.in_ok-is_here.ensures.tries c.if-not-branch.false)
    (sym c.pos.ensures ∙ c.in-Some.is) (rw c.len-height.ensures at (sym c.if-not-counts.ensures)) refl refl
    (ap (λ r. unwrap_or r c.args.entry.now.pattern.now.regex) c.in_ok-substituted.ensures ∙ c.requires.text)
    h n c.led_by.ensures.start c.led_by.ensures.is_match c.led_by.ensures.candidate

pub returns-then-not-branch-clause-steps : goal.returns-then-not-branch-clause-steps
returns-then-not-branch-clause-steps c = λ w s.
    tried (member_of c.args.entry.now) (unwrap_or (option_copied c.args.replaced) c.args.entry.now.pattern.now.regex) (length c.args.reader.now.line.now) w c.args.regions.now.steps.made c.is_here.new.regions.steps.made
    c.requires.text c.in_ok-is_here.ensures.steps s

pub returns-in_default-clause-steps : goal.returns-in_default-clause-steps
returns-in_default-clause-steps c = λ w s.
    tried (member_of c.args.entry.now) (unwrap_or (option_copied c.args.replaced) c.args.entry.now.pattern.now.regex) (length c.args.reader.now.line.now) w c.args.regions.now.steps.made c.is_here.new.regions.steps.made
    c.requires.text c.in_ok-is_here.ensures.steps s

pub returns-then-not-counts-clause-steps : goal.returns-then-not-counts-clause-steps
returns-then-not-counts-clause-steps c = λ w s.
    tried (member_of c.args.entry.now) (unwrap_or (option_copied c.args.replaced) c.args.entry.now.pattern.now.regex) (length c.args.reader.now.line.now) w c.args.regions.now.steps.made c.is_here.new.regions.steps.made
    c.requires.text c.in_ok-is_here.ensures.steps s

pub returns-clause-steps : goal.returns-clause-steps
returns-clause-steps c = λ w s.
    rw c.keep.ensures.steps (tried (member_of c.args.entry.now) (unwrap_or (option_copied c.args.replaced) c.args.entry.now.pattern.now.regex) (length c.args.reader.now.line.now) w c.args.regions.now.steps.made c.is_here.new.regions.steps.made
    c.requires.text c.in_ok-is_here.ensures.steps s)
