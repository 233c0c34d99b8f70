use Rattle.std.proofs.Common.{◌≡◌, ℕ, Bool, List, Option, false, length, get_or, ap, refl, sym, subst, ◌∙◌, arith}
use Rattle.std.specs.Option.{option_copied}
use Rattle.syntect_reading_choice.specs.syntect_grammar_contexts.declared.context.MatchPattern.{MatchPattern}
use Rattle.syntect_reading_choice.specs.syntect_grammar_lists.Slims.{nothing, origin_of}
use Rattle.syntect_reading_choice.specs.syntect_grammar_lists.declared.flats.Flat.{Flat}
use Rattle.syntect_reading_choice.specs.syntect_grammar_lists.declared.flats.Origin.{Origin}
use Rattle.syntect_reading_choice.specs.syntect_grammar.Flats.{pattern_at}
use Rattle.syntect_reading_choice.specs.syntect_grammar.declared.syntax_set.SyntaxSet.{SyntaxSet}
use Rattle.syntect_reading_choice.specs.Ahead.{IsAhead, list_in}
use Rattle.syntect_reading_choice.specs.Parts.{part_member}
use Rattle.syntect_reading_choice.proofs.StepLaws.{within_in}
use Rattle.syntect_reading_choice.proofs.sweep.with_pattern.Goals as goal

-- a pattern that stands there
flat_of : Origin → Flat
flat_of o = record { begins = nothing; words = nothing; blanks = nothing; at_edges = false; at_lines = false; context = o.context; index = o.index; has_captures = false }

-- the pattern at an index of a list is the one that was found where that stands
found_at : (set : SyntaxSet) (here flats : List Flat) (index : ℕ) (origin : Origin) (found : Option MatchPattern) → here ≡ flats → ((d : Flat) → origin ≡ origin_of (get_or here index d))
    → ((flat : Flat) → origin_of flat ≡ origin → found ≡ pattern_at set flat) → (d : Flat) → pattern_at set (get_or flats index d) ≡ found
found_at set here flats index origin found e at of d = sym (of (get_or flats index d) (sym (subst (λ fs. origin ≡ origin_of (get_or fs index d)) e (at d))))

pub with_entry-requires-clause-text : goal.with_entry-requires-clause-text
with_entry-requires-clause-text c =
    let flat : Flat = flat_of c.origin_at-origin.result in
    rw c.replaced_at-replaced.ensures
    (c.requires.run.replaced c.args.index flat c.in-Some.pattern.now c.requires.inside
    (found_at c.args.reader.now.set.now c.list_in.result.now (list_in c.args.run.now.flats) c.args.index c.origin_at-origin.result (option_copied c.pattern_at.result) c.list_in.ensures c.origin_at-origin.ensures
    c.pattern_at.ensures flat ∙ ap option_copied c.in-Some.is))

pub returns-clause-groups : goal.returns-clause-groups
returns-clause-groups c = λ ahead.
    let flat : Flat = flat_of c.origin_at-origin.result in
    c.in_ok-best.ensures.groups
    (subst (λ (t : Bool). IsAhead c.args.reader.now t c.args.place (part_member c.args.run.now.part c.in-Some.pattern.now)) (sym c.if-has.ensures)
    (ahead c.args.index flat c.in-Some.pattern.now (omega arith) c.requires.inside
    (found_at c.args.reader.now.set.now c.list_in.result.now (list_in c.args.run.now.flats) c.args.index c.origin_at-origin.result (option_copied c.pattern_at.result) c.list_in.ensures c.origin_at-origin.ensures
    c.pattern_at.ensures flat ∙ ap option_copied c.in-Some.is)))

pub returns-clause-steps : goal.returns-clause-steps
returns-clause-steps c = λ w all.
    let flat : Flat = flat_of c.origin_at-origin.result in
    c.in_ok-best.ensures.steps w
    (within_in c.args.reader.now.set.now c.args.run.now c.requires.run (length c.args.reader.now.line.now) w all c.args.index flat c.in-Some.pattern.now c.requires.inside
    (found_at c.args.reader.now.set.now c.list_in.result.now (list_in c.args.run.now.flats) c.args.index c.origin_at-origin.result (option_copied c.pattern_at.result) c.list_in.ensures c.origin_at-origin.ensures
    c.pattern_at.ensures flat ∙ ap option_copied c.in-Some.is))

pub with_entry-requires-clause-origin : goal.with_entry-requires-clause-origin
unfolding flat_of
with_entry-requires-clause-origin c = sym (c.pattern_at.ensures (flat_of c.origin_at-origin.result) refl) ∙ ap option_copied c.in-Some.is
