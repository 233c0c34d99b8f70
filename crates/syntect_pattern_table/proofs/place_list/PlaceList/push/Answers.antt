use Rattle.std.proofs.Common.{ap, rules, subst, sym, ◌∙◌}
use Rattle.syntect_pattern_table.specs.PlaceLists.{AreKnown, places_by_number}
use Rattle.syntect_pattern_table.proofs.PlaceListLaws.{known_pushed, known_stay, by_number_pushed, by_number_stays}
use Rattle.syntect_pattern_table.proofs.place_list.PlaceList.push.Goals as goal

pub invariant_of-self : goal.invariant_of-self
invariant_of-self c = known_stay c.self.inside.known.items c.number_of.new.known.items c.self.inside.numbers.items c.number_of.ensures.stays c.self.invariant

pub invariant_of-self-in_err-push : goal.invariant_of-self-in_err-push
invariant_of-self-in_err-push c =
    subst (AreKnown c.number_of.new.known.items) (sym c.in_err-push.ensures.items)
    (known_stay c.self.inside.known.items c.number_of.new.known.items c.self.inside.numbers.items c.number_of.ensures.stays c.self.invariant)

pub invariant_of-self-2 : goal.invariant_of-self-2
invariant_of-self-2 c =
    subst (AreKnown c.number_of.new.known.items) (sym c.in_ok-push.ensures.items)
    (known_pushed c.self.inside.known.items c.number_of.new.known.items c.self.inside.numbers.items c.in_ok-number.number c.args.places c.number_of.ensures.stays c.self.invariant
    c.in_ok-number.ensures.number)

pub returns-in_err-number-clause-err : goal.returns-in_err-number-clause-err
returns-in_err-number-clause-err c =
    let same = by_number_stays c.self.inside.known.items c.number_of.new.known.items c.self.inside.numbers.items c.number_of.ensures.stays c.self.invariant in
    search rules

pub returns-in_err-push-clause-err : goal.returns-in_err-push-clause-err
returns-in_err-push-clause-err c =
    let same = ap (places_by_number c.number_of.new.known.items) c.in_err-push.ensures.items
    ∙ by_number_stays c.self.inside.known.items c.number_of.new.known.items c.self.inside.numbers.items c.number_of.ensures.stays c.self.invariant in
    search rules

pub returns-clause-ok : goal.returns-clause-ok
returns-clause-ok c =
    rw (← c.self.view_is) (ap (places_by_number c.number_of.new.known.items) c.in_ok-push.ensures.items
    ∙ by_number_pushed c.self.inside.known.items c.number_of.new.known.items c.self.inside.numbers.items c.in_ok-number.number c.args.places c.number_of.ensures.stays c.self.invariant
    c.in_ok-number.ensures.number)
