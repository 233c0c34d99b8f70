use Rattle.std.proofs.Common.{◌≡◌, ◌<◌, ℕ, List, arith, ap, get_or, length, ◌∙◌}
use Rattle.syntect_pattern_table.proofs.PlaceListLaws.{known_at, by_number_at, by_number_past}
use Rattle.syntect_pattern_table.proofs.place_list.PlaceList.get.Goals as goal

pub index-requires : goal.index-requires
index-requires c =
    let numbers : List ℕ = c.self.inside.numbers.items in
    let number : ℕ = c.in-Some.number.now in
    let is : number ≡ get_or numbers c.args.place number = c.in-Some.ensures.lookup.1 ∙ ap (λ (ns : List ℕ). get_or ns c.args.place number) c.deref.ensures.value in
    let within : c.args.place < length numbers = omega (arith, c.in-Some.ensures.lookup.3.0, ap length c.deref.ensures.value) in
    omega (arith, known_at c.self.inside.known.items numbers c.args.place number c.self.invariant within is, c.self.inside.known.ok.0)

pub returns-in-Some : goal.returns-in-Some
returns-in-Some c =
    let numbers : List ℕ = c.self.inside.numbers.items in
    let number : ℕ = c.in-Some.number.now in
    let is : number ≡ get_or numbers c.args.place number = c.in-Some.ensures.lookup.1 ∙ ap (λ (ns : List ℕ). get_or ns c.args.place number) c.deref.ensures.value in
    let within : c.args.place < length numbers = omega (arith, c.in-Some.ensures.lookup.3.0, ap length c.deref.ensures.value) in
    rw (← c.self.view_is) (by_number_at c.self.inside.known.items numbers c.args.place number c.index.result.now within is
    (known_at c.self.inside.known.items numbers c.args.place number c.self.invariant within is) c.index.ensures)

pub returns-in-None : goal.returns-in-None
returns-in-None c =
    rw (← c.self.view_is) (by_number_past c.self.inside.known.items c.self.inside.numbers.items c.args.place (omega (arith, c.in-None.ensures.lookup.3, ap length c.deref.ensures.value)))
