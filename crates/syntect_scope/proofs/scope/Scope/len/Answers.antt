use Rattle.std.proofs.Common.{◌≡◌, ◌+◌, ◌≤◌, length, length-append, arith, ap, sym, ◌∙◌}
use Rattle.syntect_scope.specs.Atoms.{atoms_in}
use Rattle.syntect_scope.specs.Packing.{places}
use Rattle.syntect_scope.proofs.AtomLaws.{atoms_within, atoms_append, packed_back}
use Rattle.syntect_scope.proofs.scope.Scope.len.Goals as goal

pub atoms_in_word-requires-2 : goal.atoms_in_word-requires-2
atoms_in_word-requires-2 c = packed_back (places 4 c.self.inside.high) (places 4 c.self.inside.low) c.self.invariant.2

pub overflow_add-result : goal.overflow_add-result
overflow_add-result c =
    let h : length (atoms_in (places 4 c.self.inside.high)) ≤ 4 = atoms_within (places 4 c.self.inside.high) in
    let l : length (atoms_in (places 4 c.self.inside.low)) ≤ 4 = atoms_within (places 4 c.self.inside.low) in
    omega (arith, h, l, c.atoms_in_word.ensures, c.atoms_in_word-2.ensures)

pub returns-clause-atoms : goal.returns-clause-atoms
returns-clause-atoms c =
    let xs = atoms_in (places 4 c.self.inside.high) in
    let ys = atoms_in (places 4 c.self.inside.low) in
    let e : length c.args.self ≡ length xs + length ys =
    ap length (sym c.self.view_is ∙ atoms_append (places 4 c.self.inside.high) (places 4 c.self.inside.low) c.self.invariant.2) ∙ length-append xs ys in
    omega (arith, e, c.atoms_in_word.ensures, c.atoms_in_word-2.ensures)

pub returns-clause-within : goal.returns-clause-within
returns-clause-within c =
    let h : length (atoms_in (places 4 c.self.inside.high)) ≤ 4 = atoms_within (places 4 c.self.inside.high) in
    let l : length (atoms_in (places 4 c.self.inside.low)) ≤ 4 = atoms_within (places 4 c.self.inside.low) in
    omega (arith, h, l, c.atoms_in_word.ensures, c.atoms_in_word-2.ensures)
