use Rattle.std.proofs.Common.{◌≡◌, ◌++◌, length, take, drop, map}
use Rattle.syntect_scope.specs.Repository.{with_atoms, number_in, between_dots, IsRepository}
use Rattle.syntect_scope.proofs.repository.ScopeRepository.numbers.Given as goal

abbrev pub invariant-loop-part : goal.invariant-loop-part
invariant-loop-part l =
    let texts = between_dots l.text in
    let rest = drop (length l.yielded) texts in
    record {
      added : with_atoms l.self rest ≡ with_atoms l.fn.self texts;
      given : l.scope ++ map (number_in (with_atoms l.fn.self texts)) rest ≡ map (number_in (with_atoms l.fn.self texts)) texts;
      grown : take (length l.fn.self) l.self ≡ l.fn.self;
      count : length l.scope ≡ length l.yielded;
      whole : IsRepository l.self;
    }
