use Rattle.std.proofs.Common.{◌≡◌, length, take}
use Rattle.syntect_scope.specs.Repository.{with_atoms, between_dots}
use Rattle.syntect_scope.proofs.repository.ScopeRepository.count_with.Given as goal

abbrev pub invariant-loop-part : goal.invariant-loop-part
invariant-loop-part l =
    record {
      counted : l.count ≡ length (with_atoms l.self (take (length l.yielded) (between_dots l.text)));
      before : l.before ≡ length l.yielded;
    }
