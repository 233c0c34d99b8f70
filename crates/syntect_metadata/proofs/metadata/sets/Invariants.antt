use Rattle.std.proofs.Common.{◌≡◌, length, take}
use Rattle.syntect_metadata.specs.syntect_scope.Repository.{IsRepository}
use Rattle.syntect_metadata.proofs.SetLaws.{Reads}
use Rattle.syntect_metadata.proofs.metadata.sets.Given as goal

abbrev pub invariant-loop-text : goal.invariant-loop-text
invariant-loop-text l = record {
  reads : Reads l.fn.repository l.yielded l.repository l.sets;
  whole : IsRepository l.repository;
  grown : take (length l.fn.repository) l.repository ≡ l.fn.repository;
}
