use Rattle.std.proofs.Common.{◌≡◌, map, length}
use Rattle.syntect_grammar.specs.Link.{heads_from, body_of}
use Rattle.syntect_grammar.proofs.heads.behead_all.Given as goal

abbrev pub invariant-loop-definition : goal.invariant-loop-definition
invariant-loop-definition l = record { heads : l.heads.items ≡ heads_from 0 l.yielded; many : length l.heads.items ≡ length l.yielded; bodies : l.bodies.items ≡ map body_of l.yielded }
