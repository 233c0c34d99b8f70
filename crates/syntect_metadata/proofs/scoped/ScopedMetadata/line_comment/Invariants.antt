use Rattle.std.proofs.Common.{◌≡◌, map, drop}
use Rattle.syntect_metadata.specs.Ranking.{first_of}
use Rattle.syntect_metadata.proofs.scoped.ScopedMetadata.line_comment.Given as goal

abbrev pub invariant-loop-set : goal.invariant-loop-set
invariant-loop-set l = first_of (λ i. i.line_comment) (map (λ p. (p.0, p.1.now)) (drop l.set-index l.set-items)) ≡ first_of (λ i. i.line_comment) (map (λ p. (p.0, p.1.now)) l.set-items)
