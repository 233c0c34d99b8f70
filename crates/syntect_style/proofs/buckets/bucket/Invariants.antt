use Rattle.std.proofs.Common.{◌≡◌, ◌++◌, drop}
use Rattle.std.specs.List.{filter}
use Rattle.syntect_style.specs.Buckets.{may_match}
use Rattle.syntect_style.proofs.buckets.bucket.Given as goal

abbrev pub invariant-loop-rule : goal.invariant-loop-rule
invariant-loop-rule l = l.all ++ filter (may_match l.number) (drop l.rule-index l.rules) ≡ filter (may_match l.number) l.rules
