use Rattle.std.proofs.Common.{◌≡◌}
use Rattle.serde_json.specs.View.{members_view}
use Rattle.syntect_metadata.specs.Merging.{with_members}
use Rattle.syntect_metadata.specs.Seen.{merged_view}
use Rattle.syntect_metadata.proofs.merge.with_members.Given as goal

abbrev pub invariant-loop-key : goal.invariant-loop-key
invariant-loop-key l = merged_view l.merged ≡ with_members (members_view l.yielded) (merged_view l.fn.merged)
