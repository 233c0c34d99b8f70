use Rattle.std.proofs.Common.{◌≡◌, map}
use Rattle.serde_json.specs.View.{members_view}
use Rattle.syntect_metadata.specs.Merging.{with_variables}
use Rattle.syntect_metadata.specs.Seen.{named}
use Rattle.syntect_metadata.proofs.merge.with_variables.Given as goal

abbrev pub invariant-loop-name : goal.invariant-loop-name
invariant-loop-name l = members_view l.members.entries ≡ with_variables (map named l.yielded) (members_view l.fn.members.entries)
