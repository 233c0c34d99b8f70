use Rattle.std.proofs.Common.{ap, sym, ◌∙◌, string_bytes}
use Rattle.serde_json.specs.View.{view}
use Rattle.syntect_metadata.specs.Merging.{with_member}
use Rattle.syntect_metadata.specs.Seen.{merged_view}
use Rattle.syntect_metadata.proofs.MergeLaws.{members_next}
use Rattle.syntect_metadata.proofs.merge.with_members.Goals as goal

pub loop-key-preserved : goal.loop-key-preserved
loop-key-preserved c =
    c.in_ok-merged.ensures ∙ ap (with_member (string_bytes c.in-Some.key) (view c.in-Some.value)) c.loop-key.invariant
    ∙ sym (members_next c.loop-key.yielded (c.in-Some.key, c.in-Some.value) (merged_view c.args.merged))
