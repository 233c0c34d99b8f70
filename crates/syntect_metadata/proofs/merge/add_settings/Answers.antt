use Rattle.std.proofs.Common.{ap, ◌∙◌}
use Rattle.serde_json.specs.View.{members_view}
use Rattle.syntect_metadata.specs.Merging as merging
use Rattle.syntect_metadata.specs.Merging.{put_at, with_members}
use Rattle.syntect_metadata.specs.Seen.{table_seen}
use Rattle.syntect_metadata.proofs.MergeLaws.{put_back, taken_or_nothing}
use Rattle.syntect_metadata.proofs.merge.add_settings.Goals as goal

pub returns-in-Ok : goal.returns-in-Ok
returns-in-Ok c =
    put_back c.args.scope c.in_ok-merged.merged c.args.table.now.entries c.remove.new.self.entries c.insert.new.self.entries c.remove.ensures.entries c.in-Ok.ensures.entries
    ∙ ap (λ (m : merging.Merged). put_at c.args.scope m (table_seen c.args.table.now.entries))
    (c.in_ok-merged.ensures ∙ ap (with_members (members_view c.args.settings.entries))
    (c.or_nothing-merged.ensures ∙ taken_or_nothing c.args.scope c.args.table.now.entries c.remove.result c.remove.ensures.value))
