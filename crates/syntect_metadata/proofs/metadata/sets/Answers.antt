use Rattle.std.proofs.Common.{◌≢◌, rules, string_bytes}
use Rattle.serde_json.specs.Data.{object}
use Rattle.serde_json.specs.View.{members_view}
use Rattle.syntect_metadata.specs.declared.error.MetadataError.TheVariants.{Memory}
use Rattle.syntect_metadata.proofs.SetLaws.{reads_set, passes_set, keeps_on}
use Rattle.syntect_metadata.proofs.metadata.sets.Goals as goal

pub loop-text-preserved-in-Continue-branch-2 : goal.loop-text-preserved-in-Continue-branch-2
loop-text-preserved-in-Continue-branch-2 c = record {
  reads = reads_set c.args.repository.now c.loop-text.yielded (c.in-Some.text, c.in-Some.merged) c.loop-text.repository c.from_raw.new.repository c.loop-text.sets c.push.new.self c.in-Ok.set
      (object (members_view c.in_ok-members.members.entries)) (string_bytes c.into_string.result) c.in_ok-members.ensures c.into_string.ensures c.in-Ok.ensures.ok c.in-Ok.ensures.atoms
      c.in_ok-push-in-Ok.ensures.ok c.loop-text.invariant.reads;
  whole = c.from_raw.ensures.whole;
  grown = keeps_on c.args.repository.now c.loop-text.repository c.from_raw.new.repository c.loop-text.invariant.grown c.from_raw.ensures.kept;
}

pub loop-text-preserved : goal.loop-text-preserved
loop-text-preserved c =
    let other : c.in-Err._other ≢ Memory = search rules in
    record {
      reads = passes_set c.args.repository.now c.loop-text.yielded (c.in-Some.text, c.in-Some.merged) c.loop-text.repository c.from_raw.new.repository c.loop-text.sets c.in-Err._other
          (object (members_view c.in_ok-members.members.entries)) (string_bytes c.into_string.result) c.in_ok-members.ensures c.into_string.ensures (c.in-Err.ensures.err other) c.from_raw.ensures.kept
          c.loop-text.invariant.reads;
      whole = c.from_raw.ensures.whole;
      grown = keeps_on c.args.repository.now c.loop-text.repository c.from_raw.new.repository c.loop-text.invariant.grown c.from_raw.ensures.kept;
    }
