use Rattle.std.proofs.Common.{◌∙◌, ap, length}
use Rattle.std.proofs.lemmas.List.{length-set}
use Rattle.syntect_pattern_linear.proofs.LeadLaws.{knows-none, knows-set}
use Rattle.syntect_pattern_linear.proofs.StepsLaws.{none-length}
use Rattle.syntect_pattern_linear.proofs.marking.known_of.Goals as goal

pub loop-late-init : goal.loop-late-init
loop-late-init c = record {
  knows = knows-none c.args.ground.now c.args.place c.in_ok-here.here.items _ c.in_ok-here.ensures;
  long = none-length _ _ c.in_ok-here.ensures ∙ c.len-cells.ensures;
}

pub loop-late-preserved : goal.loop-late-preserved
loop-late-preserved c = record {
  knows = knows-set c.args.ground.now c.args.place c.min-cell.result c.loop-late.here.items c.keep.new.known.items c.lead_by-leads.result c.keep.ensures c.lead_by-leads.ensures c.loop-late.invariant.knows;
  long = ap length c.keep.ensures ∙ length-set c.loop-late.here.items c.min-cell.result c.lead_by-leads.result ∙ c.loop-late.invariant.long;
}
