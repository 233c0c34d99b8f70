use Rattle.std.proofs.Common.{◌≡◌, ◌++◌, length, ap, arith, length-append}
use Rattle.std.specs.List.{filter_map, flat_map}
use Rattle.syntect_parsing.specs.syntect_grammar_contexts.Contexts.{target}
use Rattle.syntect_parsing.specs.Operations.{opens_below}
use Rattle.syntect_parsing.proofs.syntect_reading_state_proofs.OpenLaws.{metas_few}
use Rattle.syntect_parsing.proofs.emit.emit_push.Goals as goal

pub count_metas-requires : goal.count_metas-requires
count_metas-requires c =
    let e : length c.open_below.new.ops.items ≡ length (c.args.ops.now.items ++ flat_map (opens_below c.args.m.now.start c.args.set.now) (filter_map target c.args.refs.now)) = ap length c.in_ok-open_below.ensures in
    omega (
      arith,
      e,
      metas_few c.args.m.now.start c.args.set.now (filter_map target c.args.refs.now),
      length-append c.args.ops.now.items (flat_map (opens_below c.args.m.now.start c.args.set.now) (filter_map target c.args.refs.now)),
      c.open_below.new.ops.ok.0,
      c.open_below.new.ops.ok.1,
    )
