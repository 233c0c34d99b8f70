use Rattle.std.proofs.Common.{ap, ◌∙◌, get_or}
use Rattle.std.specs.Global.{Vec}
use Rattle.syntect_blocks.proofs.Gaps.{read_at, block_read}
use Rattle.syntect_blocks.proofs.blocks.Blocks.get.Goals as goal

pub returns : goal.returns
returns g c =
    let place = rw c.as_slice.ensures.value at c.place_of-block.ensures in
    let e = block_read c.self.inside.blocks.items c.args.index c.place_of-block.result.0 c.place_of-block.result.1 c.index.result.now place.gap c.index.ensures in
    rw (← c.self.view_is) (read_at c.self.inside.blocks.items c.args.index c.place_of-block.result.0 c.place_of-block.result.1 c.index-2.result.now place
    (c.index-2.ensures ∙ ap (λ (v : Vec g.row.T.Denot). get_or v.items c.place_of-block.result.1 c.index-2.result.now) e))
