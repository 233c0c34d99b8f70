use Rattle.std.proofs.Common.{ap, ◌∙◌, sym, get_or, set, length, length-set}
use Rattle.std.specs.Global.{Vec}
use Rattle.syntect_blocks.specs.Joined.{joined}
use Rattle.syntect_blocks.proofs.Gaps.{put_over, block_read}
use Rattle.syntect_blocks.proofs.blocks.Blocks.set.Goals as goal

pub returns : goal.returns
returns g c =
    let place = rw c.as_slice.ensures.value at c.place_of-block.ensures in
    let e = block_read c.self.inside.blocks.items c.args.index c.place_of-block.result.0 c.place_of-block.result.1 c.index_mut-elements.result.now place.gap c.index_mut-elements.ensures.value in
    rw (← c.self.view_is) (put_over c.self.inside.blocks.items c.args.index c.place_of-block.result.0 c.place_of-block.result.1 _ c.args.x place
    (ap (λ (v : Vec g.row.T.Denot). set v.items c.place_of-block.result.1 c.args.x) e))

pub invariant_of-self : goal.invariant_of-self
invariant_of-self g c =
    let place = rw c.as_slice.ensures.value at c.place_of-block.ensures in
    let e = block_read c.self.inside.blocks.items c.args.index c.place_of-block.result.0 c.place_of-block.result.1 c.index_mut-elements.result.now place.gap c.index_mut-elements.ensures.value in
    c.self.invariant ∙ sym (length-set (joined c.self.inside.blocks.items) c.args.index c.args.x)
    ∙ sym (ap length (put_over c.self.inside.blocks.items c.args.index c.place_of-block.result.0 c.place_of-block.result.1 _ c.args.x place
    (ap (λ (v : Vec g.row.T.Denot). set v.items c.place_of-block.result.1 c.args.x) e)))
