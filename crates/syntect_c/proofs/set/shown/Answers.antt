use Rattle.syntect_c.proofs.SetLaws.{shown_of}
use Rattle.syntect_c.proofs.set.shown.Goals as goal

pub returns : goal.returns
returns c =
    shown_of c.args.assets.now c.args.text.now c.args.language.now c.args.theme.now c.args.format
    c.in_ok-style.style.now c.in_ok-shown.shown c.loaded_sets_stay.ensures.plain
    c.in_ok-shown.ensures.shown c.in_ok-style.ensures.found
