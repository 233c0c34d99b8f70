use Rattle.std.proofs.Common.{refl}
use Rattle.syntect_style.specs.Rules.{single_rules}
use Rattle.syntect_style.proofs.ContestLaws.{winners_stand}
use Rattle.syntect_style.proofs.ContestTop.{value_stands}
use Rattle.syntect_style.proofs.highlighter.Highlighter.finished_small.Goals as goal

pub returns : goal.returns
returns c = λ stack h o.
    winners_stand c.args.self.now stack (single_rules c.args.self.now) _ refl
    (value_stands (λ m. m.foreground) c.args.self.now stack _ _ _ h.foreground o.foreground c.better_small.ensures)
    (value_stands (λ m. m.background) c.args.self.now stack _ _ _ h.background o.background c.better_small-2.ensures)
    (value_stands (λ m. m.font_style) c.args.self.now stack _ _ _ h.font_style o.font_style c.better_small-3.ensures)
