use Rattle.syntect_style.proofs.ContestTop.{nothing_stands}
use Rattle.syntect_style.proofs.highlighter.Highlighter.bottom.Goals as goal

pub returns : goal.returns
returns c = record {
  foreground = nothing_stands (λ m. m.foreground) c.args.self.now;
  background = nothing_stands (λ m. m.background) c.args.self.now;
  font_style = nothing_stands (λ m. m.font_style) c.args.self.now;
}
