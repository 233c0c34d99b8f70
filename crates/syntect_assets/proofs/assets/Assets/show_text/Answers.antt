use Rattle.syntect_assets.proofs.AssetsLaws.{built_of, shows_named}
use Rattle.syntect_assets.proofs.assets.Assets.show_text.Goals as goal

pub returns-clause-shown : goal.returns-clause-shown
returns-clause-shown c = λ definitions b.
    shows_named c.show_in.result c.args.self.now c.args.text.now c.args.language.now c.args.theme.now c.args.format c.in_ok-syntax.syntax.now c.in_ok-syntax.ensures.found
    (c.show_in.ensures.shown definitions (built_of c.args.self.now.set definitions c.args.language.now c.in_ok-syntax.syntax.now b c.in_ok-syntax.ensures.found))
