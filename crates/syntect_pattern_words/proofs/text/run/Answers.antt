use Rattle.std.specs.Prelude.{chars}
use Rattle.syntect_pattern_words.specs.Views.{passes}
use Rattle.syntect_pattern_words.proofs.PartLaws.{run-is}
use Rattle.syntect_pattern_words.proofs.text.run.Goals as goal

pub returns : goal.returns
returns c = run-is (passes c.args.test) (chars c.args.text.now) (chars c.until.result.now) (chars c.behind_run-rest.result.now) c.behind_run-rest.ensures.value c.until.ensures
