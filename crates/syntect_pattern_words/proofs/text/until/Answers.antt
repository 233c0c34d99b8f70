use Rattle.syntect_pattern_words.proofs.PartLaws.{cut-boundary, cut-chars}
use Rattle.syntect_pattern_words.proofs.text.until.Goals as goal

pub split_at-requires : goal.split_at-requires
split_at-requires c = cut-boundary c.args.text.now c.args.rest.now c.requires c.utf8.text c.utf8.rest

pub returns : goal.returns
returns c = cut-chars c.args.text.now c.args.rest.now c.requires c.utf8.text c.utf8.rest c.split_at.result.0.now c.split_at.ensures.front
