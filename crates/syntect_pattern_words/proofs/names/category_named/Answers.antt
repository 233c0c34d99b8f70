use Rattle.std.proofs.Common.{◌∙◌, ap, sym}
use Rattle.std.specs.Prelude.{option_map, chars}
use Rattle.syntect_pattern.specs.NamedSets.{set_of_named}
use Rattle.syntect_pattern_words.proofs.NameLaws.{categories_are}
use Rattle.syntect_pattern_words.proofs.names.category_named.Goals as goal

pub returns : goal.returns
returns c = categories_are (chars c.args.name.now) ∙ ap (option_map set_of_named) (sym c.find_named.ensures)
