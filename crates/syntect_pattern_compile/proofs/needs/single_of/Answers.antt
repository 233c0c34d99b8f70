use Rattle.syntect_pattern_compile.proofs.NeedLaws.{single}
use Rattle.syntect_pattern_compile.proofs.needs.single_of.Goals as goal

pub returns-then-places-places_of_char : goal.returns-then-places-places_of_char
returns-then-places-places_of_char c = (
  c.if-first-ge128.false,
  single c.args.places c.places_of_char.result _ c.if-first-ge128.false c.if-places.false c.if-places-2.false
      c.if-places-places_of_char.true c.places_of_char.ensures,
)
