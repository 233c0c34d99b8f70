use Rattle.std.proofs.Common.{refl}
use Rattle.std.proofs.lemmas.Str.{IsCharBoundary-start}
use Rattle.syntect_style.proofs.pieces.RangedHighlightIterator.new.Goals as goal

pub returns-clause-begins : goal.returns-clause-begins
returns-clause-begins c = record {
  ready = (IsCharBoundary-start c.args.text.now c.utf8.text, c.requires);
  theme_is = refl;
  text_is = refl;
  changes_are = refl;
  state_is = refl;
  pos_is = refl;
}
