use Rattle.std.specs.Prelude.{chars}
use Rattle.std.proofs.Common.{◌≡◌, ℕ, ◌≤◌, length, Option}
use denote.Text.{Utf8}
use denote.Shadow.{shadow}
use Rattle.syntect_pattern_table.specs.Builder.{Grows}
use Rattle.syntect_pattern.specs.Grammar.{Names}
use Rattle.syntect_pattern_words.specs.BodyViews.{body_of}
use Rattle.syntect_pattern_words.specs.OpeningViews.{flags_as, place_as}
use Rattle.syntect_pattern_compile.specs.JoinViews.{AllBelow, AreItemsIn}
use Rattle.syntect_pattern_compile.specs.ReaderViews.{body_as}
use Rattle.syntect_pattern_compile.proofs.reader.Reader.plain_chars.Given as goal

abbrev pub invariant-plain : goal.invariant-plain
invariant-plain l = record {
  utf8 : shadow (Utf8 l.text);
  grows : Grows l.fn.self.builder.nodes l.self.builder.nodes;
  names : l.self.names ≡ l.fn.self.names;
  refers : l.self.refers ≡ l.fn.self.refers;
  before : AllBelow (length l.self.builder.nodes) l.fn.body.before;
  items : AreItemsIn (length l.self.builder.nodes) l.items;
  shorter : length (chars l.text) ≤ length (chars l.fn.place.text.now);
  reads : (groups : Option Names) (depth : ℕ) → body_of groups depth (body_as l.fn.self.builder.nodes l.fn.body) (place_as l.fn.self.names l.fn.place)
      ≡ body_of groups depth (body_as l.self.builder.nodes (record { before = l.fn.body.before; items = l.items })) (record { flags = flags_as l.fn.place.flags; names = l.self.names; text = chars l.text });
}

abbrev pub decreases-plain : goal.decreases-plain
decreases-plain l = length (chars l.text)
