use Rattle.std.proofs.Common.{rules, arith, length, ap, sym, ◌∙◌}
use Rattle.std.specs.Prelude.{chars}
use Rattle.syntect_pattern.specs.Sets.{from_to}
use Rattle.syntect_pattern.specs.Trees.{one_of}
use Rattle.syntect_pattern_table.proofs.BuilderLaws.{Grows-trans}
use Rattle.syntect_pattern_words.specs.BodyViews.{body_of}
use Rattle.syntect_pattern_words.specs.OpeningViews.{flags_as}
use Rattle.syntect_pattern_compile.specs.ReaderViews.{body_as}
use Rattle.syntect_pattern_compile.proofs.BodyReading.{body-plain}
use Rattle.syntect_pattern_compile.proofs.JoinLaws.{below-grown, items-grown}
use Rattle.syntect_pattern_compile.proofs.ReaderLaws.{items-new, body-pushed}
use Rattle.syntect_pattern_compile.proofs.reader.Reader.plain_chars.Goals as goal

pub plain-preserved : goal.plain-preserved
plain-preserved c = record {
  utf8 = search rules;
  grows = Grows-trans c.args.self.now.builder.nodes c.plain.self.builder.nodes c.char_item.new.self.nodes c.plain.invariant.grows c.in_ok-item.ensures.grows;
  names = c.plain.invariant.names;
  refers = c.plain.invariant.refers;
  before = below-grown c.plain.self.builder.nodes c.char_item.new.self.nodes c.args.body.before c.in_ok-item.ensures.grows c.plain.invariant.before;
  items =
      items-new (length c.char_item.new.self.nodes) c.plain.items c.push.new.self c.in_ok-item.item c.in_ok-push.ensures.ok
      (items-grown c.plain.self.builder.nodes c.char_item.new.self.nodes c.plain.items c.in_ok-item.ensures.grows c.plain.invariant.items)
      c.in_ok-item.ensures.inside;
  shorter = let e = ap length c.in-Some.ensures.letters in let h = c.plain.invariant.shorter in omega (arith, e, h);
  reads = λ groups depth.
      c.plain.invariant.reads groups depth
      ∙ body-plain groups depth (body_as c.plain.self.builder.nodes (record { before = c.args.body.before; items = c.plain.items })) (flags_as c.args.place.flags) c.plain.self.names
      (chars c.plain.text.now) (chars c.in-Some.rest.now) c.in-Some.c c.in-Some.ensures
      ∙ ap (λ b. body_of groups depth b (record { flags = flags_as c.args.place.flags; names = c.plain.self.names; text = chars c.in-Some.rest.now }))
      (sym (body-pushed c.plain.self.builder.nodes c.char_item.new.self.nodes c.args.body.before c.plain.items c.push.new.self c.in_ok-item.item
      (one_of (from_to c.args.place.flags.fold c.in-Some.c c.in-Some.c)) c.in_ok-item.ensures.grows c.plain.invariant.before c.plain.invariant.items c.in_ok-push.ensures.ok c.in_ok-item.ensures.is));
}
