use Rattle.std.specs.Prelude.{chars}
use Rattle.std.proofs.Common.{◌≡◌, ◌-◌, ◌+◌, ◌*◌, length}
use denote.Text.{Utf8}
use denote.Shadow.{shadow}
use Rattle.syntect_pattern_table.specs.Builder.{Grows}
use Rattle.syntect_pattern.specs.Grammar.{empty_body}
use Rattle.syntect_pattern_words.specs.BodyViews.{body_of}
use Rattle.syntect_pattern_words.specs.OpeningViews.{place_as}
use Rattle.syntect_pattern_compile.specs.ReaderViews.{body_as, IsBodyIn, StaysMet, WithGroups}
use Rattle.syntect_pattern_compile.proofs.reader.Reader.+body.Given as goal

abbrev pub decreases-group : goal.decreases-group
decreases-group l = 3 * (200 - l.depth)

abbrev pub decreases-step : goal.decreases-step
decreases-step l = 3 * (200 - l.depth) + 1

abbrev pub decreases-body : goal.decreases-body
decreases-body l = 3 * (200 - l.depth) + 2

abbrev pub invariant-body-steps : goal.invariant-body-steps
invariant-body-steps l = record {
  utf8 : shadow (Utf8 l.place.text.now);
  grows : Grows l.fn.self.builder.nodes l.self.builder.nodes;
  inside : IsBodyIn l.self.builder.nodes l.body;
  refers : StaysMet l.fn.self.refers l.self.refers;
  reads : WithGroups l.self l.known (λ groups. body_of groups l.depth empty_body (place_as l.fn.self.names l.fn.place)
      ≡ body_of groups l.depth (body_as l.self.builder.nodes l.body) (place_as l.self.names l.place));
}

abbrev pub decreases-body-steps : goal.decreases-body-steps
decreases-body-steps l = length (chars l.place.text.now)
