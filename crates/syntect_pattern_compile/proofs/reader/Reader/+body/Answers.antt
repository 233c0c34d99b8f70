use Rattle.std.proofs.Common.{rules, arith, ap, refl, sym, ◌∙◌, Some}
use Rattle.std.specs.Prelude.{chars}
use Rattle.syntect_pattern.specs.Sets.{from_to}
use Rattle.syntect_pattern.specs.Trees.{Tree, one_of, anchor}
use Rattle.syntect_pattern.specs.declared.anchor.Anchor.{Anchor}
use Rattle.syntect_pattern_table.specs.Builder.{tree_in}
use Rattle.syntect_pattern.specs.Grammar.{Names, Cursor, forward, opening, step, item, firm, dot_set}
use Rattle.syntect_pattern_words.specs.OpeningViews.{flags_as, place_as, wrapped, opening_as, opened_as}
use Rattle.syntect_pattern_words.specs.TokenViews.{token_as}
use Rattle.syntect_pattern_compile.specs.ReaderViews.{body_as, inner_of, went_on, tree_as}
use Rattle.syntect_pattern_table.proofs.BuilderLaws.{Grows-trans}
use Rattle.syntect_pattern_compile.proofs.BodyReading.{body-stuck, body-over, body-refuses, body-goes_on, body-shorter}
use Rattle.syntect_pattern_compile.proofs.GroupLaws.{group-item}
use Rattle.syntect_pattern_compile.proofs.ReaderLaws.{body-in-grown, body-grown, item-behind, passed-some, passed-none}
use Rattle.syntect_pattern_compile.proofs.reader.Reader.+body.Goals as goal

pub body-returns-in_default-clause-reads : goal.body-returns-in_default-clause-reads
body-returns-in_default-clause-reads t c = λ groups serves.
    c.steps.invariant.reads groups serves
    ∙ body-stuck groups c.args.depth (body_as c.steps.self.builder.nodes c.steps.body) (place_as c.steps.self.names c.steps.place) (passed-none (flags_as c.steps.place.flags) c.steps.self.names (chars c.steps.place.text.now) c.in_default.ensures)

pub body-returns-in_default-next_token-clause-reads : goal.body-returns-in_default-next_token-clause-reads
body-returns-in_default-next_token-clause-reads t c = λ groups serves.
    c.steps.invariant.reads groups (λ e. serves (c.in_ok-node.ensures.refers ∙ e))
    ∙ body-over groups c.args.depth (body_as c.steps.self.builder.nodes c.steps.body) (place_as c.steps.self.names c.steps.place)
    (place_as c.steps.self.names (record { flags = c.steps.place.flags; text = c.in-Some.text }))
    (passed-some (flags_as c.steps.place.flags) c.steps.self.names (chars c.steps.place.text.now) (chars c.in-Some.text.now) c.in-Some.ensures) c.in_default-next_token.ensures
    ∙ ap (λ (a : Tree). Some (a, (place_as c.steps.self.names (record { flags = c.steps.place.flags; text = c.in-Some.text })))) (sym c.in_ok-node.ensures.holds.is)
    ∙ ap (λ (ns : Names). Some (tree_in c.finish.new.self.builder.nodes c.in_ok-node.node, place_as ns (record { flags = c.steps.place.flags; text = c.in-Some.text }))) (sym c.in_ok-node.ensures.names)

pub body-returns-in_default-2-clause-reads : goal.body-returns-in_default-2-clause-reads
body-returns-in_default-2-clause-reads t c = λ groups serves.
    c.steps.invariant.reads groups (λ e. serves (c.in_ok-read.ensures.refers e))
    ∙ body-refuses groups c.args.depth (body_as c.steps.self.builder.nodes c.steps.body) (place_as c.steps.self.names c.steps.place)
    (place_as c.steps.self.names (record { flags = c.steps.place.flags; text = c.in-Some.text }))
    (passed-some (flags_as c.steps.place.flags) c.steps.self.names (chars c.steps.place.text.now) (chars c.in-Some.text.now) c.in-Some.ensures)
    (token_as c.in-Some-next_token.token) c.in-Some-next_token.ensures
    (c.in_ok-read.ensures.reads groups serves ∙ ap (went_on c.step.new.self) c.in_default-2.is)

pub body-steps-smaller : goal.body-steps-smaller
body-steps-smaller t c =
    let l = c.in_ok-more.ensures.shorter in
    let h =
    body-shorter c.args.known.now c.args.depth (body_as c.steps.self.builder.nodes c.steps.body) (place_as c.steps.self.names c.steps.place)
    (place_as c.steps.self.names (record { flags = c.steps.place.flags; text = c.in-Some.text }))
    (passed-some (flags_as c.steps.place.flags) c.steps.self.names (chars c.steps.place.text.now) (chars c.in-Some.text.now) c.in-Some.ensures)
    (token_as c.in-Some-next_token.token) c.in-Some-next_token.ensures
    (body_as c.step.new.self.builder.nodes c.in-Some-2.read) (place_as c.step.new.self.names c.in-Some-2.next)
    (c.in_ok-read.ensures.reads c.args.known.now (λ _. refl) ∙ ap (went_on c.step.new.self) c.in-Some-2.is) in
    omega (arith, h, l)

pub body-steps-preserved : goal.body-steps-preserved
body-steps-preserved t c = record {
  utf8 = search rules;
  grows =
      Grows-trans c.args.self.now.builder.nodes c.steps.self.builder.nodes c.plain_chars.new.self.builder.nodes c.steps.invariant.grows
      (Grows-trans c.steps.self.builder.nodes c.step.new.self.builder.nodes c.plain_chars.new.self.builder.nodes c.in_ok-read.ensures.grows c.in_ok-more.ensures.grows);
  inside = c.in_ok-more.ensures.inside;
  refers = λ e. c.in_ok-more.ensures.refers ∙ c.in_ok-read.ensures.refers (c.steps.invariant.refers e);
  reads = λ groups serves.
      c.steps.invariant.reads groups (λ e. serves (c.in_ok-more.ensures.refers ∙ c.in_ok-read.ensures.refers e))
      ∙ body-goes_on groups c.args.depth (body_as c.steps.self.builder.nodes c.steps.body) (place_as c.steps.self.names c.steps.place)
      (place_as c.steps.self.names (record { flags = c.steps.place.flags; text = c.in-Some.text }))
      (passed-some (flags_as c.steps.place.flags) c.steps.self.names (chars c.steps.place.text.now) (chars c.in-Some.text.now) c.in-Some.ensures)
      (token_as c.in-Some-next_token.token) c.in-Some-next_token.ensures
      (body_as c.step.new.self.builder.nodes c.in-Some-2.read) (place_as c.step.new.self.names c.in-Some-2.next)
      (c.in_ok-read.ensures.reads groups (λ e. serves (c.in_ok-more.ensures.refers ∙ e)) ∙ ap (went_on c.step.new.self) c.in-Some-2.is)
      ∙ c.in_ok-more.ensures.reads groups c.args.depth;
}

pub group-item-requires-clause-body : goal.group-item-requires-clause-body
group-item-requires-clause-body t c =
    body-in-grown c.body.new.self.builder.nodes c.push_group.new.self.builder.nodes c.args.body c.in_ok-node.ensures.grows
    (body-in-grown c.args.self.now.builder.nodes c.body.new.self.builder.nodes c.args.body c.in_ok-inner.ensures.grows c.requires.body)

pub group-returns-clause-reads : goal.group-returns-clause-reads
group-returns-clause-reads t c = λ groups serves.
    let opened = ap opening (sym (c.forward.ensures.place c.args.self.now.names)) ∙ c.in_ok-opening.ensures ∙ ap (opened_as c.read_opening.new.names) c.in-Some.is
    ∙ ap (λ o. Some (opening_as o, place_as c.read_opening.new.names c.in-Some.place)) c.in-Opens.is in
    group-item groups (inner_of groups c.args.depth) c.args.depth (body_as c.args.self.now.builder.nodes c.args.body) (place_as c.args.self.now.names c.args.here)
    (wrapped c.in-Opens.wrap) (place_as c.read_opening.new.names c.in-Some.place) opened c.if-depth-ge-DEEPEST.false
    (tree_in c.body.new.self.builder.nodes c.in-Some-2.inner) (place_as c.body.new.self.names c.in-Some-2.last)
    (c.in_ok-inner.ensures.reads groups (λ e. serves (c.in_ok-item.ensures.refers ∙ c.in_ok-node.ensures.refers ∙ e)) ∙ ap (tree_as c.body.new.self) c.in-Some-2.is) (sym c.begins.ensures.value ∙ c.if-not-begins.false)
    ∙ item-behind groups (body_as c.args.self.now.builder.nodes c.args.body) (body_as c.push_group.new.self.builder.nodes c.args.body)
    (wrapped c.in-Opens.wrap (tree_in c.body.new.self.builder.nodes c.in-Some-2.inner)) (tree_in c.push_group.new.self.builder.nodes c.in_ok-node.node)
    (flags_as c.args.here.flags) c.body.new.self.names c.push_group.new.self.names _ (chars c.after.result.now) (went_on c.item.new.self c.in_ok-item.field-0)
    c.in_ok-node.ensures.holds.is
    (body-grown c.body.new.self.builder.nodes c.push_group.new.self.builder.nodes c.args.body c.in_ok-node.ensures.grows
    (body-in-grown c.args.self.now.builder.nodes c.body.new.self.builder.nodes c.args.body c.in_ok-inner.ensures.grows c.requires.body)
    ∙ body-grown c.args.self.now.builder.nodes c.body.new.self.builder.nodes c.args.body c.in_ok-inner.ensures.grows c.requires.body)
    c.in_ok-node.ensures.names
    c.after.ensures
    (c.in_ok-item.ensures.reads groups)

pub step-returns-in_ok-bracket-in-Bracket-clause-reads : goal.step-returns-in_ok-bracket-in-Bracket-clause-reads
step-returns-in_ok-bracket-in-Bracket-clause-reads t c = λ groups serves.
    ap (λ k. step groups (inner_of groups c.args.depth) c.args.depth (body_as c.args.self.now.builder.nodes c.args.body) (place_as c.args.self.now.names c.args.here) (token_as k)) c.in-Bracket.is
    ∙ c.in_ok-bracket-in-Bracket.ensures.reads groups (inner_of groups c.args.depth)

pub step-returns-in_ok-backslash-in-Backslash-clause-reads : goal.step-returns-in_ok-backslash-in-Backslash-clause-reads
step-returns-in_ok-backslash-in-Backslash-clause-reads t c = λ groups serves.
    ap (λ k. step groups (inner_of groups c.args.depth) c.args.depth (body_as c.args.self.now.builder.nodes c.args.body) (place_as c.args.self.now.names c.args.here) (token_as k)) c.in-Backslash.is
    ∙ c.in_ok-backslash-in-Backslash.ensures.reads groups serves (inner_of groups c.args.depth) c.args.depth

pub step-returns-in_ok-dot_item-in-Dot-clause-reads : goal.step-returns-in_ok-dot_item-in-Dot-clause-reads
step-returns-in_ok-dot_item-in-Dot-clause-reads t c = λ groups serves.
    ap (λ k. step groups (inner_of groups c.args.depth) c.args.depth (body_as c.args.self.now.builder.nodes c.args.body) (place_as c.args.self.now.names c.args.here) (token_as k)) c.in-Dot.is
    ∙ ap (λ f. item groups (body_as c.args.self.now.builder.nodes c.args.body) (one_of (dot_set f.any)) (forward 1 (place_as c.args.self.now.names c.args.here))) (sym c.forward-in-Dot.ensures.flags)
    ∙ ap (λ (q : Cursor). item groups (body_as c.args.self.now.builder.nodes c.args.body) (one_of (dot_set c.forward-in-Dot.result.flags.any)) q) (sym (c.forward-in-Dot.ensures.place c.args.self.now.names))
    ∙ c.in_ok-dot_item-in-Dot.ensures.reads groups

pub step-returns-in_ok-anchor_item-in-Caret-clause-reads : goal.step-returns-in_ok-anchor_item-in-Caret-clause-reads
step-returns-in_ok-anchor_item-in-Caret-clause-reads t c = λ groups serves.
    ap (λ k. step groups (inner_of groups c.args.depth) c.args.depth (body_as c.args.self.now.builder.nodes c.args.body) (place_as c.args.self.now.names c.args.here) (token_as k)) c.in-Caret.is
    ∙ ap (λ (q : Cursor). firm groups (body_as c.args.self.now.builder.nodes c.args.body) (anchor Anchor.LineStart) q) (sym (c.forward-in-Caret.ensures.place c.args.self.now.names))
    ∙ c.in_ok-anchor_item-in-Caret.ensures.reads groups

pub step-returns-in_ok-anchor_item-in-Dollar-clause-reads : goal.step-returns-in_ok-anchor_item-in-Dollar-clause-reads
step-returns-in_ok-anchor_item-in-Dollar-clause-reads t c = λ groups serves.
    ap (λ k. step groups (inner_of groups c.args.depth) c.args.depth (body_as c.args.self.now.builder.nodes c.args.body) (place_as c.args.self.now.names c.args.here) (token_as k)) c.in-Dollar.is
    ∙ ap (λ (q : Cursor). firm groups (body_as c.args.self.now.builder.nodes c.args.body) (anchor Anchor.LineEnd) q) (sym (c.forward-in-Dollar.ensures.place c.args.self.now.names))
    ∙ c.in_ok-anchor_item-in-Dollar.ensures.reads groups

pub step-returns-in_ok-char_item-in-Plain-clause-reads : goal.step-returns-in_ok-char_item-in-Plain-clause-reads
step-returns-in_ok-char_item-in-Plain-clause-reads t c = λ groups serves.
    ap (λ k. step groups (inner_of groups c.args.depth) c.args.depth (body_as c.args.self.now.builder.nodes c.args.body) (place_as c.args.self.now.names c.args.here) (token_as k)) c.in-Plain.is
    ∙ ap (λ f. item groups (body_as c.args.self.now.builder.nodes c.args.body) (one_of (from_to f.fold c.in-Plain.c c.in-Plain.c)) (forward 1 (place_as c.args.self.now.names c.args.here))) (sym c.forward-in-Plain.ensures.flags)
    ∙ ap (λ (q : Cursor). item groups (body_as c.args.self.now.builder.nodes c.args.body) (one_of (from_to c.forward-in-Plain.result.flags.fold c.in-Plain.c c.in-Plain.c)) q) (sym (c.forward-in-Plain.ensures.place c.args.self.now.names))
    ∙ c.in_ok-char_item-in-Plain.ensures.reads groups

pub step-returns-in_ok-group-in-Opener-clause-reads : goal.step-returns-in_ok-group-in-Opener-clause-reads
step-returns-in_ok-group-in-Opener-clause-reads t c = λ groups serves.
    ap (λ k. step groups (inner_of groups c.args.depth) c.args.depth (body_as c.args.self.now.builder.nodes c.args.body) (place_as c.args.self.now.names c.args.here) (token_as k)) c.in-Opener.is
    ∙ c.in_ok-group-in-Opener.ensures.reads groups serves

pub body-returns-in_default-clause-refers : goal.body-returns-in_default-clause-refers
body-returns-in_default-clause-refers t c = c.steps.invariant.refers

pub body-returns-in_default-next_token-clause-refers : goal.body-returns-in_default-next_token-clause-refers
body-returns-in_default-next_token-clause-refers t c = λ e. c.in_ok-node.ensures.refers ∙ c.steps.invariant.refers e

pub body-returns-in_default-2-clause-refers : goal.body-returns-in_default-2-clause-refers
body-returns-in_default-2-clause-refers t c = λ e. c.in_ok-read.ensures.refers (c.steps.invariant.refers e)

pub group-returns-clause-grows : goal.group-returns-clause-grows
group-returns-clause-grows t c =
    Grows-trans c.args.self.now.builder.nodes c.body.new.self.builder.nodes c.item.new.self.builder.nodes c.in_ok-inner.ensures.grows
    (Grows-trans c.body.new.self.builder.nodes c.push_group.new.self.builder.nodes c.item.new.self.builder.nodes c.in_ok-node.ensures.grows c.in_ok-item.ensures.grows)
