use Rattle.std.proofs.Common.{◌≡◌, ◌≤◌, List, length, map, refl, sym, ap, ◌∙◌, subst}
use Rattle.std.specs.List.{All, filter_map}
use Rattle.std.proofs.lemmas.List.Elements.{All-nil}
use Rattle.syntect_grammar.specs.syntect_grammar_contexts.declared.context.Pattern.{Pattern}
use Rattle.syntect_grammar.specs.syntect_grammar_contexts.declared.context.Pattern.TheVariants.{Match, Include}
use Rattle.syntect_grammar.specs.Contexts.{set_of}
use Rattle.syntect_grammar.specs.Flats.{Tells, pattern_at}
use Rattle.syntect_grammar_lists.specs.declared.flats.Flat.{Flat}
use Rattle.syntect_grammar.proofs.FlatLaws.{counted_more, entry_at, one_more, tells_more}
use Rattle.syntect_grammar.specs.Walk.{frame}
use Rattle.syntect_grammar.proofs.WalkLaws.{IsWalk}
use Rattle.syntect_grammar.proofs.FrameLaws.{begins, pops, pops_less, takes, passes, passes_less, enters, enters_less}
use Rattle.syntect_grammar.proofs.walk.Walker.walk.Goals as goal

pub entries-init : goal.entries-init
entries-init c = record {
  walk = begins (set_of c.args.syntaxes.now) c.args.root c.begin.new.self.entered c.begin.new.self.frames.items _ c.in_ok-begin.ensures.entered c.in_ok-begin.ensures.frames (ap (filter_map (pattern_at (set_of c.args.syntaxes.now))) c.in_ok-begin.ensures.flats);
  count = rw c.in_ok-begin.ensures.flats refl;
  tells = subst (λ (fs : List Flat). All (Tells (set_of c.args.syntaxes.now)) fs) (sym c.in_ok-begin.ensures.flats) (All-nil (Tells (set_of c.args.syntaxes.now)));
  steps = λ e. e;
}

pub entries-smaller-then-top-entries : goal.entries-smaller-then-top-entries
entries-smaller-then-top-entries c = pops_less (set_of c.args.syntaxes.now) c.args.root c.entries.self.entered c.entries.self.frames.items c.pop.new.self.items c.in-Some.top c.in-Some.ensures.items

pub entries-preserved-then-top-entries : goal.entries-preserved-then-top-entries
entries-preserved-then-top-entries c = record {
  walk = pops (set_of c.args.syntaxes.now) c.args.root c.entries.self.entered c.entries.self.frames.items c.pop.new.self.items c.in-Some.top c.in-Some.ensures.items (filter_map (pattern_at (set_of c.args.syntaxes.now)) c.entries.self.flats.items)
      (subst (λ (es : List Pattern). length es ≤ c.in-Some.top.next) c.entries-entries.ensures c.if-top-entries.true) c.entries.invariant.walk;
  count = c.entries.invariant.count;
  tells = c.entries.invariant.tells;
  steps = λ e. (c.spend.ensures.uncounted (c.entries.invariant.steps e)).1;
}

pub entries-smaller-in-Continue-branch-3 : goal.entries-smaller-in-Continue-branch-3
entries-smaller-in-Continue-branch-3 c =
    passes_less (set_of c.args.syntaxes.now) c.args.root c.entries.self.entered c.entries.self.frames.items c.pop.new.self.items c.in-Some.top c.in-Some.ensures.items
    c.push.new.self.items c.in_ok-push.ensures.items (Match c.in-Match.m) (entry_at c.entries-entries.result.now _ c.entries-entries.ensures c.in-Some.top.next (Match c.in-Match.m) c.index-entries-top.result c.if-top-entries.false (sym c.index-entries-top.is ∙ c.in-Match.is))

pub entries-preserved-in-Continue-branch-3 : goal.entries-preserved-in-Continue-branch-3
entries-preserved-in-Continue-branch-3 c = record {
  walk = takes (set_of c.args.syntaxes.now) c.args.root c.entries.self.entered c.entries.self.frames.items c.pop.new.self.items c.in-Some.top c.in-Some.ensures.items
      c.push.new.self.items c.in_ok-push.ensures.items c.in-Match.m (filter_map (pattern_at (set_of c.args.syntaxes.now)) c.entries.self.flats.items) _ (entry_at c.entries-entries.result.now _ c.entries-entries.ensures c.in-Some.top.next (Match c.in-Match.m) c.index-entries-top.result c.if-top-entries.false (sym c.index-entries-top.is ∙ c.in-Match.is))
      (one_more (set_of c.args.syntaxes.now) c.flat_of.result c.in-Some.top.id c.in-Some.top.next c.in-Match.m c.index-entries-top.result c.entries-entries.result.now c.entries-entries.ensures c.flat_of.ensures.context c.flat_of.ensures.index
      c.if-top-entries.false (sym c.index-entries-top.is ∙ c.in-Match.is) c.entries.self.flats.items c.push-in-Match.new.self.items c.in_ok-push-in-Match.ensures.items) c.entries.invariant.walk;
  count = counted_more (set_of c.args.syntaxes.now) c.flat_of.result c.in-Some.top.id c.in-Some.top.next c.in-Match.m c.index-entries-top.result c.entries-entries.result.now c.entries-entries.ensures c.flat_of.ensures.context c.flat_of.ensures.index
      c.if-top-entries.false (sym c.index-entries-top.is ∙ c.in-Match.is) c.entries.self.flats.items c.push-in-Match.new.self.items c.in_ok-push-in-Match.ensures.items c.entries.invariant.count;
  tells = tells_more (set_of c.args.syntaxes.now) c.flat_of.result c.in-Some.top.id c.in-Some.top.next c.in-Match.m c.index-entries-top.result c.entries-entries.result.now c.entries-entries.ensures c.flat_of.ensures.context c.flat_of.ensures.index
      c.if-top-entries.false (sym c.index-entries-top.is ∙ c.in-Match.is) c.entries.self.flats.items c.push-in-Match.new.self.items c.in_ok-push-in-Match.ensures.items
      c.flat_of.ensures.captures c.flat_of.ensures.begins c.flat_of.ensures.words c.flat_of.ensures.blanks c.flat_of.ensures.edges c.flat_of.ensures.lines c.flat_of.ensures.untold c.entries.invariant.tells;
  steps = λ e. (c.spend.ensures.uncounted (c.entries.invariant.steps e)).1;
}

pub entries-smaller-in-Continue-branch-4 : goal.entries-smaller-in-Continue-branch-4
entries-smaller-in-Continue-branch-4 c =
    enters_less (set_of c.args.syntaxes.now) c.args.root c.entries.self.entered c.entries.self.frames.items c.pop.new.self.items c.in-Some.top c.in-Some.ensures.items
    c.push.new.self.items c.in_ok-push.ensures.items c.in-Include.r (entry_at c.entries-entries.result.now _ c.entries-entries.ensures c.in-Some.top.next (Include c.in-Include.r) c.index-entries-top.result c.if-top-entries.false (sym c.index-entries-top.is ∙ c.in-Include.is)) c.in-Some-entering.id (sym c.in-Some-entering.ensures) c.enter.new.self.entered c.in_ok-enter-in-Include.ensures.entered c.enter.new.self.frames.items c.in_ok-enter-in-Include.ensures.frames

pub entries-preserved-in-Continue-branch-4 : goal.entries-preserved-in-Continue-branch-4
entries-preserved-in-Continue-branch-4 c = record {
  walk = subst (λ (fs : List Flat). IsWalk (set_of c.args.syntaxes.now) c.args.root c.enter.new.self.entered (map (frame (set_of c.args.syntaxes.now)) c.enter.new.self.frames.items) (filter_map (pattern_at (set_of c.args.syntaxes.now)) fs)) (sym (ap (λ v. v.items) c.enter.ensures.flats))
      (enters (set_of c.args.syntaxes.now) c.args.root c.entries.self.entered c.entries.self.frames.items c.pop.new.self.items c.in-Some.top c.in-Some.ensures.items
      c.push.new.self.items c.in_ok-push.ensures.items c.in-Include.r (entry_at c.entries-entries.result.now _ c.entries-entries.ensures c.in-Some.top.next (Include c.in-Include.r) c.index-entries-top.result c.if-top-entries.false (sym c.index-entries-top.is ∙ c.in-Include.is)) c.in-Some-entering.id (sym c.in-Some-entering.ensures) c.enter.new.self.entered c.in_ok-enter-in-Include.ensures.entered c.enter.new.self.frames.items c.in_ok-enter-in-Include.ensures.frames (filter_map (pattern_at (set_of c.args.syntaxes.now)) c.entries.self.flats.items) c.entries.invariant.walk);
  count = subst (λ (fs : List Flat). length fs ≡ length (filter_map (pattern_at (set_of c.args.syntaxes.now)) fs)) (sym (ap (λ v. v.items) c.enter.ensures.flats)) c.entries.invariant.count;
  tells = subst (λ (fs : List Flat). All (Tells (set_of c.args.syntaxes.now)) fs) (sym (ap (λ v. v.items) c.enter.ensures.flats)) c.entries.invariant.tells;
  steps = λ e. (c.spend.ensures.uncounted (c.entries.invariant.steps e)).1;
}

pub entries-smaller : goal.entries-smaller
entries-smaller c =
    passes_less (set_of c.args.syntaxes.now) c.args.root c.entries.self.entered c.entries.self.frames.items c.pop.new.self.items c.in-Some.top c.in-Some.ensures.items
    c.push.new.self.items c.in_ok-push.ensures.items (Include c.in-Include.r) (entry_at c.entries-entries.result.now _ c.entries-entries.ensures c.in-Some.top.next (Include c.in-Include.r) c.index-entries-top.result c.if-top-entries.false (sym c.index-entries-top.is ∙ c.in-Include.is))

pub entries-preserved : goal.entries-preserved
entries-preserved c = record {
  walk = passes (set_of c.args.syntaxes.now) c.args.root c.entries.self.entered c.entries.self.frames.items c.pop.new.self.items c.in-Some.top c.in-Some.ensures.items
      c.push.new.self.items c.in_ok-push.ensures.items c.in-Include.r (entry_at c.entries-entries.result.now _ c.entries-entries.ensures c.in-Some.top.next (Include c.in-Include.r) c.index-entries-top.result c.if-top-entries.false (sym c.index-entries-top.is ∙ c.in-Include.is)) (filter_map (pattern_at (set_of c.args.syntaxes.now)) c.entries.self.flats.items)
      (sym c.in_default-entering.ensures) c.entries.invariant.walk;
  count = c.entries.invariant.count;
  tells = c.entries.invariant.tells;
  steps = λ e. (c.spend.ensures.uncounted (c.entries.invariant.steps e)).1;
}
