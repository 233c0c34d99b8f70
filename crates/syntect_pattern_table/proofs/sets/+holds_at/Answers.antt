use Rattle.std.proofs.Common.{◌∙◌, ap, sym, not, arith, ◌<◌}
use Rattle.syntect_pattern_table.proofs.SetLaws.{set-at, holds-of, left_before, or_right, or_no, and_right, and_yes}
use Rattle.syntect_pattern_table.proofs.sets.+holds_at.Goals as goal

pub returns-in-Range : goal.returns-in-Range
returns-in-Range t c = c.is_within.ensures ∙ holds-of c.args.parts.now c.requires c.parts.place _ c.in-Range.ensures c.args.c ∙ c.parts.invariant.same

pub returns-in-Nothing : goal.returns-in-Nothing
returns-in-Nothing t c = holds-of c.args.parts.now c.requires c.parts.place _ c.in-Nothing.ensures c.args.c ∙ c.parts.invariant.same

pub returns-in-Alike : goal.returns-in-Alike
returns-in-Alike t c = c.is_alike.ensures ∙ holds-of c.args.parts.now c.requires c.parts.place _ c.in-Alike.ensures c.args.c ∙ c.parts.invariant.same

pub returns-in-Named : goal.returns-in-Named
returns-in-Named t c = c.holds.ensures ∙ holds-of c.args.parts.now c.requires c.parts.place _ c.in-Named.ensures c.args.c ∙ c.parts.invariant.same

pub returns-in-Negated : goal.returns-in-Negated
returns-in-Negated t c = ap not c.holds_at.ensures ∙ holds-of c.args.parts.now c.requires c.parts.place _ c.in-Negated.ensures c.args.c ∙ c.parts.invariant.same

pub returns-then-holds_at : goal.returns-then-holds_at
returns-then-holds_at t c =
    sym (or_right _ _ (sym c.holds_at-in-Either.ensures ∙ c.if-holds_at.true)) ∙ holds-of c.args.parts.now c.requires c.parts.place _ c.in-Either.ensures c.args.c ∙ c.parts.invariant.same

pub returns-then-not-holds_at : goal.returns-then-not-holds_at
returns-then-not-holds_at t c =
    sym (and_right _ _ (sym c.holds_at-in-Both.ensures ∙ c.if-not-holds_at.true)) ∙ holds-of c.args.parts.now c.requires c.parts.place _ c.in-Both.ensures c.args.c ∙ c.parts.invariant.same

pub parts-preserved-else-holds_at : goal.parts-preserved-else-holds_at
parts-preserved-else-holds_at t c =
    let p = set-at c.args.parts.now c.requires c.parts.place _ c.in-Either.ensures in
    let l : c.in-Either.rest < c.parts.place = left_before c.in-Either.rest c.in-Either.part c.parts.place p.before in
    record {
      below = let h = c.parts.invariant.below in omega arith;
      same = sym (or_no _ _ (sym c.holds_at-in-Either.ensures ∙ c.if-holds_at.false)) ∙ holds-of c.args.parts.now c.requires c.parts.place _ c.in-Either.ensures c.args.c ∙ c.parts.invariant.same;
    }

pub parts-preserved : goal.parts-preserved
parts-preserved t c =
    let p = set-at c.args.parts.now c.requires c.parts.place _ c.in-Both.ensures in
    let l : c.in-Both.rest < c.parts.place = left_before c.in-Both.rest c.in-Both.part c.parts.place p.before in
    record {
      below = let h = c.parts.invariant.below in omega arith;
      same = sym (and_yes _ _ (sym c.holds_at-in-Both.ensures ∙ c.if-not-holds_at.false)) ∙ holds-of c.args.parts.now c.requires c.parts.place _ c.in-Both.ensures c.args.c ∙ c.parts.invariant.same;
    }
