use Rattle.std.proofs.Common.{◌∙◌, sym, arith, ◌<◌}
use Rattle.syntect_pattern_table.proofs.SetLaws.{set-at, wide-of, left_before, or_right, or_no, and_right, and_yes}
use Rattle.syntect_pattern_table.proofs.sets.+is_wide_at.Goals as goal

pub returns-in-Range : goal.returns-in-Range
returns-in-Range t c = c.is_beyond.ensures ∙ wide-of c.args.parts.now c.requires c.parts.place _ c.in-Range.ensures ∙ c.parts.invariant.same

pub returns-in-Nothing : goal.returns-in-Nothing
returns-in-Nothing t c = wide-of c.args.parts.now c.requires c.parts.place _ c.in-Nothing.ensures ∙ c.parts.invariant.same

pub returns-in-Alike : goal.returns-in-Alike
returns-in-Alike t c = c.is_alike_wide.ensures ∙ wide-of c.args.parts.now c.requires c.parts.place _ c.in-Alike.ensures ∙ c.parts.invariant.same

pub returns-in-Named : goal.returns-in-Named
returns-in-Named t c = c.is_named_wide.ensures ∙ wide-of c.args.parts.now c.requires c.parts.place _ c.in-Named.ensures ∙ c.parts.invariant.same

pub returns-in-Negated : goal.returns-in-Negated
returns-in-Negated t c = wide-of c.args.parts.now c.requires c.parts.place _ c.in-Negated.ensures ∙ c.parts.invariant.same

pub returns-then-is_wide_at : goal.returns-then-is_wide_at
returns-then-is_wide_at t c =
    sym (or_right _ _ (sym c.is_wide_at.ensures ∙ c.if-is_wide_at.true)) ∙ wide-of c.args.parts.now c.requires c.parts.place _ c.in-Either.ensures ∙ c.parts.invariant.same

pub returns-then-not-is_wide_at : goal.returns-then-not-is_wide_at
returns-then-not-is_wide_at t c =
    sym (and_right _ _ (sym c.is_wide_at-in-Both.ensures ∙ c.if-not-is_wide_at.true)) ∙ wide-of c.args.parts.now c.requires c.parts.place _ c.in-Both.ensures ∙ c.parts.invariant.same

pub parts-preserved-else-is_wide_at : goal.parts-preserved-else-is_wide_at
parts-preserved-else-is_wide_at t c =
    let p = set-at c.args.parts.now c.requires c.parts.place _ c.in-Either.ensures in
    let l : c.in-Either.rest < c.parts.place = left_before c.in-Either.rest c.in-Either.part c.parts.place p.before in
    record {
      below = let h = c.parts.invariant.below in omega arith;
      same = sym (or_no _ _ (sym c.is_wide_at.ensures ∙ c.if-is_wide_at.false)) ∙ wide-of c.args.parts.now c.requires c.parts.place _ c.in-Either.ensures ∙ c.parts.invariant.same;
    }

pub parts-preserved : goal.parts-preserved
parts-preserved t c =
    let p = set-at c.args.parts.now c.requires c.parts.place _ c.in-Both.ensures in
    let l : c.in-Both.rest < c.parts.place = left_before c.in-Both.rest c.in-Both.part c.parts.place p.before in
    record {
      below = let h = c.parts.invariant.below in omega arith;
      same = sym (and_yes _ _ (sym c.is_wide_at-in-Both.ensures ∙ c.if-not-is_wide_at.false)) ∙ wide-of c.args.parts.now c.requires c.parts.place _ c.in-Both.ensures ∙ c.parts.invariant.same;
    }
