-- The contest of the single rules over a stack with one scope more on top.
use Rattle.std.proofs.Common.{◌≡◌, ℕ, suc, ◌*◌, ◌^◌, ◌<◌, ◌≤◌, ◌%◌, ◌==◌, Bool, true, false, ◌||◌, ◌&&◌, if◌then◌else◌, List, [], ◌∷◌, ◌++◌, length, Option, Some, None, refl, sym, ap, subst, ◌∙◌, inl, arith, lit<, length-append}
use Rattle.std.specs.Prelude.{nat_lt}
use Rattle.std.specs.List.{filter, list_any}
use Rattle.std.specs.Option.{option_map}
use Rattle.std.proofs.lemmas.Bool.Decides.{nat_tests}
use Rattle.std.proofs.Math.Nat.{pow-le-pow_right, pow-succ', one-le-pow, mul-lt-mul_of_pos_left, mul-lt-mul_of_pos_right}
use Rattle.syntect_style.specs.syntect_scope.Atoms.{is_prefix}
use Rattle.syntect_style.specs.Candidates.{Candidate, candidate, deepest, further, single_score}
use Rattle.syntect_style.specs.Rules.{against, after_rules, top_score, after_top, worth, IsBelow, IsWorthPrevailing, single_rules, other_rules, after_others}
use Rattle.syntect_style.specs.Buckets.{bucket_of, has_no_atoms, may_match}
use Rattle.syntect_style.proofs.ContestLaws.{against_grouped, IsOther, others_stay, better_value}
use Rattle.syntect_style.proofs.TopLaws.{value_of, power_of, deepest_more, deepest_within, nothing_deepest, Tracks, IsAt, below_against, step_below, step_above, step_nought, tracked_worth, same_worth}
use Rattle.syntect_theme.specs.declared.style.StyleModifier.{StyleModifier}
use Rattle.syntect_theme.specs.declared.theme.Theme.{Theme}
use Rattle.syntect_style.specs.declared.scores.Rule.{Rule}

-- some atoms at a place weigh more than at a lower one
heavier : (k p n : ℕ) → 0 < k → p < n → k * 8 ^ p < k * 8 ^ n
heavier k p n l m =
    let up : 8 * 8 ^ p ≤ 8 ^ n = rw pow-succ' at (pow-le-pow_right {n = 8} (lit< tt) {i = suc p} {j = n} m) in
    let pos : 0 < 8 ^ p = one-le-pow p 8 (lit< tt) in
    let less : 8 ^ p < 8 ^ n = omega arith in
    mul-lt-mul_of_pos_left less l

weighs : (k p : ℕ) → 0 < k → 0 < k * 8 ^ p
weighs k p l = let pos : 0 < 8 ^ p = one-le-pow p 8 (lit< tt) in let m : 0 * 8 ^ p < k * 8 ^ p = mul-lt-mul_of_pos_right l pos in omega arith

module _ {V : Type 0} (stack : List (List ℕ)) (top : List ℕ) where
  -- one rule more, of a value v and a scope s
  tracks_step : (a m b : Option (Candidate V)) → Tracks V (length stack) a m b → (v : Option V) (s : List ℕ)
      → Tracks V (length stack) (against a (candidate v (single_score s stack))) (against m (candidate v (top_score s top (length stack)))) (against b (candidate v (single_score s (stack ++ top ∷ []))))
  tracks_step a m b h None s = h
  tracks_step a m b h (Some v) s = rw (deepest_more s stack top) (by s (is_prefix s top) refl (deepest s stack) refl)
    where
      scored : ℕ → List ℕ → Candidate V
      scored p s = record { value = v; score = record { power = length s * 8 ^ p; place = Some p } }

      by : (s : List ℕ) (t : Bool) → is_prefix s top ≡ t → (o : Option ℕ) → deepest s stack ≡ o → Tracks V (length stack)
          (against a (candidate (Some v) (option_map (λ place. record { power = length s * 8 ^ place; place = Some place }) o)))
          (against m (candidate (Some v) (if t then Some (record { power = length s * 8 ^ length stack; place = Some (length stack) }) else None)))
          (against b (candidate (Some v) (option_map (λ place. record { power = length s * 8 ^ place; place = Some place }) (if t then Some (length stack) else o))))
      by s false e None f = h
      by [] false e (Some p) f = cc
      by (x ∷ s) false e (Some p) f =
          step_below (length stack) a m b h (record { value = v; score = record { power = length (x ∷ s) * 8 ^ p; place = Some p } })
          (p, refl, deepest_within (x ∷ s) stack p f) (weighs (length (x ∷ s)) p (omega arith))
      by [] true e None f = step_nought (length stack) a m b h None (record { value = v; score = record { power = 0 * 8 ^ length stack; place = Some (length stack) } }) refl (omega arith) (no_place stack f)
        where
          no_place : (stack : List (List ℕ)) → deepest [] stack ≡ None → length stack ≡ 0
          no_place [] g = refl
          no_place (x ∷ stack) g = some_top (deepest [] stack) g
            where
              some_top : (o : Option ℕ) → further true o ≡ None → suc (length stack) ≡ 0
              some_top (Some q) g = cc
              some_top None g = cc
      by [] true e (Some p) f =
          step_nought (length stack) a m b h (Some (record { value = v; score = record { power = 0 * 8 ^ p; place = Some p } })) (record { value = v; score = record { power = 0 * 8 ^ length stack; place = Some (length stack) } }) refl (omega arith)
          (refl, omega arith, (p, refl, nothing_deepest stack p f))
      by (x ∷ s) true e None f =
          step_above (length stack) a m b h None (record { value = v; score = record { power = length (x ∷ s) * 8 ^ length stack; place = Some (length stack) } }) tt tt refl (weighs (length (x ∷ s)) (length stack) (omega arith))
      by (x ∷ s) true e (Some p) f =
          let l : p < length stack = deepest_within (x ∷ s) stack p f in
          step_above (length stack) a m b h (Some (record { value = v; score = record { power = length (x ∷ s) * 8 ^ p; place = Some p } })) (record { value = v; score = record { power = length (x ∷ s) * 8 ^ length stack; place = Some (length stack) } })
          (p, refl, l) (heavier (length (x ∷ s)) p (length stack) (omega arith) l) refl (weighs (length (x ∷ s)) (length stack) (omega arith))

  module _ (attribute : StyleModifier → Option V) where
    tracks_rules : (rules : List Rule) (a m b : Option (Candidate V)) → Tracks V (length stack) a m b
        → Tracks V (length stack) (after_rules attribute stack a rules) (after_top attribute top (length stack) m rules) (after_rules attribute (stack ++ top ∷ []) b rules)
    tracks_rules [] a m b h = h
    tracks_rules (r ∷ rules) a m b h = tracks_rules rules _ _ _ (tracks_step a m b h (attribute r.style) r.scope)

-- what stands at the top is put against what stood before
after_top_grouped : {V : Type 0} (attribute : StyleModifier → Option V) (top : List ℕ) (n : ℕ) (rules : List Rule) (best more : Option (Candidate V))
    → after_top attribute top n (against best more) rules ≡ against best (after_top attribute top n more rules)
after_top_grouped attribute top n [] best more = refl
after_top_grouped attribute top n (r ∷ rules) best more =
    ap (λ x. after_top attribute top n x rules) (against_grouped best more (candidate (attribute r.style) (top_score r.scope top n)))
    ∙ after_top_grouped attribute top n rules best (against more (candidate (attribute r.style) (top_score r.scope top n)))

-- one scope more on top: what stood, against the rules that match it
pub stands_more : {V : Type 0} (attribute : StyleModifier → Option V) (theme : Theme) (stack : List (List ℕ)) (top : List ℕ) (c : Option (Candidate V)) → IsWorthPrevailing V attribute theme stack c
    → IsWorthPrevailing V attribute theme (stack ++ top ∷ []) (after_top attribute top (length stack) c (single_rules theme))
stands_more {V} attribute theme stack top c h = record {
  same = ap worth e ∙ same_worth (length stack) c k m h.same h.below t.low t.at_top ∙ sym (tracked_worth (length stack) k m _ t);
  below = subst (IsBelow (length (stack ++ top ∷ []))) (sym e) (raised (against c m) (below_top c m h.below t.at_top));
}
  where
    rules : List Rule
    rules = single_rules theme

    k : Option (Candidate V)
    k = after_rules attribute stack None rules

    m : Option (Candidate V)
    m = after_top attribute top (length stack) None rules

    t : Tracks V (length stack) k m (after_rules attribute (stack ++ top ∷ []) None rules)
    t = tracks_rules stack top attribute rules None None None (record { low = tt; at_top = tt; tracks = inl refl; nought = λ e l. e })

    e : after_top attribute top (length stack) c rules ≡ against c m
    e = after_top_grouped attribute top (length stack) rules c None

    raised : (o : Option (Candidate V)) → IsBelow (suc (length stack)) o → IsBelow (length (stack ++ top ∷ [])) o
    raised None i = tt
    raised (Some c) i = (i.0, i.1, omega (arith, length-append stack (top ∷ []), i.2))

    below_top : (c m : Option (Candidate V)) → IsBelow (length stack) c → IsAt (length stack) m → IsBelow (suc (length stack)) (against c m)
    below_top c m i j = below_against (suc (length stack)) c m (more c i) (at m j)
      where
        more : (c : Option (Candidate V)) → IsBelow (length stack) c → IsBelow (suc (length stack)) c
        more None i = tt
        more (Some c) i = (i.0, i.1, omega (arith, i.2))

        at : (m : Option (Candidate V)) → IsAt (length stack) m → IsBelow (suc (length stack)) m
        at None j = tt
        at (Some y) j = (length stack, j, omega arith)

-- before the first scope nothing stands
pub nothing_stands : {V : Type 0} (attribute : StyleModifier → Option V) (theme : Theme) → IsWorthPrevailing V attribute theme [] None
nothing_stands {V} attribute theme = record {
  same = sym (ap worth (none (single_rules theme)));
  below = tt;
}
  where
    none_scored : (v : Option V) → candidate v None ≡ None
    none_scored None = refl
    none_scored (Some v) = refl

    none : (rules : List Rule) → after_rules attribute [] None rules ≡ None
    none [] = refl
    none (r ∷ rules) = ap (λ x. after_rules attribute [] (against None x) rules) (none_scored (attribute r.style)) ∙ none rules

-- ---- buckets ----

same_number : (m : ℕ) → (m == m) ≡ true
same_number m = grind (arith, nat_tests)

-- a rule that matches a scope can match the scopes of its bucket
in_bucket : (scope top : List ℕ) → is_prefix scope top ≡ true → (has_no_atoms scope || (bucket_of scope == bucket_of top)) ≡ true
in_bucket [] top e = refl
in_bucket (x ∷ scope) [] e = cc
in_bucket (x ∷ scope) (y ∷ top) e = by (x == y) _ refl e
  where
    by : (b rest : Bool) → (x == y) ≡ b → (b && rest) ≡ true → (bucket_of (x ∷ scope) == bucket_of (y ∷ top)) ≡ true
    by true rest f g = let h : x ≡ y = grind (arith, nat_tests) in rw h (same_number (y % 32))
    by false rest f g = cc

unscored_candidate : {V : Type 0} (v : Option V) → candidate v None ≡ None
unscored_candidate None = refl
unscored_candidate (Some v) = refl

pub bucket_top : {V : Type 0} (attribute : StyleModifier → Option V) (top : List ℕ) (n : ℕ) (best : Option (Candidate V)) (rules : List Rule)
    → after_top attribute top n best (filter (may_match (bucket_of top)) rules) ≡ after_top attribute top n best rules
bucket_top attribute top n best [] = refl
bucket_top {V} attribute top n best (r ∷ rules) = by (λ best. bucket_top attribute top n best rules) (may_match (bucket_of top) r) refl (is_prefix r.scope top) refl
  where
    c : Option (Candidate V)
    c = candidate (attribute r.style) (top_score r.scope top n)

    by : ((best : Option (Candidate V)) → after_top attribute top n best (filter (may_match (bucket_of top)) rules) ≡ after_top attribute top n best rules) → (b : Bool) → may_match (bucket_of top) r ≡ b → (t : Bool) → is_prefix r.scope top ≡ t
        → after_top attribute top n best (if b then r ∷ filter (may_match (bucket_of top)) rules else filter (may_match (bucket_of top)) rules) ≡ after_top attribute top n (against best c) rules
    by rest true e t f = rest (against best c)
    by rest false e true f = let g : may_match (bucket_of top) r ≡ true = in_bucket r.scope top f in cc
    by rest false e false f =
        let u : top_score r.scope top n ≡ None = rw f refl in
        rest best ∙ ap (λ o. after_top attribute top n (against best o) rules) (sym (ap (candidate (attribute r.style)) u ∙ unscored_candidate (attribute r.style)))

-- the rules of a bucket are enough to tell whether one matches
pub bucket_any : (top : List ℕ) (rules : List Rule) → list_any (λ r. is_prefix r.scope top) (filter (may_match (bucket_of top)) rules) ≡ list_any (λ r. is_prefix r.scope top) rules
bucket_any top [] = refl
bucket_any top (r ∷ rules) = by (bucket_any top rules) (may_match (bucket_of top) r) refl (is_prefix r.scope top) refl
  where
    by : list_any (λ r. is_prefix r.scope top) (filter (may_match (bucket_of top)) rules) ≡ list_any (λ r. is_prefix r.scope top) rules → (b : Bool) → may_match (bucket_of top) r ≡ b → (t : Bool) → is_prefix r.scope top ≡ t
        → list_any (λ r. is_prefix r.scope top) (if b then r ∷ filter (may_match (bucket_of top)) rules else filter (may_match (bucket_of top)) rules) ≡ (is_prefix r.scope top || list_any (λ r. is_prefix r.scope top) rules)
    by rest true e t f = ap (λ b. is_prefix r.scope top || b) rest
    by rest false e true f = let g : may_match (bucket_of top) r ≡ true = in_bucket r.scope top f in cc
    by rest false e false f = rest ∙ rw f refl

-- one scope more on top, by the rules of its bucket
pub stands_bucket : {V : Type 0} (attribute : StyleModifier → Option V) (theme : Theme) (stack : List (List ℕ)) (top : List ℕ) (n : ℕ) (rules : List Rule) (c d : Option (Candidate V))
    → rules ≡ filter (may_match (bucket_of top)) (single_rules theme) → length stack ≡ n → d ≡ after_top attribute top n c rules → IsWorthPrevailing V attribute theme stack c → IsWorthPrevailing V attribute theme (stack ++ top ∷ []) d
stands_bucket {V} attribute theme stack top n rules c d e l f h =
    subst (IsWorthPrevailing V attribute theme (stack ++ top ∷ []))
    (sym (f ∙ ap (λ n. after_top attribute top n c rules) (sym l) ∙ ap (after_top attribute top (length stack) c) e ∙ bucket_top attribute top (length stack) c (single_rules theme)))
    (stands_more attribute theme stack top c h)

-- ---- the better one of those and the others ----

-- of two that are worth the same, each against the same other one, the same value prevails
same_value : {V : Type 0} (c k o : Option (Candidate V)) → worth c ≡ worth k → IsOther o → option_map (λ x. x.value) (against c o) ≡ option_map (λ x. x.value) (against k o)
same_value None None o w i = refl
same_value None (Some k) o w i = cc
same_value (Some c) None o w i = cc
same_value {V} (Some c) (Some k) None w i = ap (λ (v : V). Some v) (ap (value_of c.value) w)
same_value {V} (Some c) (Some k) (Some o) w i = by (nat_lt c.score.power o.score.power) refl
  where
    v : c.value ≡ k.value
    v = ap (value_of c.value) w

    p : c.score.power ≡ k.score.power
    p = ap power_of w

    never : (t : Bool) → (t && false) ≡ false
    never true = refl
    never false = refl

    by : (b : Bool) → nat_lt c.score.power o.score.power ≡ b → option_map (λ x. x.value) (against (Some c) (Some o)) ≡ option_map (λ x. x.value) (against (Some k) (Some o))
    by true f = rw (f, ← p, f) refl
    by false f = rw (f, ← p, f, i, never (o.score.power == c.score.power), v) refl

pub value_stands : {V : Type 0} (attribute : StyleModifier → Option V) (theme : Theme) (stack : List (List ℕ)) (c o : Option (Candidate V)) (v : Option V) → IsWorthPrevailing V attribute theme stack c
    → o ≡ after_others attribute stack None (other_rules theme) → v ≡ option_map (λ x. x.value) (against c o) → v ≡ better_value attribute stack (single_rules theme) (other_rules theme)
value_stands {V} attribute theme stack c o v h e f =
    f ∙ same_value c (after_rules attribute stack None (single_rules theme)) o h.same (subst IsOther (sym e) (others_stay attribute stack None (other_rules theme) tt))
    ∙ ap (λ o. option_map (λ (x : Candidate V). x.value) (against (after_rules attribute stack None (single_rules theme)) o)) e
