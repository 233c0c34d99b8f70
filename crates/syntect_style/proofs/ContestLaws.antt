-- The better one of those that stand after the single rules and after the others is the first that
-- none beats.
use Rattle.std.proofs.Common.{◌≡◌, ℕ, zero, suc, ◌<◌, ◌*◌, ◌^◌, cond, if◌then◌else◌, Bool, true, false, not, List, [], ◌∷◌, ◌++◌, length, get_or, Option, Some, None, refl, sym, ap, ◌∙◌, arith}
use Rattle.std.specs.Prelude.{◌≢◌, find, IsSomeAnd}
use Rattle.std.specs.Option.{option_map}
use Rattle.std.specs.List.{cons_option, filter_map, flat_map, list_all, best_of, IsFirstBest}
use Rattle.std.proofs.lemmas.List.MinMax.{IsFirstBest-from_best_of}
use Rattle.std.proofs.lemmas.List.Folds.{list_all_at}
use Rattle.std.proofs.lemmas.List.{get_or_default}
use Rattle.std.proofs.lemmas.List.Elements.{Contains-get_or}
use Rattle.syntect_style.specs.syntect_scope.Choice.{selector_score}
use Rattle.syntect_style.specs.syntect_scope.declared.selector.ScopeSelector.{ScopeSelector}
use Rattle.syntect_style.specs.syntect_scope.SelectorText.{sole_scope}
use Rattle.syntect_style.specs.Candidates.{single_score, other_score, score_of, Candidate, candidate, candidates, beats, prevailing, deepest}
use Rattle.syntect_style.specs.Laws.{IsGreatest}
use Rattle.syntect_style.specs.Rules.{rule_of, item_rules, single_rules, against, after_rules, other_of, item_others, other_rules, after_others}
use Rattle.syntect_style.specs.Styling.{winners}
use Rattle.syntect_theme.specs.declared.style.Color.{Color}
use Rattle.syntect_theme.specs.declared.style.FontStyle.{FontStyle}
use Rattle.syntect_theme.specs.declared.style.StyleModifier.{StyleModifier}
use Rattle.syntect_theme.specs.declared.theme.ThemeItem.{ThemeItem}
use Rattle.syntect_theme.specs.declared.theme.Theme.{Theme}
use Rattle.syntect_style.specs.declared.scores.Rule.{Rule}
use Rattle.syntect_style.proofs.OrderLaws.{beats_order, one_of_two}

-- ---- the best of a list ----

abbrev pub better : {V : Type 0} → Candidate V → Candidate V → Bool
better x y = beats x.score y.score

-- the candidates in turn, against the one that stands
abbrev pub in_turn : {V : Type 0} → Option (Candidate V) → List (Candidate V) → Option (Candidate V)
in_turn best [] = best
in_turn best (c ∷ cs) = in_turn (against best (Some c)) cs

in_turn_step : {V : Type 0} (b c : Candidate V) (cs : List (Candidate V)) → in_turn (Some c) cs ≡ Some (best_of better c cs) → in_turn (Some b) cs ≡ Some (best_of better b cs)
    → in_turn (Some b) (c ∷ cs) ≡ Some (best_of better b (c ∷ cs))
in_turn_step b c cs takes keeps = split (beats c.score b.score) refl
  where
    split : (t : Bool) → beats c.score b.score ≡ t → in_turn (Some b) (c ∷ cs) ≡ Some (best_of better b (c ∷ cs))
    split true e = rw e takes
    split false e = rw e keeps

in_turn_best : {V : Type 0} (b : Candidate V) (cs : List (Candidate V)) → in_turn (Some b) cs ≡ Some (best_of better b cs)
in_turn_best b [] = refl
in_turn_best b (c ∷ cs) = in_turn_step b c cs (in_turn_best c cs) (in_turn_best b cs)

all_pass : {X : Type 0} (p : X → Bool) (xs : List X) (d : X) → ((k : ℕ) → k < length xs → p (get_or xs k d) ≡ true) → list_all p xs ≡ true
all_pass p [] d h = refl
all_pass p (x ∷ xs) d h = rw (h 0 (omega arith), all_pass p xs d (λ k l. h (suc k) (omega arith))) refl

find_first : {X : Type 0} (p : X → Bool) (xs : List X) (b : ℕ) (d : X) → b < length xs → p (get_or xs b d) ≡ true → ((k : ℕ) → k < b → p (get_or xs k d) ≡ false) → find p xs ≡ Some (get_or xs b d)
find_first p [] b d l t f = absurd (omega arith)
find_first p (x ∷ xs) zero d l t f = rw t refl
find_first p (x ∷ xs) (suc b) d l t f = rw (f 0 (omega arith)) (find_first p xs b d (omega arith) t (λ k m. f (suc k) (omega arith)))

first_prevails : {V : Type 0} (cs : List (Candidate V)) (b : ℕ) (d : Candidate V) → IsFirstBest better cs (length cs) b → prevailing cs ≡ Some (get_or cs b d)
first_prevails cs b d h =
    find_first (λ c. list_all (λ e. not (beats e.score c.score)) cs) cs b d h.0
    (all_pass (λ e. not (beats e.score (get_or cs b d).score)) cs d (λ k l. rw (h.1 k d l) refl))
    (λ k l. list_all_at (λ e. not (beats e.score (get_or cs k d).score)) cs b d h.0 (rw (h.2 k d l) refl))

pub in_turn_prevails : {V : Type 0} (cs : List (Candidate V)) → in_turn None cs ≡ prevailing cs
in_turn_prevails [] = refl
in_turn_prevails {V} (c ∷ cs) =
    let i : (b : ℕ) × IsFirstBest (better {V = V}) (c ∷ cs) (length (c ∷ cs)) b × (get_or (c ∷ cs) b c ≡ best_of better c cs) = IsFirstBest-from_best_of beats_order c cs in
    in_turn_best c cs ∙ ap (λ (x : Candidate V). Some x) (sym i.2) ∙ sym (first_prevails (c ∷ cs) i.0 c i.1)

-- where there is a candidate the one that prevails is the greatest
pub one_prevails : {V : Type 0} (cs : List (Candidate V)) → cs ≢ [] → IsSomeAnd (prevailing cs) (IsGreatest V cs)
one_prevails [] n = absurd (n refl)
one_prevails {V} (c ∷ cs) n =
    let i : (b : ℕ) × IsFirstBest (better {V = V}) (c ∷ cs) (length (c ∷ cs)) b × (get_or (c ∷ cs) b c ≡ best_of better c cs) = IsFirstBest-from_best_of beats_order c cs in
    rw (first_prevails (c ∷ cs) i.0 c i.1) (record {
      among = Contains-get_or (c ∷ cs) i.0 c i.1.0;
      unbeaten = λ k d l. rw (get_or_default (c ∷ cs) k d c l) (i.1.1 k c l);
    })

-- ---- one against another ----

same_value : {X : Type 0} (b : Bool) (x : X) → cond b x x ≡ x
same_value true x = refl
same_value false x = refl

not_both : (b : Bool) → b ≡ true → b ≡ false → ⊥
not_both b e f = cc

-- the order in which candidates are put against each other doesn't matter, as long as theirs stays
pub against_grouped : {V : Type 0} (a b c : Option (Candidate V)) → against (against a b) c ≡ against a (against b c)
against_grouped None None None = refl
against_grouped None None (Some c) = refl
against_grouped None (Some b) None = refl
against_grouped None (Some b) (Some c) = by (beats c.score b.score)
  where
    by : (t : Bool) → (if t then Some c else Some b) ≡ against None (if t then Some c else Some b)
    by true = refl
    by false = refl
against_grouped (Some a) None None = refl
against_grouped (Some a) None (Some c) = refl
against_grouped (Some a) (Some b) None = refl
against_grouped {V} (Some a) (Some b) (Some c) = by (beats b.score a.score) (beats c.score b.score) (beats c.score a.score) refl refl refl
  where
    by : (p q r : Bool) → beats b.score a.score ≡ p → beats c.score b.score ≡ q → beats c.score a.score ≡ r
        → against (if beats b.score a.score then Some b else Some a) (Some c) ≡ against (Some a) (if beats c.score b.score then Some c else Some b)
    by true true true d e f = rw (d, e, f) refl
    by true true false d e f = absurd (not_both (beats c.score b.score) e ((beats_order {V = V}).chain c a b f ((beats_order {V = V}).one_way b a d)))
    by true false r d e f = rw (d, e, d) refl
    by false true r d e f = rw (d, e, f) refl
    by false false true d e f = absurd (not_both (beats c.score a.score) f ((beats_order {V = V}).chain c b a e d))
    by false false false d e f = rw (d, e, f, d) refl

-- a candidate of a single rule, and one of another
abbrev IsSingle : {V : Type 0} → Option (Candidate V) → Type 0
IsSingle None = Unit {0}
IsSingle (Some c) = (p : ℕ) × (c.score.place ≡ Some p)

abbrev pub IsOther : {V : Type 0} → Option (Candidate V) → Type 0
IsOther None = Unit {0}
IsOther (Some c) = c.score.place ≡ None

-- one of the two beats the other
against_either : {V : Type 0} (o c : Option (Candidate V)) → IsOther o → IsSingle c → against o c ≡ against c o
against_either None None i j = refl
against_either None (Some c) i j = refl
against_either (Some o) None i j = refl
against_either (Some o) (Some c) i j = by (beats c.score o.score) (beats o.score c.score) refl refl (one_of_two c.score o.score j.0 j.1 i)
  where
    by : (p q : Bool) → beats c.score o.score ≡ p → beats o.score c.score ≡ q → beats o.score c.score ≡ not (beats c.score o.score) → (if beats c.score o.score then Some c else Some o) ≡ (if beats o.score c.score then Some o else Some c)
    by true true d e f = absurd (not_both (beats o.score c.score) e (f ∙ ap not d))
    by true false d e f = rw (d, e) refl
    by false true d e f = rw (d, e) refl
    by false false d e f = absurd (not_both (beats o.score c.score) (f ∙ ap not d) e)

swapped : {V : Type 0} (s o c : Option (Candidate V)) → IsOther o → IsSingle c → against (against s o) c ≡ against (against s c) o
swapped s o c i j = against_grouped s o c ∙ ap (against s) (against_either o c i j) ∙ sym (against_grouped s c o)

other_stays : {V : Type 0} (o c : Option (Candidate V)) → IsOther o → IsOther c → IsOther (against o c)
other_stays None None i j = tt
other_stays None (Some c) i j = j
other_stays (Some o) None i j = i
other_stays {V} (Some o) (Some c) i j = by (beats c.score o.score)
  where
    by : (t : Bool) → IsOther {V = V} (if t then Some c else Some o)
    by true = j
    by false = i

-- ---- the candidates of a theme, the single ones and the others ----

module _ {V : Type 0} (attribute : StyleModifier → Option V) (stack : List (List ℕ)) where
  after_rules-append : (best : Option (Candidate V)) (xs ys : List Rule) → after_rules attribute stack best (xs ++ ys) ≡ after_rules attribute stack (after_rules attribute stack best xs) ys
  after_rules-append best [] ys = refl
  after_rules-append best (x ∷ xs) ys = after_rules-append (against best (candidate (attribute x.style) (single_score x.scope stack))) xs ys

  others-append : (best : Option (Candidate V)) (xs ys : List (ScopeSelector × StyleModifier)) → after_others attribute stack best (xs ++ ys) ≡ after_others attribute stack (after_others attribute stack best xs) ys
  others-append best [] ys = refl
  others-append best (x ∷ xs) ys = others-append (against best (candidate (attribute x.1) (other_score x.0 stack))) xs ys

  in_turn-append : (best : Option (Candidate V)) (xs ys : List (Candidate V)) → in_turn best (xs ++ ys) ≡ in_turn (in_turn best xs) ys
  in_turn-append best [] ys = refl
  in_turn-append best (x ∷ xs) ys = in_turn-append (against best (Some x)) xs ys

  in_turn-cons : (best o : Option (Candidate V)) (cs : List (Candidate V)) → in_turn best (cons_option o cs) ≡ in_turn (against best o) cs
  in_turn-cons None None cs = refl
  in_turn-cons (Some b) None cs = refl
  in_turn-cons best (Some c) cs = refl

  single_candidate : (v : Option V) (o : Option ℕ) (scope : List ℕ) → IsSingle (candidate v (option_map (λ place. record { power = length scope * 8 ^ place; place = Some place }) o))
  single_candidate None o scope = tt
  single_candidate (Some v) None scope = tt
  single_candidate (Some v) (Some p) scope = (p, refl)

  other_candidate : (v : Option V) (o : Option ℕ) → IsOther (candidate v (option_map (λ power. record { power = power; place = None }) o))
  other_candidate None o = tt
  other_candidate (Some v) None = tt
  other_candidate (Some v) (Some p) = refl

  pub others_stay : (best : Option (Candidate V)) (others : List (ScopeSelector × StyleModifier)) → IsOther best → IsOther (after_others attribute stack best others)
  others_stay best [] i = i
  others_stay best (o ∷ others) i =
      others_stay (against best (candidate (attribute o.1) (other_score o.0 stack))) others (other_stays best (candidate (attribute o.1) (other_score o.0 stack)) i (other_candidate (attribute o.1) (selector_score o.0 stack)))

  -- both in their places
  abbrev Parted : Option (Candidate V) → Option (Candidate V) → List (Candidate V) → List Rule → List (ScopeSelector × StyleModifier) → Type 0
  Parted s o cs rules others = in_turn (against s o) cs ≡ against (after_rules attribute stack s rules) (after_others attribute stack o others)

  selectors_parted : (style : StyleModifier) (selectors : List ScopeSelector) (s o : Option (Candidate V)) → IsOther o
      → Parted s o (filter_map (λ sel. candidate (attribute style) (score_of sel stack)) selectors) (filter_map (λ sel. rule_of (sole_scope sel) style) selectors)
      (filter_map (λ sel. other_of (sole_scope sel) sel style) selectors)
  selectors_parted style [] s o i = refl
  selectors_parted style (sel ∷ selectors) s o i = by (sole_scope sel) refl (λ s o i. selectors_parted style selectors s o i)
    where
      by : (k : Option (List ℕ)) → sole_scope sel ≡ k
          → ((s o : Option (Candidate V)) → IsOther o → Parted s o (filter_map (λ sel. candidate (attribute style) (score_of sel stack)) selectors) (filter_map (λ sel. rule_of (sole_scope sel) style) selectors)
          (filter_map (λ sel. other_of (sole_scope sel) sel style) selectors))
          → Parted s o (filter_map (λ sel. candidate (attribute style) (score_of sel stack)) (sel ∷ selectors)) (filter_map (λ sel. rule_of (sole_scope sel) style) (sel ∷ selectors))
          (filter_map (λ sel. other_of (sole_scope sel) sel style) (sel ∷ selectors))
      by (Some scope) e rest =
          let c : Option (Candidate V) = candidate (attribute style) (single_score scope stack) in
          rw e (in_turn-cons (against s o) c _ ∙ ap (λ b. in_turn b (filter_map (λ sel. candidate (attribute style) (score_of sel stack)) selectors)) (swapped s o c i (single_candidate (attribute style) (deepest scope stack) scope)) ∙ rest (against s c) o i)
      by None e rest =
          let c : Option (Candidate V) = candidate (attribute style) (other_score sel stack) in
          rw e (in_turn-cons (against s o) c _ ∙ ap (λ b. in_turn b (filter_map (λ sel. candidate (attribute style) (score_of sel stack)) selectors)) (against_grouped s o c) ∙ rest s (against o c) (other_stays o c i (other_candidate (attribute style) (selector_score sel stack))))

  items_parted : (items : List ThemeItem) (s o : Option (Candidate V)) → IsOther o
      → Parted s o (flat_map (λ item. filter_map (λ sel. candidate (attribute item.style) (score_of sel stack)) item.scope.selectors) items) (flat_map item_rules items) (flat_map item_others items)
  items_parted [] s o i = refl
  items_parted (item ∷ items) s o i =
      in_turn-append (against s o) (filter_map (λ sel. candidate (attribute item.style) (score_of sel stack)) item.scope.selectors) _
      ∙ ap (λ b. in_turn b (flat_map (λ item. filter_map (λ sel. candidate (attribute item.style) (score_of sel stack)) item.scope.selectors) items)) (selectors_parted item.style item.scope.selectors s o i)
      ∙ items_parted items (after_rules attribute stack s (item_rules item)) (after_others attribute stack o (item_others item)) (others_stay o (item_others item) i)
      ∙ sym (ap (λ b. against b (after_others attribute stack o (item_others item ++ flat_map item_others items))) (after_rules-append s (item_rules item) (flat_map item_rules items))
      ∙ ap (against (after_rules attribute stack (after_rules attribute stack s (item_rules item)) (flat_map item_rules items))) (others-append o (item_others item) (flat_map item_others items)))

  -- the better one of those that stand after the single rules and after the others is
  -- the one that prevails
  stands_prevailing : (theme : Theme) (rules : List Rule) → rules ≡ single_rules theme
      → against (after_rules attribute stack None rules) (after_others attribute stack None (other_rules theme)) ≡ prevailing (candidates attribute theme stack)
  stands_prevailing theme rules e =
      ap (λ rs. against (after_rules attribute stack None rs) (after_others attribute stack None (other_rules theme))) e
      ∙ sym (items_parted theme.scopes None None tt) ∙ in_turn_prevails (candidates attribute theme stack)

same_modifier : (m : StyleModifier) (f b : Option Color) (s : Option FontStyle) → m.foreground ≡ f → m.background ≡ b → m.font_style ≡ s → m ≡ record { foreground = f; background = b; font_style = s }
same_modifier m f b s ef eb es = rw (← ef, ← eb, ← es) refl

-- the value of the better one
abbrev pub better_value : {V : Type 0} → (StyleModifier → Option V) → List (List ℕ) → List Rule → List (ScopeSelector × StyleModifier) → Option V
better_value attribute stack rules others = option_map (λ c. c.value) (against (after_rules attribute stack None rules) (after_others attribute stack None others))

-- the values that stand after the rules are the winners
pub winners_stand : (theme : Theme) (stack : List (List ℕ)) (rules : List Rule) (m : StyleModifier) → rules ≡ single_rules theme
    → m.foreground ≡ better_value (λ m. m.foreground) stack rules (other_rules theme) → m.background ≡ better_value (λ m. m.background) stack rules (other_rules theme)
    → m.font_style ≡ better_value (λ m. m.font_style) stack rules (other_rules theme) → m ≡ winners theme stack
unfolding winners
winners_stand theme stack rules m e f b s =
    same_modifier m _ _ _
    (f ∙ ap (option_map (λ (c : Candidate Color). c.value)) (stands_prevailing (λ m. m.foreground) stack theme rules e))
    (b ∙ ap (option_map (λ (c : Candidate Color). c.value)) (stands_prevailing (λ m. m.background) stack theme rules e))
    (s ∙ ap (option_map (λ (c : Candidate FontStyle). c.value)) (stands_prevailing (λ m. m.font_style) stack theme rules e))
