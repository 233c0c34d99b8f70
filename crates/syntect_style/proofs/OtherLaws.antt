-- A scope on top that begins with none of the last scopes of a rule's path and exclusions leaves
-- the rule's score.
use Rattle.std.proofs.Common.{◌≡◌, ℕ, suc, ◌-◌, Bool, true, false, ◌||◌, if◌then◌else◌, List, [], ◌∷◌, ◌++◌, length, map, Option, Some, None, refl, sym, ap, ◌∙◌, arith}
use Rattle.std.specs.Prelude.{IfSome, is_some}
use Rattle.std.specs.List.{slice_get, find, list_all, list_any, flat_map}
use Rattle.std.specs.Option.{option_map, option_to_list}
use Rattle.syntect_style.specs.syntect_scope.Atoms.{is_prefix}
use Rattle.syntect_style.specs.syntect_scope.Choice.{choices, is_below, least_choice, score_at, unexcluded_score, excludes, selector_score}
use Rattle.syntect_style.specs.syntect_scope.declared.selector.ScopeSelector.{ScopeSelector}
use Rattle.syntect_style.specs.syntect_scope.declared.stack.ScopeStack.{ScopeStack}
use Rattle.syntect_style.specs.Candidates.{Candidate, candidate, deepest, further}
use Rattle.syntect_style.specs.Rules.{rule_of, last_rule, lasts_of, last_rules, ScoreAlike, AreOthers, after_others, against, other_rules}
use Rattle.syntect_theme.specs.declared.style.Color.{Color}
use Rattle.syntect_theme.specs.declared.style.FontStyle.{FontStyle}
use Rattle.syntect_theme.specs.declared.style.StyleModifier.{StyleModifier}
use Rattle.syntect_theme.specs.declared.theme.Theme.{Theme}

neither : (a b : Bool) → (a || b) ≡ false → (a ≡ false) × (b ≡ false)
neither true b e = cc
neither false b e = (refl, e)

any_both : {A : Type 0} (test : A → Bool) (xs ys : List A) → list_any test (xs ++ ys) ≡ (list_any test xs || list_any test ys)
any_both test [] ys = refl
any_both test (x ∷ xs) ys = ap (λ b. test x || b) (any_both test xs ys) ∙ grouped (test x) (list_any test xs) (list_any test ys)
  where
    grouped : (a b c : Bool) → (a || (b || c)) ≡ ((a || b) || c)
    grouped true b c = refl
    grouped false b c = refl

neither_any : {A : Type 0} (test : A → Bool) (xs ys : List A) → list_any test (xs ++ ys) ≡ false → (list_any test xs ≡ false) × (list_any test ys ≡ false)
neither_any test xs ys e = neither (list_any test xs) (list_any test ys) (sym (any_both test xs ys) ∙ e)

module _ (top : List ℕ) where
  -- the last scope of a path, if it has one, doesn't begin the top
  abbrev Untouched : List (List ℕ) → Type 0
  Untouched path = IfSome (slice_get path (length path - 1)) (λ last. is_prefix last top ≡ false)

  rest : (s : List ℕ) (path : List (List ℕ)) → Untouched (s ∷ path) → Untouched path
  rest s [] h = tt
  rest s (p ∷ path) h =
      let i : length (s ∷ p ∷ path) - 1 ≡ suc (length (p ∷ path) - 1) = omega arith in
      rw i at h

  same_choices : (path stack : List (List ℕ)) (at : ℕ) → Untouched path → choices path (stack ++ top ∷ []) at ≡ choices path stack at
  same_choices [] stack at h = refl
  same_choices (s ∷ []) [] at h = rw h refl
  same_choices (s ∷ p ∷ path) [] at h = either (is_prefix s top)
    where
      either : (b : Bool) → (if b then map (λ ps. at ∷ ps) [] else []) ++ [] ≡ []
      either true = refl
      either false = refl
  same_choices (s ∷ path) (t ∷ stack) at h =
      ap (λ cs. (if is_prefix s t then map (λ ps. at ∷ ps) (choices path (stack ++ top ∷ []) (suc at)) else []) ++ cs) (same_choices (s ∷ path) stack (suc at) h)
      ∙ ap (λ cs. (if is_prefix s t then map (λ ps. at ∷ ps) cs else []) ++ choices (s ∷ path) stack (suc at)) (same_choices path stack (suc at) (rest s path h))

  same_choice : (path stack : List (List ℕ)) → Untouched path → least_choice path (stack ++ top ∷ []) ≡ least_choice path stack
  same_choice path stack h = ap (λ cs. find (λ ps. list_all (is_below ps) cs) cs) (same_choices path stack 0 h)

  same_score : (path stack : List (List ℕ)) → Untouched path → unexcluded_score path (stack ++ top ∷ []) ≡ unexcluded_score path stack
  same_score [] stack h = refl
  same_score (s ∷ path) stack h = ap (λ o. option_map (score_at (s ∷ path)) o) (same_choice (s ∷ path) stack h)

  untouched : (path : List (List ℕ)) (m : StyleModifier) → list_any (λ r. is_prefix r.scope top) (last_rule path m) ≡ false → Untouched path
  untouched path m e = by (slice_get path (length path - 1)) e
    where
      by : (o : Option (List ℕ)) → list_any (λ r. is_prefix r.scope top) (option_to_list (rule_of o m)) ≡ false → IfSome o (λ last. is_prefix last top ≡ false)
      by None e = tt
      by (Some last) e = (neither (is_prefix last top) false e).0

  same_exclusions : (exclusions : List ScopeStack) (m : StyleModifier) (stack : List (List ℕ)) → list_any (λ r. is_prefix r.scope top) (flat_map (λ x. last_rule x.scopes m) exclusions) ≡ false
      → list_any (excludes (stack ++ top ∷ [])) exclusions ≡ list_any (excludes stack) exclusions
  same_exclusions [] m stack e = refl
  same_exclusions (x ∷ exclusions) m stack e =
      let w : (list_any (λ r. is_prefix r.scope top) (last_rule x.scopes m) ≡ false) × (list_any (λ r. is_prefix r.scope top) (flat_map (λ x. last_rule x.scopes m) exclusions) ≡ false)
      = neither_any (λ r. is_prefix r.scope top) (last_rule x.scopes m) (flat_map (λ x. last_rule x.scopes m) exclusions) e in
      ap (λ o. is_some o || list_any (excludes (stack ++ top ∷ [])) exclusions) (same_choice x.scopes stack (untouched x.scopes m w.0))
      ∙ ap (λ b. excludes stack x || b) (same_exclusions exclusions m stack w.1)

  same_selector : (o : ScopeSelector × StyleModifier) (stack : List (List ℕ)) → list_any (λ r. is_prefix r.scope top) (lasts_of o) ≡ false → selector_score o.0 (stack ++ top ∷ []) ≡ selector_score o.0 stack
  same_selector o stack e =
      let w : (list_any (λ r. is_prefix r.scope top) (flat_map (λ x. last_rule x.scopes o.1) o.0.excludes) ≡ false) × (list_any (λ r. is_prefix r.scope top) (last_rule o.0.path.scopes o.1) ≡ false)
      = neither_any (λ r. is_prefix r.scope top) (flat_map (λ x. last_rule x.scopes o.1) o.0.excludes) (last_rule o.0.path.scopes o.1) e in
      ap (λ b. if b then None else unexcluded_score o.0.path.scopes (stack ++ top ∷ [])) (same_exclusions o.0.excludes o.1 stack w.0)
      ∙ ap (λ s. if list_any (excludes stack) o.0.excludes then None else s) (same_score o.0.path.scopes stack (untouched o.0.path.scopes o.1 w.1))

  -- so it is with all of them
  pub alike_more : (others : List (ScopeSelector × StyleModifier)) (stack : List (List ℕ)) → list_any (λ r. is_prefix r.scope top) (last_rules others) ≡ false → ScoreAlike others stack (stack ++ top ∷ [])
  alike_more [] stack e = tt
  alike_more (o ∷ others) stack e =
      let w : (list_any (λ r. is_prefix r.scope top) (lasts_of o) ≡ false) × (list_any (λ r. is_prefix r.scope top) (last_rules others) ≡ false)
      = neither_any (λ r. is_prefix r.scope top) (lasts_of o) (last_rules others) e in
      (sym (same_selector o stack w.0), alike_more others stack w.1)

-- ---- rules that score alike ----

pub alike_self : (others : List (ScopeSelector × StyleModifier)) (stack : List (List ℕ)) → ScoreAlike others stack stack
alike_self [] stack = tt
alike_self (o ∷ others) stack = (refl, alike_self others stack)

pub alike_then : (others : List (ScopeSelector × StyleModifier)) (a b c : List (List ℕ)) → ScoreAlike others a b → ScoreAlike others b c → ScoreAlike others a c
alike_then [] a b c g h = tt
alike_then (o ∷ others) a b c g h = (g.0 ∙ h.0, alike_then others a b c g.1 h.1)

-- come to the same
same_contest : {V : Type 0} (attribute : StyleModifier → Option V) (others : List (ScopeSelector × StyleModifier)) (a b : List (List ℕ)) (best : Option (Candidate V)) → ScoreAlike others a b
    → after_others attribute a best others ≡ after_others attribute b best others
same_contest attribute [] a b best h = refl
same_contest attribute (o ∷ others) a b best h =
    ap (λ s. after_others attribute a (against best (candidate (attribute o.1) (option_map (λ power. record { power = power; place = None }) s))) others) h.0
    ∙ same_contest attribute others a b _ h.1

pub others_alike : (theme : Theme) (a b : List (List ℕ)) (foreground background : Option (Candidate Color)) (font_style : Option (Candidate FontStyle)) → ScoreAlike (other_rules theme) a b
    → AreOthers theme a foreground background font_style → AreOthers theme b foreground background font_style
others_alike theme a b foreground background font_style h s = record {
  foreground = s.foreground ∙ same_contest (λ m. m.foreground) (other_rules theme) a b None h;
  background = s.background ∙ same_contest (λ m. m.background) (other_rules theme) a b None h;
  font_style = s.font_style ∙ same_contest (λ m. m.font_style) (other_rules theme) a b None h;
}

-- ---- a path whose last scope begins no scope of the stack has no score ----

-- neither the first scope nor those above it
nowhere : (b : Bool) (o : Option ℕ) → further b o ≡ None → (b ≡ false) × (o ≡ None)
nowhere b (Some p) e = cc
nowhere true None e = cc
nowhere false None e = (refl, refl)

last_of : (x y : List ℕ) (path : List (List ℕ)) (last : List ℕ) → slice_get (x ∷ y ∷ path) (length (x ∷ y ∷ path) - 1) ≡ Some last → slice_get (y ∷ path) (length (y ∷ path) - 1) ≡ Some last
last_of x y path last e =
    let i : length (x ∷ y ∷ path) - 1 ≡ suc (length (y ∷ path) - 1) = omega arith in
    rw i at e

no_choice : (path : List (List ℕ)) (last : List ℕ) → slice_get path (length path - 1) ≡ Some last → (stack : List (List ℕ)) (at : ℕ) → deepest last stack ≡ None → choices path stack at ≡ []
no_choice [] last e stack at n = cc
no_choice (s ∷ path) last e [] at n = refl
no_choice (s ∷ []) last e (t ∷ stack) at n =
    let w : (is_prefix last t ≡ false) × (deepest last stack ≡ None) = nowhere (is_prefix last t) (deepest last stack) n in
    let g : s ≡ last = cc in
    let f : is_prefix s t ≡ false = rw g w.0 in
    ap (λ cs. (if is_prefix s t then map (λ ps. at ∷ ps) (choices [] stack (suc at)) else []) ++ cs) (no_choice (s ∷ []) last e stack (suc at) w.1)
    ∙ rw f refl
no_choice (s ∷ p ∷ path) last e (t ∷ stack) at n =
    let w : (is_prefix last t ≡ false) × (deepest last stack ≡ None) = nowhere (is_prefix last t) (deepest last stack) n in
    ap (λ cs. (if is_prefix s t then map (λ ps. at ∷ ps) (choices (p ∷ path) stack (suc at)) else []) ++ cs) (no_choice (s ∷ p ∷ path) last e stack (suc at) w.1)
    ∙ ap (λ cs. (if is_prefix s t then map (λ ps. at ∷ ps) cs else []) ++ []) (no_choice (p ∷ path) last (last_of s p path last e) stack (suc at) w.1)
    ∙ either (is_prefix s t)
  where
    either : (b : Bool) → (if b then map (λ ps. at ∷ ps) [] else []) ++ [] ≡ []
    either true = refl
    either false = refl

unscored : (path : List (List ℕ)) (last : List ℕ) (stack : List (List ℕ)) → slice_get path (length path - 1) ≡ Some last → deepest last stack ≡ None → unexcluded_score path stack ≡ None
unscored [] last stack e n = cc
unscored (s ∷ path) last stack e n = ap (λ cs. option_map (score_at (s ∷ path)) (find (λ ps. list_all (is_below ps) cs) cs)) (no_choice (s ∷ path) last e stack 0 n)

-- an exclusion leaves no score either
either_none : (b : Bool) (o : Option ℕ) → o ≡ None → (if b then None else o) ≡ None
either_none true o e = refl
either_none false o e = e

pub no_score : (selector : ScopeSelector) (last : List ℕ) (stack : List (List ℕ)) → slice_get selector.path.scopes (length selector.path.scopes - 1) ≡ Some last → deepest last stack ≡ None → selector_score selector stack ≡ None
no_score selector last stack e n = either_none (list_any (excludes stack) selector.excludes) (unexcluded_score selector.path.scopes stack) (unscored selector.path.scopes last stack e n)
