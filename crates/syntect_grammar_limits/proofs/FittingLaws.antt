-- What is left tells what fits.
use Rattle.std.proofs.Common.{◌≡◌, ℕ, suc, ◌+◌, ◌<◌, ◌≤◌, Bool, true, false, nat_le, min, List, [], ◌∷◌, ◌++◌, append_assoc, Option, Some, None, Ok, Err, refl, sym, ap, ◌∙◌, subst, arith}
use Rattle.std.specs.Prelude.{flat_map, codes, unwrap_or}
use Rattle.std.specs.List.{sum_by}
use Rattle.std.proofs.lemmas.List.Elements.{All-append, All-nil, All-cons}
use Rattle.std.proofs.lemmas.List.Sums.{sum_by-append}
use Rattle.std.proofs.lemmas.Grind.{common_steps}
use Rattle.std.proofs.lemmas.Bool.Decides.{nat_tests}
use Rattle.syntect_yaml.specs.Node.{Node, text_of}
use Rattle.syntect_yaml.specs.Yaml.{deepest}
use Rattle.syntect_yaml.specs.declared.value.Scalar.{Scalar}
use Rattle.syntect_grammar_limits.specs.syntect_grammar_rewrite.Variables.{Variables}
use Rattle.syntect_grammar_limits.specs.syntect_grammar_rewrite.Lengths.{with_uses, length_within}
use Rattle.syntect_grammar_limits.specs.syntect_base.declared.limits.Limits.{Limits}
use Rattle.syntect_grammar_limits.specs.syntect_base.declared.limits.PatternPlace.{PatternPlace}
use Rattle.syntect_grammar_limits.specs.syntect_base.declared.limits.LimitReached.{LimitReached}
use Rattle.syntect_grammar_limits.specs.syntect_base.declared.limits.LimitReached.TheVariants as reached
use Rattle.syntect_grammar_limits.specs.Patterns.{of_item, of_context}
use Rattle.syntect_grammar_limits.specs.syntect_grammar_loader.Loading.{variables_at}
use Rattle.syntect_grammar_limits.specs.syntect_grammar_loader.LoadingValues.{list_in, map_in, at}
use Rattle.syntect_grammar_limits.specs.Limited.{Left, then_count, count_each, reached_at, left_after, count_pattern, count_item, count_items, count_context, count_entry}
use Rattle.syntect_grammar_limits.specs.Fitting.{of_top, of_top_entry, counted_length, Fit, pattern_at, IsPassed, Passes, Tells, LimitsTell, BytesCounted}
use Rattle.syntect_grammar_limits.proofs.syntect_grammar_rewrite_proofs.LengthLaws.{longer}

module _ (limits : Limits) (vs : Variables) where
  sums : (ts us : List (List ℕ)) → sum_by (counted_length vs) (ts ++ us) ≡ sum_by (counted_length vs) ts + sum_by (counted_length vs) us
  sums ts us = sum_by-append (counted_length vs) ts us

  fit-both : (most n : ℕ) (ts us : List (List ℕ)) → Fit limits vs most ts → sum_by (counted_length vs) ts + n ≡ most → Fit limits vs n us → Fit limits vs most (ts ++ us)
  fit-both most n ts us f e g = record {
    each = All-append (λ t. counted_length vs t ≤ limits.pattern) ts us f.each g.each;
    together = omega (arith, sums ts us, e, g.together);
  }

  passed-later : (most n : ℕ) (ts before : List (List ℕ)) (r : LimitReached) → sum_by (counted_length vs) ts + n ≡ most → IsPassed limits vs n before r → IsPassed limits vs most (ts ++ before) r
  passed-later most n ts before reached.Text e p = p
  passed-later most n ts before (reached.Pattern place) e p = p
  passed-later most n ts before (reached.Patterns place) e p =
      let same : sum_by (counted_length vs) ((ts ++ before) ++ place.pattern ∷ []) ≡ sum_by (counted_length vs) ts + sum_by (counted_length vs) (before ++ place.pattern ∷ []) =
      ap (sum_by (counted_length vs)) (append_assoc ts before (place.pattern ∷ [])) ∙ sums ts (before ++ place.pattern ∷ []) in
      omega (arith, same, e, p)
  passed-later most n ts before reached.Folder e p = p

  passes-later : (most n : ℕ) (ts us : List (List ℕ)) (r : LimitReached) → Fit limits vs most ts → sum_by (counted_length vs) ts + n ≡ most → Passes limits vs n us r → Passes limits vs most (ts ++ us) r
  passes-later most n ts us r f e p = record {
    before = ts ++ p.before;
    after = p.after;
    in_order = ap (λ (x : List (List ℕ)). ts ++ x) p.in_order ∙ sym (append_assoc ts p.before (pattern_at r ∷ p.after));
    fit = fit-both most n ts p.before f e p.fit;
    passed = passed-later most n ts p.before r e p.passed;
  }

  passes-earlier : (most : ℕ) (ts us : List (List ℕ)) (r : LimitReached) → Passes limits vs most ts r → Passes limits vs most (ts ++ us) r
  passes-earlier most ts us r p = record {
    before = p.before;
    after = p.after ++ us;
    in_order = ap (λ (x : List (List ℕ)). x ++ us) p.in_order ∙ append_assoc p.before (pattern_at r ∷ p.after) us;
    fit = p.fit;
    passed = p.passed;
  }

  tells-later : (most n : ℕ) (ts us : List (List ℕ)) (b : Left) → Fit limits vs most ts → sum_by (counted_length vs) ts + n ≡ most → Tells limits vs n us b → Tells limits vs most (ts ++ us) b
  tells-later most n ts us (Ok m) f e t = (fit-both most n ts us f e t.0, omega (arith, sums ts us, e, t.1))
  tells-later most n ts us (Err r) f e t = passes-later most n ts us r f e t

  tells-both : (most : ℕ) (ts us : List (List ℕ)) (a : Left) (f : ℕ → Left) → Tells limits vs most ts a → ((n : ℕ) → Tells limits vs n us (f n)) → Tells limits vs most (ts ++ us) (then_count a f)
  tells-both most ts us (Ok n) f t h = tells-later most n ts us (f n) t.0 t.1 (h n)
  tells-both most ts us (Err r) f t h = passes-earlier most ts us r t

  fit-none : (most : ℕ) → Fit limits vs most []
  fit-none most = record { each = All-nil (λ t. counted_length vs t ≤ limits.pattern); together = omega arith }

  tells-none : (most : ℕ) → Tells limits vs most [] (Ok most)
  tells-none most = (fit-none most, omega arith)

  -- one pattern
  is-passed : (most : ℕ) (place : PatternPlace) (b : Bool) → nat_le limits.pattern most ≡ b → min limits.pattern most < counted_length vs place.pattern → IsPassed limits vs most [] (reached_at b place)
  is-passed most place true e h = grind (arith, nat_tests, common_steps)
  is-passed most place false e h = grind (arith, nat_tests, common_steps)

  at-place : (place : PatternPlace) (b : Bool) → pattern_at (reached_at b place) ≡ place.pattern
  at-place place true = refl
  at-place place false = refl

  one-tells : (most : ℕ) (place : PatternPlace) (b : Bool) → nat_le (counted_length vs place.pattern) (min limits.pattern most) ≡ b → Tells limits vs most (place.pattern ∷ []) (left_after (reached_at (nat_le limits.pattern most) place) most (length_within (min limits.pattern most) (with_uses vs place.pattern)))
  one-tells most place true e =
      let n : ℕ = counted_length vs place.pattern in
      let short : n ≤ min limits.pattern most = grind (arith, nat_tests, common_steps) in
      rw e (record { each = All-cons (λ t. counted_length vs t ≤ limits.pattern) place.pattern [] (omega (arith, short)) (All-nil (λ t. counted_length vs t ≤ limits.pattern)); together = omega (arith, short) }, omega (arith, short))
  one-tells most place false e =
      let n : ℕ = counted_length vs place.pattern in
      let long : min limits.pattern most < n = grind (arith, nat_tests, common_steps) in
      rw e (record {
        before = [];
        after = [];
        in_order = ap (λ (x : List ℕ). x ∷ []) (sym (at-place place (nat_le limits.pattern most)));
        fit = fit-none most;
        passed = is-passed most place (nat_le limits.pattern most) refl long;
      })

  pattern-tells : (context : List ℕ) (item most : ℕ) (t : List ℕ) → Tells limits vs most (t ∷ []) (count_pattern limits vs context item most t)
  pattern-tells context item most t = one-tells most (record { context = context; item = item; pattern = t }) (nat_le (counted_length vs t) (min limits.pattern most)) refl

  each-tells : {A : Type 0} (f : ℕ → A → Left) (of : A → List (List ℕ)) → ((n : ℕ) (x : A) → Tells limits vs n (of x) (f n x)) → (most : ℕ) (xs : List A) → Tells limits vs most (flat_map of xs) (count_each f most xs)
  each-tells f of h most [] = tells-none most
  each-tells f of h most (x ∷ xs) = tells-both most (of x) (flat_map of xs) (f most x) (λ n. count_each f n xs) (h most x) (λ n. each-tells f of h n xs)

  alone : (ts : List (List ℕ)) → flat_map (λ (t : List ℕ). t ∷ []) ts ≡ ts
  alone [] = refl
  alone (t ∷ ts) = ap (λ us. t ∷ us) (alone ts)

  item-tells : (context : List ℕ) (item most : ℕ) (v : Node) → Tells limits vs most (of_item (of_context deepest) v) (count_item limits vs context item most v)
  item-tells context item most v =
      let ts = of_item (of_context deepest) v in
      subst (λ us. Tells limits vs most us (count_item limits vs context item most v)) (alone ts)
      (each-tells (count_pattern limits vs context item) (λ (t : List ℕ). t ∷ []) (λ n t. pattern-tells context item n t) most ts)

  items-tell : (context : List ℕ) (item most : ℕ) (items : List Node) → Tells limits vs most (flat_map (of_item (of_context deepest)) items) (count_items limits vs context item most items)
  items-tell context item most [] = tells-none most
  items-tell context item most (v ∷ items) =
      tells-both most (of_item (of_context deepest) v) (flat_map (of_item (of_context deepest)) items) (count_item limits vs context item most v) (λ n. count_items limits vs context (suc item) n items)
      (item-tells context item most v) (λ n. items-tell context (suc item) n items)

  context-tells : (most : ℕ) (name : Option (List ℕ)) (items : Option (List Node)) → Tells limits vs most (of_top name items) (count_context limits vs most name items)
  context-tells most (Some name) (Some items) = items-tell name 0 most items
  context-tells most (Some name) None = tells-none most
  context-tells most None items = tells-none most

  entries-tell : (most : ℕ) (es : List (Scalar × Node)) → Tells limits vs most (flat_map of_top_entry es) (count_each (count_entry limits vs) most es)
  entries-tell most es = each-tells (count_entry limits vs) of_top_entry (λ n e. context-tells n (text_of e.0) (list_in e.1)) most es

pub limits_tell : LimitsTell
limits_tell limits v e = rw e (entries-tell limits (variables_at v) limits.patterns (unwrap_or (at map_in (codes "contexts") v) []))

pub bytes_counted : BytesCounted
bytes_counted vs t = longer vs t
