-- The patterns of contexts within others, and what they leave.
use Rattle.std.proofs.Common.{◌≡◌, ℕ, zero, suc, ◌+◌, ◌-◌, ◌<◌, List, [], ◌++◌, length, drop, get_or, append-nil, Err, refl, sym, ap, ◌∙◌, subst, arith}
use Rattle.std.specs.Prelude.{flat_map, OnOk, Result}
use Rattle.std.proofs.lemmas.List.{drop_more}
use Rattle.syntect_yaml.specs.Node.{Node}
use Rattle.syntect_grammar_limits.specs.syntect_base.declared.limits.LoadWithinError.{LoadWithinError}
use Rattle.syntect_grammar_limits.specs.syntect_base.declared.limits.LoadWithinError.TheVariants as error
use Rattle.syntect_grammar_limits.specs.Patterns.{of_context, of_item}
use Rattle.syntect_grammar_limits.specs.Limited.{Left, then_count, count_each, Counts}

none_deep : (n : ℕ) (items : List Node) → n ≡ 0 → of_context n items ≡ []
unfolding of_context
none_deep zero items e = refl
none_deep (suc n) items e = absurd (omega (arith, e))

one_deeper : (n : ℕ) (items : List Node) → 0 < n → of_context n items ≡ flat_map (of_item (of_context (n - 1))) items
unfolding of_context
one_deeper zero items e = absurd (omega (arith, e))
one_deeper (suc n) items e =
    let k : suc n - 1 ≡ n = omega arith in
    ap (λ (m : ℕ). flat_map (of_item (of_context m)) items) (sym k)

pub no_room : (n : ℕ) (items : List Node) (found : List (List ℕ)) → n ≡ 0 → found ≡ found ++ of_context n items
no_room n items found e = sym (append-nil found) ∙ ap (λ (x : List (List ℕ)). found ++ x) (sym (none_deep n items e))

pub in_room : {E : Type 0} (n : ℕ) (items : List Node) (old new : List (List ℕ)) (r : Result (Unit {0}) E) → 0 < n → OnOk r (new ≡ old ++ flat_map (of_item (of_context (n - 1))) items) → OnOk r (new ≡ old ++ of_context n items)
in_room n items old new r some h = subst (λ (x : List (List ℕ)). OnOk r (new ≡ old ++ x)) (sym (one_deeper n items some)) h

-- what stops the counting of one stops that of all
stops_first : (e : LoadWithinError) (a all : Left) (f : ℕ → Left) → then_count a f ≡ all → Counts (Err e) a → Counts (Err e) all
stops_first (error.LimitReached r) a all f same h = sym same ∙ ap (λ x. then_count x f) h
stops_first (error.Refused e) a all f same h = h

pub each_stops : {B : Type 0} (f : ℕ → B → Left) (n : ℕ) (xs : List B) (i : ℕ) (d : B) (all : Left) (e : LoadWithinError)
    → i < length xs → count_each f n (drop i xs) ≡ all → Counts (Err e) (f n (get_or xs i d)) → Counts (Err e) all
each_stops f n xs i d all e l same h =
    stops_first e (f n (get_or xs i d)) all (λ m. count_each f m (drop (i + 1) xs)) (ap (count_each f n) (sym (drop_more xs i d l)) ∙ same) h
