-- Searches of first lines.
use Rattle.std.proofs.Common.{◌≡◌, ℕ, zero, suc, ◌+◌, ◌-◌, ◌≤◌, ◌<◌, Bool, true, false, List, [], ◌∷◌, ◌++◌, length, reverse, take, drop, get_or, find, Option, Some, None, refl, sym, ap, ◌∙◌, subst, arith, if◌then◌else◌}
use Rattle.std.specs.Prelude.{IfSome, IfOk, IfErr, IsUtf8, Result, Ok, Err}
use Rattle.std.specs.Option.{option_map}
use Rattle.std.specs.declared.io.Error.{Error as IoError}
use Rattle.std.proofs.lemmas.List.{take_more, reverse-append}
use Rattle.syntect_grammar_limits.specs.syntect_base.Limiting.{limit_of, IsWithinLimit}
use Rattle.syntect_grammar_limits.specs.syntect_base.Trees.{Answer, begins, RefusesLine}
use Rattle.syntect_grammar_limits.specs.syntect_base.declared.limits.Limits.{Limits}
use Rattle.syntect_grammar_limits.specs.syntect_count.Meter.{Reading, Advances, StopsAt}
use Rattle.syntect_grammar_limits.specs.syntect_count.declared.stop.Stop.{Stop}
use Rattle.syntect_grammar_limits.specs.syntect_count.declared.stop.Stop.TheVariants as stop
use Rattle.syntect_grammar.proofs.FindLaws.{told_by_line, no_line}
use Rattle.syntect_grammar.specs.Finding.{fits_line, last_fitting, without_mark, found_by_file_name, found_by_first_line, IsFoundFor, NotFoundFor}
use Rattle.syntect_grammar.specs.Link.{syntaxes_in}
use Rattle.syntect_grammar_limits.specs.syntect_grammar_contexts.declared.syntax_reference.SyntaxReference.{SyntaxReference}
use Rattle.syntect_grammar.specs.Passing.{from_io}
use Rattle.syntect_grammar.specs.declared.error.Error.{Error}
use Rattle.syntect_grammar.specs.declared.syntax_set.SyntaxSet.{SyntaxSet}
use Rattle.syntect_grammar_limits.specs.FirstLines.{NoneBehind, NotFoundWithin, ReachesSteps, StopsSearch, stopped}
use Rattle.syntect_grammar_limits.specs.declared.first_line_error.FindWithinError.{FindWithinError}
use Rattle.syntect_grammar_limits.specs.declared.first_line_error.FindWithinError.TheVariants.{Refused, LimitReached}

-- ---- what follows ----

drop_at : {X : Type 0} (xs : List X) (i : ℕ) (x : X) → i < length xs → x ≡ get_or xs i x → drop i xs ≡ x ∷ drop (i + 1) xs
drop_at [] i x l e = absurd (omega arith)
drop_at (y ∷ xs) zero x l e = ap (λ z. z ∷ xs) (sym e)
drop_at (y ∷ xs) (suc i) x l e =
    let j : i + 1 ≡ suc i = omega arith in
    let k : suc i + 1 ≡ suc (suc i) = omega arith in
    let h : drop i xs ≡ x ∷ drop (i + 1) xs = drop_at xs i x (omega arith) e in
    rw k (rw j at h)

none_there : {X : Type 0} (fits : X → Bool) (xs ys : List X) → find fits xs ≡ None → find fits (xs ++ ys) ≡ find fits ys
none_there fits [] ys e = refl
none_there {X = X} fits (x ∷ xs) ys e = by (fits x) refl e (none_there fits xs ys)
  where
    by : (b : Bool) → fits x ≡ b → find fits (x ∷ xs) ≡ None → (find fits xs ≡ None → find fits (xs ++ ys) ≡ find fits ys) → find fits (x ∷ (xs ++ ys)) ≡ find fits ys
    by true f h r = absurd (let q : Some x ≡ None = rw f at h in cc)
    by false f h r = rw f (r (rw f at h))

none_of : {X : Type 0} (fits : X → Bool) (x : X) → fits x ≡ false → find fits (x ∷ []) ≡ None
none_of fits x e = rw e refl

drop_all : {X : Type 0} (xs : List X) → drop (length xs) xs ≡ []
drop_all [] = refl
drop_all (x ∷ xs) = drop_all xs

-- one more is looked at, from the end on
one_before : {X : Type 0} (fits : X → Bool) (xs : List X) (k : ℕ) (x : X) → k < length xs → x ≡ get_or xs k x
    → find fits (reverse (take (k + 1) xs)) ≡ (if fits x then Some x else find fits (reverse (take k xs)))
one_before fits xs k x l e =
    ap (λ ys. find fits (reverse ys)) (take_more xs k x l ∙ ap (λ y. take k xs ++ y ∷ []) (sym e))
    ∙ ap (find fits) (reverse-append (take k xs) (x ∷ []))

passed_over : {X : Type 0} (fits : X → Bool) (x : X) (o : Option X) → fits x ≡ false → (if fits x then Some x else o) ≡ o
passed_over fits x o e = rw e refl

module _ {X : Type 0} (fits : X → Bool) (xs : List X) where
  pub none_at_end : (n : ℕ) → n ≡ length xs → last_fitting fits (drop n xs) ≡ None
  none_at_end n e = ap (λ k. find fits (reverse (drop k xs))) e ∙ ap (λ ys. find fits (reverse ys)) (drop_all xs)

  -- one more follows, and doesn't fit either
  pub none_more : (k : ℕ) (x : X) → k < length xs → x ≡ get_or xs k x → fits x ≡ false → last_fitting fits (drop (k + 1) xs) ≡ None → last_fitting fits (drop k xs) ≡ None
  none_more k x l e f h =
      ap (λ ys. find fits (reverse ys)) (drop_at xs k x l e)
      ∙ ap (find fits) (reverse-append (x ∷ []) (drop (k + 1) xs))
      ∙ none_there fits (reverse (drop (k + 1) xs)) (x ∷ []) h
      ∙ none_of fits x f

  -- what is found among those that are left is what was found with it
  pub one_passed : (k : ℕ) (x : X) → k < length xs → x ≡ get_or xs k x → fits x ≡ false → last_fitting fits (take (k + 1) xs) ≡ last_fitting fits (take k xs)
  one_passed k x l e f = one_before fits xs k x l e ∙ passed_over fits x (last_fitting fits (take k xs)) f

  pub found_on : (left : ℕ) (x : X) → 0 < left → left ≤ length xs → x ≡ get_or xs (left - 1) x → fits x ≡ false → last_fitting fits xs ≡ last_fitting fits (take left xs) → last_fitting fits xs ≡ last_fitting fits (take (left - 1) xs)
  found_on left x some few e f h =
      let same : left ≡ left - 1 + 1 = omega (arith, some) in
      let inside : left - 1 < length xs = omega (arith, some, few) in
      h ∙ ap (λ n. last_fitting fits (take n xs)) same ∙ one_passed (left - 1) x inside e f

  pub none_on : (left : ℕ) (x : X) → 0 < left → left ≤ length xs → x ≡ get_or xs (left - 1) x → fits x ≡ false → last_fitting fits (drop left xs) ≡ None → last_fitting fits (drop (left - 1) xs) ≡ None
  none_on left x some few e f h =
      let same : left - 1 + 1 ≡ left = omega (arith, some) in
      let inside : left - 1 < length xs = omega (arith, some, few) in
      none_more (left - 1) x inside e f (ap (λ n. last_fitting fits (drop n xs)) same ∙ h)

-- ---- steps ----

left-room : (made most : ℕ) (l : Option ℕ) → option_map (λ k. k + made) l ≡ Some most → made ≤ most
left-room made most None e = cc
left-room made most (Some k) e = let f : k + made ≡ most = cc in omega (arith, f)

few : (o : Option ℕ) (r q : Reading) → r.made ≡ 0 → r.left ≡ o → Advances r q → (old new : ℕ) → new ≡ old + q.made → IfSome o (λ most. new - old ≤ most)
few None r q z e a old new n = tt
few (Some most) r q z e a old new n =
    let s : option_map (λ k. k + q.made) q.left ≡ Some (most + r.made) = a.stays ∙ ap (option_map (λ k. k + r.made)) e in
    omega (arith, z, n, left-room q.made (most + r.made) q.left s)

all : (o : Option ℕ) (r q : Reading) → r.made ≡ 0 → r.left ≡ o → Advances r q → q.left ≡ Some 0 → (old new : ℕ) → new ≡ old + q.made → o ≡ Some (new - old)
all None r q z e a l old new n =
    let s : Some (0 + q.made) ≡ None = sym (ap (option_map (λ k. k + q.made)) l) ∙ a.stays ∙ ap (option_map (λ k. k + r.made)) e in cc
all (Some most) r q z e a l old new n =
    let s : Some (0 + q.made) ≡ Some (most + r.made) = sym (ap (option_map (λ k. k + q.made)) l) ∙ a.stays ∙ ap (option_map (λ k. k + r.made)) e in
    let f : 0 + q.made ≡ most + r.made = cc in
    let g : most ≡ new - old = omega (arith, f, z, n) in
    ap Some g

-- no more steps were made than the limit says
pub few_made : (limit : ℕ) (r q : Reading) → r.made ≡ 0 → r.left ≡ limit_of limit → Advances r q → (old new : ℕ) → new ≡ old + q.made → IsWithinLimit limit (new - old)
few_made limit r q z e a old new n = few (limit_of limit) r q z e a old new n

-- and as many where it was reached
pub all_made : (limits : Limits) (r q : Reading) → r.made ≡ 0 → r.left ≡ limit_of limits.steps → Advances r q → (w : FindWithinError) → StopsSearch q w → (old new : ℕ) → new ≡ old + q.made → ReachesSteps limits (new - old) w
all_made limits r q z e a (Refused x) s old new n = tt
all_made limits r q z e a (LimitReached l) s old new n = all (limit_of limits.steps) r q z e a s old new n

-- ---- where a search stops ----

pub stops_search : (r : Reading) (s : Stop) (index : ℕ) → StopsAt r s → StopsSearch r (stopped s index)
stops_search r stop.Memory index h = tt
stops_search r stop.Spent index h = h

pub stops_behind : (set : SyntaxSet) (line : List ℕ) (s : Stop) (index : ℕ) → index < length (syntaxes_in set) → last_fitting (fits_line line) (drop (index + 1) (syntaxes_in set)) ≡ None → NoneBehind set line (stopped s index)
stops_behind set line stop.Memory index l h = refl
stops_behind set line stop.Spent index l h = (l, h)

-- ---- syntaxes of files ----

module _ (Told : Answer → Type 0) (set : SyntaxSet) (path text : List ℕ) (same : text ≡ path) (none : found_by_file_name set path ≡ None) where
  pub no_first_line : (e : IoError) (r : Error) → r ≡ from_io e → RefusesLine Told text e → NotFoundWithin Told set path (Refused r)
  no_first_line e r q h = no_line Told set path text same none e r q h

  module _ (line : List ℕ) (utf8 : IsUtf8 line) (told : Told (begins text line)) where
    pub line_tells : {X : Type 0} (copied : X → Option SyntaxReference) (r : Result X FindWithinError) → IfOk r (λ found. copied found ≡ found_by_first_line set line) → IfOk r (λ found. IsFoundFor Told set path (copied found))
    line_tells copied (Ok found) h = told_by_line Told set path text same none line (copied found) utf8 told h
    line_tells copied (Err e) h = tt

    line_refused : (e : FindWithinError) → NoneBehind set (without_mark line) e → NotFoundWithin Told set path e
    line_refused (Refused e) h = subst (NotFoundFor Told set path) (sym h) none
    line_refused (LimitReached l) h = (none, (line, subst (λ (p : List ℕ). Told (begins p line)) same told, h))

    pub line_tells_none : {X : Type 0} (r : Result X FindWithinError) → IfErr r (NoneBehind set (without_mark line)) → IfErr r (NotFoundWithin Told set path)
    line_tells_none (Ok found) h = tt
    line_tells_none (Err e) h = line_refused e h
