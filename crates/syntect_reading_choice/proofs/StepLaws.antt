-- How many steps searches took so far.
use Rattle.std.proofs.Common.{◌≡◌, ℕ, zero, suc, ◌+◌, ◌-◌, ◌*◌, ◌≤◌, ◌<◌, nat_le, Bool, true, false, ◌&&◌, List, [], ◌∷◌, ◌++◌, length, map, take, get_or, Option, Some, None, refl, sym, ap, subst, ◌∙◌, arith, length-append}
use Rattle.std.specs.List.{cons_option, filter_map, flat_map, list_all}
use Rattle.std.specs.Option.{is_some, option_copied}
use Rattle.std.specs.Prelude.{IfNone, IfSome}
use Rattle.std.proofs.lemmas.Bool.Decides.{nat_tests}
use Rattle.std.proofs.lemmas.List.{length-map, take_all}
use Rattle.std.proofs.lemmas.List.Folds.{list_all-append}
use Rattle.std.proofs.Math.Seq.{take-suc}
use Rattle.syntect_reading_choice.specs.syntect_grammar_contexts.declared.context.MatchPattern.{MatchPattern}
use Rattle.syntect_reading_choice.specs.syntect_grammar_lists.declared.flats.Flat.{Flat}
use Rattle.syntect_reading_choice.proofs.syntect_grammar_proofs.SameLaws.{same_all}
use Rattle.syntect_reading_choice.specs.syntect_grammar.Flats.{AreFlatsOf, pattern_at}
use Rattle.syntect_reading_choice.specs.syntect_grammar.Patterns.{patterns_of}
use Rattle.syntect_reading_choice.specs.syntect_grammar.declared.syntax_set.SyntaxSet.{SyntaxSet}
use Rattle.syntect_reading_state.specs.Puts.{least_steps}
use Rattle.syntect_reading_choice.specs.syntect_regex.Bounds.{pattern_is_linear, search_bound}
use Rattle.syntect_reading_choice.specs.Ahead.{IsRun, list_in, run_members}
use Rattle.syntect_reading_choice.specs.Chain.{Member}
use Rattle.syntect_reading_choice.specs.Engine.{dialect}
use Rattle.syntect_reading_choice.specs.Parts.{part_member}
use Rattle.syntect_reading_choice.specs.Parts.{part_members}
use Rattle.syntect_reading_choice.specs.Steps.{ArePutWithin, AreWithin, IsWithin, is_within, place_steps, putting}
use Rattle.syntect_reading_choice.specs.Turn.{searched_text}
use Rattle.syntect_reading_choice.specs.declared.chain.Part.{Part}
use Rattle.syntect_reading_choice.specs.declared.runs.Run.{Run}

-- ---- one pattern ----

both : (a b : Bool) → (a && b) ≡ true → (a ≡ true) × (b ≡ true)
both true b e = (refl, e)
both false b e = cc

-- a search of what is searched for a member
pub tried : (m : Member) (text : List ℕ) (long w before after : ℕ) → text ≡ searched_text dialect m.pattern m.opening
    → (pattern_is_linear text ≡ true → after ≤ before + search_bound text long) → IsWithin long w m → after ≤ before + w
tried m text long w before after e h s = by (search_bound text long) w bound k.1
  where
    k : (pattern_is_linear text ≡ true) × (nat_le (search_bound text long) w ≡ true)
    k = both (pattern_is_linear text) (nat_le (search_bound text long) w) (subst (λ (t : List ℕ). (pattern_is_linear t && nat_le (search_bound t long) w) ≡ true) (sym e) s)

    bound : after ≤ before + search_bound text long
    bound = h k.0

    by : (x y : ℕ) → after ≤ before + x → nat_le x y ≡ true → after ≤ before + y
    by x y f g = let l : x ≤ y = grind (arith, nat_tests) in omega (arith, f, l)

-- ---- the patterns of a part ----

mapped : {X Y : Type 0} (f : Y → Bool) (g : X → Y) (xs : List X) → list_all f (map g xs) ≡ list_all (λ x. f (g x)) xs
mapped f g [] = refl
mapped f g (x ∷ xs) = ap (λ b. f (g x) && b) (mapped f g xs)

-- what all that is given passes is passed by what an element gives
one_passes : {X Y : Type 0} (f : Y → Bool) (g : X → Option Y) (xs : List X) (k : ℕ) (d : X) (y : Y) → k < length xs → g (get_or xs k d) ≡ Some y → list_all f (filter_map g xs) ≡ true → f y ≡ true
one_passes f g [] k d y l e h = absurd (omega (arith, l))
one_passes {X = X} {Y = Y} f g (x ∷ xs) zero d y l e h = by (g x) e h
  where
    by : (o : Option Y) → o ≡ Some y → list_all f (cons_option o (filter_map g xs)) ≡ true → f y ≡ true
    by None q a = cc
    by (Some z) q a = let same : z ≡ y = cc in subst (λ (v : Y). f v ≡ true) same (both (f z) (list_all f (filter_map g xs)) a).0
one_passes {X = X} {Y = Y} f g (x ∷ xs) (suc k) d y l e h = one_passes f g xs k d y (omega (arith, l)) e (by (g x) h)
  where
    by : (o : Option Y) → list_all f (cons_option o (filter_map g xs)) ≡ true → list_all f (filter_map g xs) ≡ true
    by None a = a
    by (Some z) a = (both (f z) (list_all f (filter_map g xs)) a).1

-- the pattern at an index of a part is one of its members
pub within_in : (set : SyntaxSet) (run : Run) → IsRun set run → (long w : ℕ) → AreWithin long w (run_members set run) → (k : ℕ) (d : Flat) (m : MatchPattern) → k < length (list_in run.flats)
    → pattern_at set (get_or (list_in run.flats) k d) ≡ Some m → IsWithin long w (part_member run.part m)
within_in set run r long w all k d m l e =
    let test : MatchPattern → Bool = λ n. is_within long w (part_member run.part n) in
    let walk : list_all test (patterns_of set run.part.id) ≡ true = sym (mapped (is_within long w) (part_member run.part) (patterns_of set run.part.id)) ∙ all in
    one_passes test (pattern_at set) (list_in run.flats) k d m l e (same_all test (filter_map (pattern_at set) (list_in run.flats)) (patterns_of set run.part.id) r.flats.finds ∙ walk)

-- ---- one after another ----

room_by : (x k w : ℕ) → x * w ≤ (x + k) * w
room_by x k w = omega arith

pub more_room : (x y w : ℕ) → x ≤ y → x * w ≤ y * w
more_room x y w l = let e : x + (y - x) ≡ y = omega (arith, l) in subst (λ (n : ℕ). x * w ≤ n * w) e (room_by x (y - x) w)

spent_by : (made then old all rest k w : ℕ) → made + (rest + 1 + k) * w ≤ old + all → then ≤ made + w → then + rest * w ≤ old + all
spent_by made then old all rest k w h s = omega (arith, h, s)

-- where one of those that are left is done, there is still room for the others
pub spent : (made then old all left rest w : ℕ) → made + left * w ≤ old + all → then ≤ made + w → rest + 1 ≤ left → then + rest * w ≤ old + all
spent made then old all left rest w h s l =
    let e : left ≡ rest + 1 + (left - (rest + 1)) = omega (arith, l) in
    spent_by made then old all rest (left - (rest + 1)) w (subst (λ (n : ℕ). made + n * w ≤ old + all) e h) s

pub spent_last : (made then old all left w : ℕ) → made + left * w ≤ old + all → then ≤ made + w → 1 ≤ left → then ≤ old + all
spent_last made then old all left w h s l = let k : then + 0 * w ≤ old + all = spent made then old all left 0 w h s l in omega (arith, k)

pub few_flats : (set : SyntaxSet) (run : Run) → IsRun set run → length (list_in run.flats) ≤ length (run_members set run)
few_flats set run r =
    omega (arith, r.flats.few, length-map (patterns_of set run.part.id) (λ m. part_member run.part m))

pub run_spent : (set : SyntaxSet) (run : Run) (w old made left count : ℕ) → IsRun set run → count ≡ length (list_in run.flats) → made + left * w ≤ old + count * w
    → made ≤ old + place_steps (length (run_members set run)) w
run_spent set run w old made left count r e h =
    let few : count ≤ length (run_members set run) = omega (arith, e, few_flats set run r) in
    omega (arith, h, more_room count (length (run_members set run)) w few)

-- ---- the parts of a chain ----

flat_end : {X Y : Type 0} (g : X → List Y) (xs : List X) (x : X) → length (flat_map g (xs ++ x ∷ [])) ≡ length (flat_map g xs) + length (g x)
flat_end g [] x = omega (arith, length-append (g x) [])
flat_end g (y ∷ ys) x = omega (arith, length-append (g y) (flat_map g (ys ++ x ∷ [])), length-append (g y) (flat_map g ys), flat_end g ys x)

pub flat_more : {X Y : Type 0} (g : X → List Y) (xs : List X) (i : ℕ) (x : X) → i < length xs → x ≡ get_or xs i x
    → length (flat_map g (take (i + 1) xs)) ≡ length (flat_map g (take i xs)) + length (g x)
flat_more g xs i x l e =
    let next : suc i ≡ i + 1 = omega arith in
    let front : take i xs ++ x ∷ [] ≡ take (suc i) xs = sym (take-suc xs i x l ∙ ap (λ y. take i xs ++ y ∷ []) (sym e)) in
    sym (ap (λ n. length (flat_map g (take n xs))) next) ∙ sym (ap (λ ys. length (flat_map g ys)) front) ∙ flat_end g (take i xs) x

pub sum_steps : (a b c w old made then : ℕ) → c ≡ a + b → made ≤ old + place_steps a w → then ≤ made + place_steps b w → then ≤ old + place_steps c w
sum_steps a b c w old made then e h s = let k : then ≤ old + place_steps (a + b) w = omega (arith, h, s) in subst (λ (n : ℕ). then ≤ old + place_steps n w) (sym e) k

-- what all members pass is passed by those of a part
pub part_passes : {X Y : Type 0} (f : Y → Bool) (g : X → List Y) (xs : List X) (j : ℕ) (x : X) → j < length xs → x ≡ get_or xs j x → list_all f (flat_map g xs) ≡ true → list_all f (g x) ≡ true
part_passes f g [] j x l e h = absurd (omega (arith, l))
part_passes {X = X} f g (y ∷ ys) zero x l e h =
    subst (λ (z : X). list_all f (g z) ≡ true) (sym e) (both (list_all f (g y)) (list_all f (flat_map g ys)) (sym (list_all-append f (g y) (flat_map g ys)) ∙ h)).0
part_passes f g (y ∷ ys) (suc j) x l e h =
    part_passes f g ys j x (omega (arith, l)) e (both (list_all f (g y)) (list_all f (flat_map g ys)) (sym (list_all-append f (g y) (flat_map g ys)) ∙ h)).1

pub within_run : (set : SyntaxSet) (runs : List Run) (long w j : ℕ) (x : Run) → j < length runs → x ≡ get_or runs j x → AreWithin long w (flat_map (run_members set) runs) → AreWithin long w (run_members set x)
within_run set runs long w j x l e all = part_passes (is_within long w) (run_members set) runs j x l e all

module _ (set : SyntaxSet) (runs : List Run) (w old made : ℕ) where
  pub runs_spent : (then j : ℕ) (x : Run) → j < length runs → x ≡ get_or runs j x → made ≤ old + place_steps (length (flat_map (run_members set) (take j runs))) w
      → then ≤ made + place_steps (length (run_members set x)) w → then ≤ old + place_steps (length (flat_map (run_members set) (take (j + 1) runs))) w
  runs_spent then j x l e h s = sum_steps _ _ _ w old made then (flat_more (run_members set) runs j x l e) h s

  pub runs_done : (j : ℕ) → length runs ≤ j → made ≤ old + place_steps (length (flat_map (run_members set) (take j runs))) w → made ≤ old + place_steps (length (flat_map (run_members set) runs)) w
  runs_done j l h = subst (λ (rs : List Run). made ≤ old + place_steps (length (flat_map (run_members set) rs)) w) (take_all j runs l) h

-- ---- the places of a line ----

pub places_begin : (old long place m : ℕ) → old + (long + 1 - place) * m ≤ old + m * (long + 1)
places_begin old long place m =
    let few : long + 1 - place ≤ long + 1 = omega arith in
    omega (arith, more_room (long + 1 - place) (long + 1) m few)

-- ---- texts that are put in ----

at_most : (x y : ℕ) → nat_le x y ≡ true → x ≤ y
at_most x y e = grind (arith, nat_tests)

-- where each of a part's members has its text put in within so many steps,
-- so has the pattern at an index
pub put_in_one : (set : SyntaxSet) (part : Part) (flats : List Flat) (put k : ℕ) (d : Flat) (m : MatchPattern) → AreFlatsOf set part.id flats → ArePutWithin put (part_members set part) → k < length flats
    → pattern_at set (get_or flats k d) ≡ Some m → putting m (option_copied part.opening) ≤ put
put_in_one set part flats put k d m r all l e =
    let fits : Member → Bool = λ x. nat_le (putting x.pattern x.opening) put in
    let test : MatchPattern → Bool = λ n. fits (part_member part n) in
    let walk : list_all test (patterns_of set part.id) ≡ true = sym (mapped fits (part_member part) (patterns_of set part.id)) ∙ all in
    let passed : list_all test (filter_map (pattern_at set) flats) ≡ true = same_all test (filter_map (pattern_at set) flats) (patterns_of set part.id) r.finds ∙ walk in
    let one : test m ≡ true = one_passes test (pattern_at set) flats k d m l e passed in
    at_most (putting m (option_copied part.opening)) put one

-- what holds of each pattern's place holds, where there is one
pub some_flat : {P : Type 0} (flats : List Flat) (k : ℕ) → k < length flats → (Flat → P) → P
some_flat [] k l f = absurd (omega (arith, l))
some_flat (x ∷ xs) k l f = f x

-- what holds where there is something, or nothing
pub if_some : {X : Type 0} (o : Option X) (P : Type 0) → is_some o ≡ true → IfSome o (λ x. P) → P
if_some None P e h = cc
if_some (Some x) P e h = h

pub if_none : {X : Type 0} (o : Option X) (P : Type 0) → is_some o ≡ false → IfNone o P → P
if_none None P e h = h
if_none (Some x) P e h = cc

-- with those that were passed over and are not paid for yet
pub put_once_more : (old made then i passed left put : ℕ) → made + passed * put ≤ old + i * put → then + left * put ≤ made + (passed + 1) * put → then + left * put ≤ old + (i + 1) * put
put_once_more old made then i passed left put h s = omega (arith, h, s)

pub all_paid : (old made i passed put : ℕ) → made + passed * put ≤ old + i * put → made ≤ old + i * put
all_paid old made i passed put h = omega (arith, h)

-- where it takes so many at least to put a text in, others are passed over for as many
least_room : (old made put : ℕ) → old + least_steps ≤ made → made ≤ old + put → least_steps ≤ put
least_room old made put h s = omega (arith, h, s)

-- those that were passed over are paid for
pub passed_paid : (old made steps passed put : ℕ) → made ≡ old + steps → steps ≤ passed * least_steps → least_steps ≤ put → made + 0 * put ≤ old + passed * put
passed_paid old made steps passed put e f l = let room = by passed in omega (arith, e, f, room)
  where
    by : (n : ℕ) → n * least_steps ≤ n * put
    by zero = omega arith
    by (suc n) = let h = by n in omega (arith, h, l)

-- one whose text was put in
pub put_paid : (old then made passed left put : ℕ) → old + least_steps ≤ then → then ≤ old + put → (least_steps ≤ put → made + left * put ≤ then + passed * put)
    → (least_steps ≤ put) × (made + left * put ≤ old + (passed + 1) * put)
put_paid old then made passed left put h s f =
    let room = least_room old then put h s in
    let k = f room in
    (room, omega (arith, k, s))

-- and one that was passed over
pub over_paid : (old then made passed more left put : ℕ) → then ≡ old → more ≤ passed + 1 → made + left * put ≤ then + more * put → made + left * put ≤ old + (passed + 1) * put
over_paid old then made passed more left put e m h = let room = more_room more (passed + 1) put m in omega (arith, e, h, room)

-- all of a part's
pub part_put : (set : SyntaxSet) (part : Part) (flats : List Flat) (put old made count i : ℕ) → AreFlatsOf set part.id flats → count ≡ length flats → i ≤ count → made ≤ old + i * put
    → made ≤ old + length (part_members set part) * put
part_put set part flats put old made count i r e l h =
    let few : i ≤ length (part_members set part) = omega (arith, e, l, r.few, length-map (patterns_of set part.id) (λ m. part_member part m)) in
    omega (arith, h, more_room i (length (part_members set part)) put few)

pub not_put : (old n : ℕ) → old ≤ old + n
not_put old n = omega arith

module _ (set : SyntaxSet) (parts : List Part) (put old made : ℕ) where
  pub parts_put : (then j : ℕ) (x : Part) → j < length parts → x ≡ get_or parts j x → made ≤ old + length (flat_map (part_members set) (take j parts)) * put
      → then ≤ made + length (part_members set x) * put → then ≤ old + length (flat_map (part_members set) (take (j + 1) parts)) * put
  parts_put then j x l e h s = sum_steps _ _ _ put old made then (flat_more (part_members set) parts j x l e) h s

  pub parts_all_put : (j : ℕ) → length parts ≤ j → made ≤ old + length (flat_map (part_members set) (take j parts)) * put → made ≤ old + length (flat_map (part_members set) parts) * put
  parts_all_put j l h = subst (λ (rs : List Part). made ≤ old + length (flat_map (part_members set) rs) * put) (take_all j parts l) h

pub put_in_part : (set : SyntaxSet) (parts : List Part) (put j : ℕ) (x : Part) → j < length parts → x ≡ get_or parts j x → ArePutWithin put (flat_map (part_members set) parts) → ArePutWithin put (part_members set x)
put_in_part set parts put j x l e all = part_passes (λ m. nat_le (putting m.pattern m.opening) put) (part_members set) parts j x l e all

-- a turn's, with its searches after them
pub turn_worked : (old put made work steps : ℕ) → put ≤ old + work → made ≤ put + steps → made ≤ old + (work + steps)
turn_worked old put made work steps h s = omega (arith, h, s)
